use native.Mathlib.Omega.{arith}
use mathlib.Core.Bool.{◌&&◌, true}
use mathlib.Core.Logic.{⊎_elim}
use mathlib.Core.Path.{◌≡◌, refl, sym, ap, ◌∙◌, subst}
use Prim.Native.Nat.{ℕ, ◌+◌, ◌≤◌, ◌<◌}
use lib.Dec.{eqb, leb}
use borrow.Author.Tests.{not-false, eqb-true, leb-true}
use Rattle.laws.proofs.Tests.{le_or_lt, left, right}
use Rattle.rulesheet.specs.declared.form.SchemaRow.{SchemaRow}
use Rattle.rulesheet.specs.Faults.{schema_start, schema_fine, list_start}
use Rattle.rulesheet.proofs.Trailers.{facts, form_c}
use Rattle.rulelayout.proofs.Schemas.{schema_tested, next_schema}
use Rattle.rulepass.specs.Pass.{Come}
use Rattle.rulepass.proofs.Going.{come_begins, come_on}
use Rattle.rulepass.proofs.Ending.{tells}
use Rattle.rulepass.proofs.told.Goals as goal

pub loop-s-init : goal.loop-s-init
unfolding schema_start
loop-s-init c = (refl, λ (u : ℕ) (h : u < 0). absurd (omega arith), come_begins c.args.words.now c.args.text.now)

pub schema_at-row-requires : goal.schema_at-row-requires
schema_at-row-requires c = (c.requires.0, omega arith)

pub overflow_add-k : goal.overflow_add-k
overflow_add-k c = omega (arith, (leb-true (c.schema_at-row.result.first + c.schema_at-row.result.count) c.args.form.c (right (eqb c.schema_at-row.result.first c.loop-s.k) (leb (c.schema_at-row.result.first + c.schema_at-row.result.count) c.args.form.c) (rw (c.wide.ensures, c.wide-in-loop-s.ensures, c.wide-in-loop-s-2.ensures) at (not-false (eqb c.schema_at-row.result.first c.loop-s.k && leb (c.wide.result + c.wide-in-loop-s.result) c.wide-in-loop-s-2.result) c.if-not-row-k.false-raw)))), (facts c.args.words.now c.args.form c.requires.0).few_clauses, form_c c.args.words.now c.args.form c.requires.0)

pub pass_schema-requires : goal.pass_schema-requires
pass_schema-requires c =
    let row = c.schema_at-row.result in
    let tests = (rw (c.wide.ensures, c.wide-in-loop-s.ensures, c.wide-in-loop-s-2.ensures) at (not-false (eqb row.first c.loop-s.k && leb (c.wide.result + c.wide-in-loop-s.result) c.wide-in-loop-s-2.result) c.if-not-row-k.false-raw)) in
    let at_k = eqb-true row.first c.loop-s.k (left (eqb row.first c.loop-s.k) (leb (row.first + row.count) c.args.form.c) tests) in record {
      rules_formed = (c.requires.0, c.requires.1);
      schema_read = (c.schema_at-row.ensures, leb-true (row.first + row.count) c.args.form.c (right (eqb row.first c.loop-s.k) (leb (row.first + row.count) c.args.form.c) tests), c.loop-s.invariant.2.next ∙ ap (list_start c.args.words.now) (sym at_k));
    }

pub loop-s-preserved : goal.loop-s-preserved
loop-s-preserved c =
    let s = c.loop-s.s in
    let row = c.schema_at-row.result in
    let read = c.schema_at-row.ensures in
    let tests = (rw (c.wide.ensures, c.wide-in-loop-s.ensures, c.wide-in-loop-s-2.ensures) at (not-false (eqb c.schema_at-row.result.first c.loop-s.k && leb (c.wide.result + c.wide-in-loop-s.result) c.wide-in-loop-s-2.result) c.if-not-row-k.false-raw)) in
    let at_k = eqb-true row.first c.loop-s.k (left (eqb row.first c.loop-s.k) (leb (row.first + row.count) c.args.form.c) tests) in
    let passed = c.in-Some.ensures in (
      next_schema c.args.words.now s row.first (row.first + row.count) 0 0 row read refl refl,
      λ (u : ℕ) (h : u < s + 1). ⊎_elim
          (λ (g : s ≤ u).
          let e : s ≡ u = omega arith in
          subst (λ n. schema_fine c.args.words.now n ≡ true) e
          (sym (schema_tested c.args.words.now s row.first (row.first + row.count) c.loop-s.k c.args.form.c row read refl refl c.loop-s.invariant.0 (form_c c.args.words.now c.args.form c.requires.0)) ∙ tests))
          (λ (g : u < s). c.loop-s.invariant.1 u g)
          (le_or_lt s u),
      subst (λ (x : SchemaRow). Come c.args.words.now c.args.text.now (s + 1) (x.first + x.count) c.in-Some.next.start c.in-Some.next.steps) (sym read)
          (come_on c.args.words.now c.args.text.now s c.loop-s.k c.loop-s.pass.start c.loop-s.pass.steps c.in-Some.next c.loop-s.invariant.2 (sym at_k ∙ ap (λ (x : SchemaRow). x.first) read) passed),
    )

pub returns : goal.returns
returns c = tells c.args.words.now c.args.text.now c.args.form c.requires.0 c.loop-s.s c.loop-s.k c.loop-s.pass.start c.loop-s.pass.steps (omega arith) c.loop-s.invariant.0 c.loop-s.invariant.1 c.loop-s.invariant.2
