use native.Mathlib.Omega.{arith}
use mathlib.Core.Path.{◌≡◌, refl, sym, ap, ◌∙◌}
use mathlib.Core.Bool.{not}
use Prim.Native.Nat.{◌+◌}
use native.Mathlib.Nat.{sub-zero}
use Rattle.laws.proofs.Searches.{left, part_ends, part_passed, stops}
use Rattle.rulesheet.specs.declared.form.SchemaRow.{SchemaRow}
use Rattle.rulesheet.specs.Sheet.{schemas_word, clauses_word, schema_at}
use Rattle.rulesheet.specs.Faults.{schema_start, list_start, clause_fault}
use Rattle.rulesheet.proofs.Trailers.{facts, form_m}
use Rattle.rulesheet.proofs.Taking.{schema_first, schema_within, clause_untaken}
use Rattle.rulelayout.proofs.Schemas.{next_schema}
use Rattle.ruleclauses.proofs.first_bad_clause.Goals as goal

pub loop-s-init : goal.loop-s-init
unfolding schema_start list_start
loop-s-init c = (refl, refl, rw sub-zero)

pub schema_at-row-requires : goal.schema_at-row-requires
schema_at-row-requires c = (c.requires.formed, omega arith)

pub overflow_add-k : goal.overflow_add-k
overflow_add-k c = omega (arith, schema_within c.args.words.now c.args.form c.requires c.loop-s.s (omega arith), ap (λ (x : SchemaRow). x.first) c.schema_at-row.ensures, ap (λ (x : SchemaRow). x.count) c.schema_at-row.ensures, (facts c.args.words.now c.args.form c.requires.formed).few_clauses)

pub pass_clauses-requires : goal.pass_clauses-requires
pass_clauses-requires c = (c.requires, omega arith, c.loop-s.invariant.1 ∙ ap (list_start c.args.words.now) (c.loop-s.invariant.0 ∙ sym (schema_first c.args.words.now c.args.form c.requires c.loop-s.s (omega arith))))

pub returns-in-Err : goal.returns-in-Err
returns-in-Err c = sym (c.loop-s.invariant.2 ∙ ap (λ i. left (clause_fault c.args.words.now) (clauses_word c.args.words.now) i) (c.loop-s.invariant.0 ∙ sym (schema_first c.args.words.now c.args.form c.requires c.loop-s.s (omega arith))) ∙ part_ends (clause_fault c.args.words.now) (clauses_word c.args.words.now) (schema_at c.args.words.now c.loop-s.s).count (schema_at c.args.words.now c.loop-s.s).first c.in-Err.fault (schema_within c.args.words.now c.args.form c.requires c.loop-s.s (omega arith)) c.in-Err.ensures.fault_is c.in-Err.ensures.inside)

pub loop-s-preserved : goal.loop-s-preserved
loop-s-preserved c = (next_schema c.args.words.now c.loop-s.s c.schema_at-row.result.first (c.schema_at-row.result.first + c.schema_at-row.result.count) 0 0 c.schema_at-row.result c.schema_at-row.ensures refl refl, c.in-Ok.ensures.start_is ∙ ap (λ (x : SchemaRow). list_start c.args.words.now (x.first + x.count)) (sym c.schema_at-row.ensures), c.loop-s.invariant.2 ∙ ap (λ i. left (clause_fault c.args.words.now) (clauses_word c.args.words.now) i) (c.loop-s.invariant.0 ∙ sym (schema_first c.args.words.now c.args.form c.requires c.loop-s.s (omega arith))) ∙ part_passed (clause_fault c.args.words.now) (clauses_word c.args.words.now) (schema_at c.args.words.now c.loop-s.s).count (schema_at c.args.words.now c.loop-s.s).first ((schema_at c.args.words.now c.loop-s.s).first + (schema_at c.args.words.now c.loop-s.s).count) (schema_within c.args.words.now c.args.form c.requires c.loop-s.s (omega arith)) c.in-Ok.ensures.none_is (omega arith) ∙ ap (λ (x : SchemaRow). left (clause_fault c.args.words.now) (clauses_word c.args.words.now) (x.first + x.count)) (sym c.schema_at-row.ensures))

pub returns : goal.returns
returns c = sym (c.loop-s.invariant.2 ∙ stops (clause_fault c.args.words.now) (clauses_word c.args.words.now) c.loop-s.k (λ h. ap not (clause_untaken c.args.words.now c.args.form c.requires c.loop-s.k (let e : c.loop-s.s ≡ schemas_word c.args.words.now = omega (arith, form_m c.args.words.now c.args.form c.requires.formed) in omega (arith, c.loop-s.invariant.0 ∙ ap (schema_start c.args.words.now) e)))))
