use mathlib.Core.Bool.{true}
use mathlib.Core.Path.{ap}
use Prim.Native.Nat.{ℕ}
use native.Mathlib.Omega.{arith}
use borrow.Author.Count.{below_more}
use Rattle.sheet.specs.Record.{doc_of}
use Rattle.rulesheet.specs.declared.form.SchemaRow.{SchemaRow}
use Rattle.clause.specs.Read.{clause_in, Tries}
use Rattle.clause.proofs.Reading.{clause_low, clause_small}
use Rattle.clause.proofs.Telling.{clause_told}
use Rattle.rows.proofs.Firsts.{rows_both}
use Rattle.rows.proofs.rows_passed.Goals as goal

pub overflow_add-first : goal.overflow_add-first
overflow_add-first c =
    let rules = c.requires.rules_read in
    omega (arith, clause_small rules.0 {i = c.loop-i.i} rules.1 (ap (λ (row : SchemaRow). row.first) c.schema_at-first.ensures) (omega (arith, rules.2)))

pub plain_of-clause-requires : goal.plain_of-clause-requires
plain_of-clause-requires c =
    let rules = c.requires.rules_read in
    (rules.0.laid.clauses_laid.schemas_laid.formed, clause_low rules.0 rules.1 (ap (λ (row : SchemaRow). row.first) c.schema_at-first.ensures) (omega (arith, rules.2)))

pub loop-i-preserved : goal.loop-i-preserved
loop-i-preserved c =
    let rules = c.requires.rules_read in
    let clauses = clause_in c.args.rules.now c.args.rule_text.now c.args.p.rule.0 in
    let d = doc_of c.args.«record».now c.args.text.now in
    rows_both _ _ _ c.loop-i.invariant c.rows_pass-left.ensures (λ (j : ℕ) told tries. below_more (λ (k : ℕ). Tries d j (clauses k) true) c.loop-i.i told (clause_told d j rules.0 rules.1 (ap (λ (row : SchemaRow). row.first) c.schema_at-first.ensures) (omega (arith, rules.2)) c.plain_of-clause.ensures (tries c.args.rules.now c.args.rule_text.now)))
