-- `start_of` meets its contract. Assumes nothing.
use mathlib.Core.Path.{ap, subst}
use native.Mathlib.Omega.{arith}
use Rattle.rulesheet.specs.declared.form.SchemaRow.{SchemaRow}
use Rattle.few.specs.Asked.{told}
use Rattle.clause.specs.Read.{clause_in, before_in}
use Rattle.clause.proofs.Reading.{clause_low, clause_small, clause_read}
use Rattle.told.specs.Read.{Started}
use Rattle.told.proofs.Earlier.{told_started}
use Rattle.told.proofs.start_of.Goals as goal

pub overflow_add-first : goal.overflow_add-first
overflow_add-first c =
    let asked = c.requires in
    omega (arith, clause_small asked.0 asked.1 (ap (λ (row : SchemaRow). row.first) c.schema_at-first.ensures) asked.2)

pub told_of-clause-requires : goal.told_of-clause-requires
told_of-clause-requires c =
    let asked = c.requires in
    (asked.0.laid.clauses_laid.schemas_laid.formed, clause_low asked.0 asked.1 (ap (λ (row : SchemaRow). row.first) c.schema_at-first.ensures) asked.2)

pub returns : goal.returns
returns c =
    let asked = c.requires in
    let read = (clause_read asked.0 asked.1 (ap (λ (row : SchemaRow). row.first) c.schema_at-first.ensures) asked.2 told c.told_of-clause.ensures.means_told c.told_of-clause.ensures.tested) in
    told_started (clause_in c.args.rules.now c.args.rule_text.now c.args.s.0 c.args.i) (subst (λ x. Started (before_in c.args.rules.now c.args.rule_text.now c.args.s.0 c.args.i) x c.start_in.result) read.means (c.start_in.ensures c.args.rule_text.now))
