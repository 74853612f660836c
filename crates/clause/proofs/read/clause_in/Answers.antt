-- `clause_in` meets its contract. Assumes nothing.
use mathlib.Core.Path.{ap}
use native.Mathlib.Omega.{arith}
use Rattle.rulesheet.specs.declared.form.SchemaRow.{SchemaRow}
use Rattle.clause.proofs.Reading.{clause_low, clause_small, clause_read}
use Rattle.clause.proofs.read.clause_in.Goals as goal

pub overflow_add-first : goal.overflow_add-first
overflow_add-first c =
    let A = c.requires in
    omega (arith, clause_small A.0 A.1 (ap (λ (row : SchemaRow). row.first) c.schema_at-first.ensures) A.2)

pub clause_of-requires : goal.clause_of-requires
clause_of-requires c =
    let A = c.requires in
    (A.0.laid.clauses_laid.schemas_laid.formed, clause_low A.0 A.1 (ap (λ (row : SchemaRow). row.first) c.schema_at-first.ensures) A.2)

pub returns : goal.returns
returns c =
    let A = c.requires in
    clause_read A.0 A.1 (ap (λ (row : SchemaRow). row.first) c.schema_at-first.ensures) A.2 (λ d. d) c.clause_of.ensures.means_clause c.clause_of.ensures.tested
