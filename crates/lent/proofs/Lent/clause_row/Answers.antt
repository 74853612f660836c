-- `clause_row` meets its contract. Assumes nothing.
use mathlib.Core.Path.{ap}
use native.Mathlib.Omega.{arith}
use Rattle.rulesheet.specs.declared.form.SchemaRow.{SchemaRow}
use Rattle.clause.proofs.Reading.{clause_low, clause_small}
use Rattle.lent.proofs.Reading.{formed, rule_low}
use Rattle.lent.proofs.Lent.clause_row.Goals as goal

pub schema_at-schema-requires : goal.schema_at-schema-requires
schema_at-schema-requires c =
    let S = c.args.self.now.sheets in (formed S, rule_low S c.requires.inside)

pub overflow_add-schema : goal.overflow_add-schema
overflow_add-schema c =
    let S = c.args.self.now.sheets in
    omega (arith, clause_small S.rules_read (rule_low S c.requires.inside) (ap (λ (r : SchemaRow). r.first) c.schema_at-schema.ensures) c.requires.clause_inside)

pub clause_at-requires : goal.clause_at-requires
clause_at-requires c =
    let S = c.args.self.now.sheets in
    (formed S, clause_low S.rules_read (rule_low S c.requires.inside) (ap (λ (r : SchemaRow). r.first) c.schema_at-schema.ensures) c.requires.clause_inside)
