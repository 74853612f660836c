-- `clauses_of` meets its contract. Assumes nothing.
use native.Mathlib.Omega.{arith}
use Rattle.lent.proofs.Reading.{formed, schemas_are}
use Rattle.lent.proofs.Lent.clauses_of.Goals as goal

pub schema_at-requires : goal.schema_at-requires
schema_at-requires c =
    let S = c.args.self.now.sheets in (formed S, omega (arith, schemas_are S, c.requires))
