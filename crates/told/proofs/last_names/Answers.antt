-- `last_names` stays within the sheet. Assumes nothing.
use native.Mathlib.Omega.{arith}
use Rattle.told.proofs.Earlier.{clauses_few}
use Rattle.told.proofs.last_names.Goals as goal

pub overflow_add-first : goal.overflow_add-first
overflow_add-first c = omega (arith, clauses_few _ _ _ c.requires)

pub telling_of-requires : goal.telling_of-requires
telling_of-requires c =
    let asked = c.requires in
    (asked.0.clauses_laid.schemas_laid.formed, omega (arith, clauses_few _ _ _ asked))
