-- What one pass over the rows of a record sheet finds.
-- Assumes nothing.
use Rattle.std.specs.Prelude.{List, ◌≡◌, ℕ, ◌≤◌}
use Rattle.laws.specs.Lowest.{lowest}
use Rattle.sheet.specs.Record.{rows_word}
use Rattle.sheet.specs.Faults.{at_fault, too_deep}
use Rattle.recordlayout.specs.declared.Pass.{Pass}

-- what one pass over the rows finds: the lowest row at fault and, where none is, the lowest row too deep
pub record Passed (ws : List ℕ) (pass : Pass) : Type 0 where
  pub fault_is : pass.fault ≡ lowest (at_fault ws) (rows_word ws)
  pub deep_is : rows_word ws ≤ pass.fault → pass.deep ≡ lowest (too_deep ws) (rows_word ws)
