-- The first rows of many.
-- Assumes nothing.
use Rattle.std.specs.Prelude.{ℕ, ◌+◌, ◌≤◌, ◌<◌, Bool, true, ◌≡◌}
use Rattle.sheet.specs.declared.record.RecordRow.{RecordRow}

-- the first r of the n rows from `row` on are So
pub record FirstRows (row n r : ℕ) (So : ℕ → Type 0) : Type 0 where
  pub within : r ≤ n
  pub each : (k : ℕ) → k < r → So (row + k)

-- row j passes a test, by what the test tells of a row
pub record Passing (told : RecordRow → Bool → Type 0) (j : ℕ) : Type 0 where
  pub at : RecordRow
  pub at_is : at.0 ≡ j
  pub passes : told at true
