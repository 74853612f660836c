-- What the parts of the call give each other.
-- Assumes nothing.
use Rattle.std.specs.Prelude.{ℕ, List, ◌++◌, ◌≡◌, drop}
use Rattle.meaning.specs.Lists.{range}
use Rattle.listing.specs.Listing.{records_in}
use Rattle.queue.specs.Queue.{one_by_one}

-- all records were judged: their numbers stand first in the answers, and what stands behind them stayed
pub record AllJudged (ws bs listing rs us cells₀ list₀ answers₀ cells list answers : List ℕ) : Type 0 where
  pub cells_are : cells ≡ (one_by_one ws bs listing rs us (range 0 (records_in listing)) cells₀ list₀).cells
  pub list_is : list ≡ (one_by_one ws bs listing rs us (range 0 (records_in listing)) cells₀ list₀).list
  pub answers_are : answers ≡ (one_by_one ws bs listing rs us (range 0 (records_in listing)) cells₀ list₀).numbers ++ drop (records_in listing) answers₀
