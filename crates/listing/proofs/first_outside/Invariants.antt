-- `first_outside` meets its contract: the records that were passed lie inside. Assumes nothing.
use mathlib.Core.Bool.{false}
use mathlib.Core.Path.{◌≡◌}
use Prim.Native.Nat.{ℕ, ◌<◌}
use Rattle.listing.specs.Listing.{outside}
use Rattle.listing.proofs.first_outside.Given as goal

abbrev pub invariant-loop-k : goal.invariant-loop-k
invariant-loop-k l = (j : ℕ) → j < l.k → outside l.words l.bytes l.listing j ≡ false
