-- Whether judging goes on: after what holds (`goes_on_lem`), and by the misses of a clause (`goes_stops`).
-- Assumes nothing.
use mathlib.Core.Bool.{Bool, true, not}
use mathlib.Core.Path.{◌≡◌, refl, sym, ap}
use Prim.Native.Nat.{ℕ}
use lib.Dec.{eqb}
use Rattle.meaning.specs.Rules.{Way, whole, cut}
use Rattle.plan.specs.Plan.{stops_by}
use Rattle.lent.specs.Lent.{goes_on}

pub goes_on_lem : (w : Way) → true ≡ goes_on w true
goes_on_lem whole = refl
goes_on_lem cut = refl

pub goes_stops : (w : Way) (misses : ℕ) {b : Bool} → b ≡ goes_on w (eqb misses 0) → stops_by w misses ≡ not b
unfolding stops_by
goes_stops whole misses e = ap not (sym e)
goes_stops cut misses e = ap not (sym e)
