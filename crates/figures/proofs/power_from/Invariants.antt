-- `figures::power_from` meets its contract.
-- Assumes nothing.
use Prim.Native.Nat.{◌≤◌, ◌<◌, suc}
use lib.ListN.{length}
use Rattle.numeral.specs.Numeral.{power_max}
use Rattle.figures.specs.Figures.{power_more, DigitsAt}
use Rattle.figures.proofs.Digits.{DigitsOn}
use Rattle.figures.proofs.power_from.Given as goal

abbrev pub invariant-loop-i : goal.invariant-loop-i
invariant-loop-i l =
    ((q : DigitsAt l.json l.start) → DigitsOn power_more l.json l.start 0 q l.i l.p) × (l.p ≤ suc power_max) × (length l.json < l.start → l.i ≤ l.start)
