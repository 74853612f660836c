-- `figures::digits_from` meets its contract.
-- Assumes nothing.
use Prim.Native.Nat.{◌≤◌, ◌<◌}
use lib.ListN.{length}
use Rattle.numeral.specs.Numeral.{kept_more}
use Rattle.figures.specs.Figures.{Sound, DigitsAt}
use Rattle.figures.proofs.Digits.{DigitsOn}
use Rattle.figures.proofs.digits_from.Given as goal

abbrev pub invariant-loop-i : goal.invariant-loop-i
invariant-loop-i l =
    ((q : DigitsAt l.json l.start) → DigitsOn kept_more l.json l.start l.initial.k q l.i l.k) × Sound l.k l.i × (length l.json < l.start → l.i ≤ l.start)
