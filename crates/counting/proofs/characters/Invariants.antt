-- `counting::characters` meets its contract. The loop's invariant: the characters passed and those that are left are all of them.
-- Assumes nothing.
use Prim.Native.Nat.{◌-◌}
use Rattle.counting.proofs.Passing.{Passed}
use Rattle.counting.proofs.characters.Given as goal

abbrev pub invariant-loop-at : goal.invariant-loop-at
invariant-loop-at l = Passed l.text l.fn.range l.many l.at

abbrev pub decreases-loop-at : goal.decreases-loop-at
decreases-loop-at l = l.end - l.at
