-- `reach::walk` meets its contract. The loop's invariant: characters go on from the start to here.
-- Assumes nothing.
use Prim.Native.Nat.{◌-◌}
use Rattle.reach.proofs.Reaching.{Walking}
use Rattle.reach.proofs.walk.Given as goal

abbrev pub invariant-loop-at : goal.invariant-loop-at
invariant-loop-at l = Walking l.text l.from l.at

abbrev pub decreases-loop-at : goal.decreases-loop-at
decreases-loop-at l = l.end - l.at
