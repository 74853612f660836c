-- `ascii::all_ascii` meets its contract. The loop's invariant: ASCII was passed so far.
-- Assumes nothing.
use Prim.Native.Nat.{◌-◌, ◌≤◌}
use Rattle.ascii.specs.Runs.{Ascii}
use Rattle.ascii.proofs.all_ascii.Given as goal

abbrev pub invariant-loop-at : goal.invariant-loop-at
invariant-loop-at l = (l.at ≤ l.n) × Ascii l.text 0 l.at

abbrev pub decreases-loop-at : goal.decreases-loop-at
decreases-loop-at l = l.n - l.at
