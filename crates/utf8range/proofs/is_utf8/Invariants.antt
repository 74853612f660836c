-- `utf8range::is_utf8` meets its contract. The loop's invariant: what is left, from the state on, tells what the whole part tells.
-- Assumes nothing.
use mathlib.Core.Path.{◌≡◌}
use Prim.Native.Nat.{◌+◌, ◌-◌}
use Rattle.utf8range.proofs.Carrying.{Carried}
use Rattle.utf8range.proofs.is_utf8.Given as goal

abbrev pub invariant-loop-at : goal.invariant-loop-at
invariant-loop-at l = (l.end ≡ l.fn.range.start + l.fn.range.length) × Carried l.text l.fn.range l.s l.at

abbrev pub decreases-loop-at : goal.decreases-loop-at
decreases-loop-at l = l.end - l.at
