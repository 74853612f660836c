-- `strings::copy_string` meets its contract: what is left to read and write is what there was. A spot has its parts one in the other: to, at, waits.
-- Assumes nothing.
use mathlib.Core.Path.{◌≡◌}
use Prim.Native.Nat.{◌-◌, ◌<◌}
use lib.ListN.{length}
use Rattle.std.specs.Prelude.{IfSome}
use Rattle.escapes.specs.Escapes.{waiting}
use Rattle.strings.specs.Atoms.{Inside, Onward}
use Rattle.strings.proofs.copy_string.Given as goal

abbrev pub invariant-loop-spot : goal.invariant-loop-spot
invariant-loop-spot l =
    ((s : Inside l.json l.start 0) → Onward l.json l.start 0 l.from l.initial.area s l.spot.0 (waiting l.spot.1.1.0) l.spot.1.0 l.area) × (length l.area ≡ length l.initial.area) × IfSome l.spot.1.1.0 (λ high. 0 < high)

abbrev pub decreases-loop-spot : goal.decreases-loop-spot
decreases-loop-spot l =
    length l.json - l.spot.0
