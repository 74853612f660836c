-- `ways::spot_of` meets its contract. The loop's invariant: each earlier name that is the same stands at the node or further on, and
-- the next comparison may start at `from`. The node rises, since a name stands under an earlier one. Assumes nothing.
use mathlib.Core.Path.{◌≡◌}
use Prim.Native.Nat.{◌+◌, ◌-◌, ◌<◌}
use lib.ListN.{length}
use Rattle.names.specs.Lain.{name_in}
use Rattle.ways.specs.Tree.{StoodIn}
use Rattle.ways.proofs.Ways.{Seeking, From}
use Rattle.ways.proofs.Stood.spot_of.Given as goal

abbrev pub invariant-loop-k : goal.invariant-loop-k
invariant-loop-k l =
    Seeking l.places (name_in l.lain) l.self.nodes.now l.self.marks.now l.i l.node l.mark
    × From l.places l.node l.mark l.from
    × (l.i < l.lain.names.count)
    × StoodIn l.lain l.self l.i
    × (l.name ≡ name_in l.lain l.i)
    × (length l.name < 4_294_967_296)

abbrev pub decreases-loop-k : goal.decreases-loop-k
decreases-loop-k l = (l.places + l.i) - l.node
