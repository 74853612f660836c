-- `ways::child` meets its contract. The loop's invariant: no name of the chain that was passed leads on. Assumes nothing.
use mathlib.Core.Path.{◌≡◌}
use Prim.Native.Nat.{◌<◌}
use Rattle.names.specs.Lain.{name_in}
use Rattle.ways.specs.Tree.{letter_of, place_at, Leads, StoodIn}
use Rattle.ways.proofs.Chains.{Walk}
use Rattle.ways.proofs.Stood.child.Given as goal

abbrev pub invariant-loop-c : goal.invariant-loop-c
invariant-loop-c l =
    Walk (place_at l.places l.self.nodes.now) l.place (Leads l.places (name_in l.lain) l.self.nodes.now l.self.marks.now l.node l.mark l.letter) l.i l.c
    × (l.i < l.lain.names.count)
    × StoodIn l.lain l.self l.i
    × (l.letter ≡ letter_of l.places l.node l.mark (name_in l.lain l.i))

abbrev pub decreases-loop-c : goal.decreases-loop-c
decreases-loop-c l = l.c
