-- `on_loop` meets its contract. The schemas at the first `head` places of the queue had their steps visited; at the end the mark of s tells. Assumes nothing.
use Prim.Native.Nat.{◌-◌}
use Rattle.rulesheet.specs.Sheet.{next_of}
use Rattle.rulesheet.specs.Faults.{schemas_max}
use Rattle.unguarded.proofs.Worklists.{Working}
use Rattle.loops.proofs.on_loop.Given as goal

abbrev pub invariant-loop-head : goal.invariant-loop-head
invariant-loop-head l = Working (next_of l.words) l.s.0 l.list.seen l.list.queue l.list.tail l.head

abbrev pub decreases-loop-head : goal.decreases-loop-head
decreases-loop-head l = schemas_max - l.head
