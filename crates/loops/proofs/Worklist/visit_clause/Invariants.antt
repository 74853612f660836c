-- `visit_clause` meets its contract. Where i steps were passed, their schemas were visited. Assumes nothing.
use Rattle.rulesheet.specs.Sheet.{targets_of}
use Rattle.unguarded.specs.Worklist.{Visited}
use lib.ListN.{take}
use Rattle.loops.proofs.Worklist.visit_clause.Given as goal

abbrev pub invariant-loop-i : goal.invariant-loop-i
invariant-loop-i l = Visited (take l.i (targets_of l.words l.k)) l.initial.self.seen l.initial.self.queue l.initial.self.tail l.self.seen l.self.queue l.self.tail
