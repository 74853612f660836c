-- `visit_next` meets its contract. Where j clauses were passed, the schemas that they reach were visited. Assumes nothing.
use Rattle.rulesheet.specs.Sheet.{targets_of}
use Rattle.unguarded.specs.Worklist.{Visited}
use Rattle.unguarded.proofs.Steps.{joined}
use Rattle.loops.proofs.Worklist.visit_next.Given as goal

abbrev pub invariant-loop-j : goal.invariant-loop-j
invariant-loop-j l = Visited (joined (targets_of l.words) l.row.first l.j) l.initial.self.seen l.initial.self.queue l.initial.self.tail l.self.seen l.self.queue l.self.tail
