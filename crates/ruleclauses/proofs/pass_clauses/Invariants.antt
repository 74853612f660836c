-- `pass_clauses` meets its contract: the laws of `Passes` at each place of the loop. Assumes nothing.
use Rattle.ruleclauses.proofs.Passes.{Going}
use Rattle.ruleclauses.proofs.pass_clauses.Given as goal

abbrev pub invariant-loop-k : goal.invariant-loop-k
invariant-loop-k l = Going l.words l.first l.end l.start l.last l.k
