-- `last_step` meets its contract. Where the clauses from k on were passed, they have no step. Assumes nothing.
use Rattle.unguarded.specs.Lengths.{Quiet}
use Rattle.links.proofs.last_step.Given as goal

abbrev pub invariant-loop-k : goal.invariant-loop-k
invariant-loop-k l =
    Quiet l.words l.k l.to
