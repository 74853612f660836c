-- `pass` meets its contract. Where the clauses from k on were passed, the table tells of each of their steps, and what they asked for too soon is marked.
-- Assumes nothing.
use mathlib.Core.Path.{◌≡◌}
use lib.ListN.{length}
use Rattle.unguarded.proofs.Passes.{Passing}
use Rattle.chains.proofs.pass.Given as goal

abbrev pub invariant-loop-k : goal.invariant-loop-k
invariant-loop-k l =
    Passing l.words l.initial.table l.table l.late l.again l.s.0 l.k × (length l.table ≡ length l.initial.table) × (length l.late ≡ length l.initial.late)

abbrev pub decreases-loop-k : goal.decreases-loop-k
decreases-loop-k l =
    l.k
