-- `counting::has_characters` meets its contract. The loop's invariant is that of `characters`.
-- Assumes nothing.
use Rattle.counting.proofs.Passing.{Passed}
use Rattle.counting.proofs.has_characters.Given as goal

abbrev pub invariant-loop-many : goal.invariant-loop-many
invariant-loop-many l = Passed l.text l.fn.range l._many l.at
