-- `reach::fill` meets its contract. The loop's invariant: the table is right so far.
-- Assumes nothing.
use Rattle.reach.specs.Reach.{Told}
use Rattle.reach.proofs.fill.Given as goal

abbrev pub invariant-loop-b : goal.invariant-loop-b
invariant-loop-b l = Told l.text l.memo
