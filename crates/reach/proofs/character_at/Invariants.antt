-- `reach::character_at` meets its contract. The loop's invariant: the bytes passed are no character, and the state tells of what is left.
-- Assumes nothing.
use Rattle.reach.proofs.Reaching.{Begun}
use Rattle.reach.proofs.character_at.Given as goal

abbrev pub invariant-loop-to : goal.invariant-loop-to
invariant-loop-to l = Begun l.text l.at l.s l.to
