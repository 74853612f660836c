-- `first_repeated` meets its contract: `least` is the lowest repeated name of the rows whose owner was passed. Assumes nothing.
use Rattle.sheet.proofs.Siblings.{Least}
use Rattle.recordnames.proofs.first_repeated.Given as goal

abbrev pub invariant-loop-o : goal.invariant-loop-o
invariant-loop-o l = Least l.words l.text l.o l.least
