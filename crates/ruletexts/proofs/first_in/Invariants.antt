-- `first_in` meets its contract: a search through the entries of the clause. Assumes nothing.
use Rattle.ruletexts.proofs.Readable.{Searched}
use Rattle.ruletexts.proofs.first_in.Given as goal

abbrev pub invariant-loop-x : goal.invariant-loop-x
invariant-loop-x l = Searched l.words l.text l.k l.x
