-- `namesakes::first_by_pairs` meets its contract. No name stands before the first, so the search begins at the second. Assumes nothing.
use Rattle.laws.proofs.Passing.{Passing}
use Rattle.names.specs.Lain.{repeats_in}
use Rattle.namesakes.proofs.first_by_pairs.Given as goal

abbrev pub invariant-loop-i : goal.invariant-loop-i
invariant-loop-i l = Passing (repeats_in l.lain) l.lain.names.count l.i
