-- `namesakes::first_of_few` meets its contract. The loop's invariant: what is left to search tells what the whole search tells, and the signs of the
-- names passed are marked. Assumes nothing.
use Rattle.laws.proofs.Passing.{Passing}
use Rattle.names.specs.Lain.{name_in, repeats_in}
use Rattle.names.proofs.Signs.{Marked}
use Rattle.namesakes.proofs.first_of_few.Given as goal

abbrev pub invariant-loop-i : goal.invariant-loop-i
invariant-loop-i l =
    Passing (repeats_in l.lain) l.lain.names.count l.i × Marked (name_in l.lain) l.seen l.i
