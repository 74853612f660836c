-- `nametables::first_among` meets its contract. The loop's invariant: what is left to search tells what the whole search tells, and the names
-- passed stand in the tables. Assumes nothing.
use Rattle.laws.proofs.Passing.{Passing}
use Rattle.names.specs.Lain.{repeats_in}
use Rattle.ways.specs.Tree.{StandingIn}
use Rattle.nametables.proofs.first_among.Given as goal

abbrev pub invariant-loop-i : goal.invariant-loop-i
invariant-loop-i l =
    Passing (repeats_in l.lain) l.lain.names.count l.i
    × StandingIn l.lain l.tables l.i
