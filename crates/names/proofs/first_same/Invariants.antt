-- `names::first_same` meets its contract. The loop's invariant: what is left to search tells what the whole search tells.
-- Assumes nothing.
use Rattle.laws.proofs.Passing.{Passing}
use Rattle.names.specs.Names.{name_at, same_as}
use Rattle.names.proofs.first_same.Given as goal

abbrev pub invariant-loop-k : goal.invariant-loop-k
invariant-loop-k l = Passing (same_as (name_at l.words l.text l.names) l.i) l.i l.k
