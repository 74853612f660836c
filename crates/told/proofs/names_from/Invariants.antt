-- `names_from` meets its contract: the clauses passed name nothing. Assumes nothing.
use mathlib.Core.List.{[], List}
use mathlib.Core.Path.{◌≡◌}
use Prim.Native.Nat.{ℕ}
use Rattle.meaning.specs.Lists.{concat_map}
use Rattle.meaning.specs.Rules.{names_of}
use Rattle.told.proofs.Earlier.{first_clauses}
use Rattle.told.proofs.names_from.Given as goal

abbrev pub invariant-loop-k : goal.invariant-loop-k
invariant-loop-k l = (us : List ℕ) → concat_map names_of (first_clauses l.rules us l.first l.k) ≡ []
