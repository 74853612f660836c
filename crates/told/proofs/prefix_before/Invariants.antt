-- `prefix_before` meets its contract: the elements of the clauses passed. Assumes nothing.
use mathlib.Core.List.{List}
use mathlib.Core.Path.{◌≡◌}
use Prim.Native.Nat.{ℕ, ◌*◌, ◌≤◌}
use lib.ListN.{length}
use Rattle.rulesheet.specs.Faults.{parts_max}
use Rattle.meaning.specs.Lists.{concat_map}
use Rattle.meaning.specs.Rules.{prefix_of}
use Rattle.told.proofs.Earlier.{first_clauses}
use Rattle.told.proofs.prefix_before.Given as goal

abbrev pub invariant-loop-k : goal.invariant-loop-k
invariant-loop-k l = (l.elements ≤ parts_max * l.k) × ((us : List ℕ) → l.elements ≡ length (concat_map prefix_of (first_clauses l.rules us l.first l.k)))
