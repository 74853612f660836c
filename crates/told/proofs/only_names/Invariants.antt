-- `only_names` meets its contract: each clause passed over marks no member but those that it names. Assumes nothing.
use mathlib.Core.Bool.{true}
use mathlib.Core.List.{List}
use mathlib.Core.Path.{◌≡◌}
use Prim.Native.Nat.{ℕ, ◌+◌, ◌<◌}
use Rattle.rulesheet.specs.Sheet.{clause_of}
use Rattle.told.specs.Read.{marks_named}
use Rattle.told.proofs.only_names.Given as goal

abbrev pub invariant-loop-k : goal.invariant-loop-k
invariant-loop-k l = (us : List ℕ) (j : ℕ) → j < l.k → marks_named (clause_of l.rules us (l.first + j)) ≡ true
