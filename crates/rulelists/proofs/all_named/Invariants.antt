-- `all_named` meets its contract. Assumes nothing.
use mathlib.Core.Bool.{true}
use mathlib.Core.Path.{◌≡◌}
use Prim.Native.Nat.{ℕ, ◌≤◌, ◌<◌}
use Rattle.rulesheet.specs.Sheet.{entry_at}
use Rattle.rulelists.specs.Lists.{named_ok}
use Rattle.rulelists.proofs.all_named.Given as goal

abbrev pub invariant-loop-x : goal.invariant-loop-x
invariant-loop-x l = (y : ℕ) → l.fn.list.first ≤ y → y < l.x → named_ok l.size l.bound (entry_at l.words y) ≡ true
