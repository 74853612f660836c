-- `all_later` meets its contract. Assumes nothing.
use Prim.Native.Nat.{ℕ, ◌≤◌, ◌<◌}
use Rattle.rulesheet.specs.Sheet.{entry_at}
use Rattle.rulesteps.specs.Later.{schema_in}
use Rattle.rulesteps.proofs.all_later.Given as goal

abbrev pub invariant-loop-x : goal.invariant-loop-x
invariant-loop-x l = (y : ℕ) → l.fn.list.first ≤ y → y < l.x → l.s.0 < schema_in l.named (entry_at l.words y)
