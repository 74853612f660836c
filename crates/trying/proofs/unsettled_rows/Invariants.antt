-- `unsettled_rows` meets its contract: each row that was passed over is not settled. Assumes nothing.
use Prim.Native.Nat.{ℕ, ◌+◌, ◌<◌}
use Rattle.areas.specs.Cells.{Unsettled}
use Rattle.lent.specs.Lent.{pair}
use Rattle.trying.proofs.unsettled_rows.Given as goal

abbrev pub invariant-loop-k : goal.invariant-loop-k
invariant-loop-k l = (j : ℕ) → j < l.k → Unsettled l.m (pair (l.q.row.0 + j) l.q.rule.0) l.cells
