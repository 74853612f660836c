-- `settle_line` meets its contract: each pair of the line is settled as the clause would have it. Assumes nothing.
use mathlib.Core.Path.{◌≡◌}
use Prim.Native.Nat.{ℕ, ◌+◌, ◌≤◌, ◌<◌}
use Rattle.areas.specs.Cells.{pair_is, Unsettled}
use Rattle.lent.specs.Reads.{lent_case}
use Rattle.progress.specs.State.{WhereDone}
use Rattle.progress.specs.Steps.{Standing}
use Rattle.lines.proofs.settle_line.Given as goal

abbrev pub invariant-loop-k : goal.invariant-loop-k
invariant-loop-k l =
    (l.now ≡ l.count + l.k)
    × WhereDone (lent_case l.lent) l.initial.cells l.initial.list l.count (λ d. Standing (lent_case l.lent) (pair_is l.p) l.i d l.initial.cells l.initial.list l.k l.cells l.list l.now 0)
    × ((j : ℕ) → l.k ≤ j → j < l.n → Unsettled (lent_case l.lent).m (record { row = l.q.row.0 + j; rule = l.q.rule.0 }) l.cells)
