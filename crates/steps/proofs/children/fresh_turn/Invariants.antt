-- `fresh_turn` meets its contract: each child that was passed over is marked. Assumes nothing.
use mathlib.Core.Bool.{true}
use mathlib.Core.Path.{◌≡◌}
use Prim.Native.Nat.{ℕ, ◌+◌, ◌≤◌, ◌<◌}
use Rattle.areas.specs.Cells.{column}
use Rattle.steps.proofs.children.fresh_turn.Given as goal

-- the steps passed over, of either clause
abbrev pub invariant-loop-at : goal.invariant-loop-at
invariant-loop-at l =
    (((k : ℕ) → l.x ≤ k → k < l.at → column l.m l.cells l.p.rule.0 (l.first + k) ≡ true))
