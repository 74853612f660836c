-- `children_ok` meets its contract. The loop's invariant: the children passed are their owner's, and the table has their level. Assumes nothing.
use mathlib.Core.Bool.{true}
use mathlib.Core.Path.{◌≡◌}
use Prim.Native.Nat.{ℕ, ◌+◌, ◌<◌}
use Rattle.recordcheck.specs.Order.{Levelled, child_ok}
use Rattle.recordcheck.proofs.order.children_ok.Given as goal

abbrev pub invariant-loop-i : goal.invariant-loop-i
invariant-loop-i l =
    ((k : ℕ) → k < l.i → child_ok l.rows.words.now l.brood.kind l.brood.owner (l.brood.children.first + k) ≡ true)
    × Levelled l.rows.words.now l.rows.form.rows l.levels
