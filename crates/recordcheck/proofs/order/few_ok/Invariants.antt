-- `few_ok` meets its contract. The loop's invariant: the children passed are their owner's, the table has their level, their signs are marked, and
-- no two of their names are the same. Assumes nothing.
use mathlib.Core.Bool.{true, false}
use mathlib.Core.Path.{◌≡◌}
use Prim.Native.Nat.{ℕ, ◌+◌, ◌<◌}
use Rattle.names.specs.Names.{repeats_by}
use Rattle.names.proofs.Signs.{Marked}
use Rattle.sheet.specs.Record.{doc_of}
use Rattle.recordcheck.specs.Order.{Levelled, child_ok}
use Rattle.recordcheck.proofs.order.few_ok.Given as goal

abbrev pub invariant-loop-i : goal.invariant-loop-i
invariant-loop-i l =
    ((k : ℕ) → k < l.i → child_ok l.sheet.rows.words.now l.brood.kind l.brood.owner (l.brood.children.first + k) ≡ true)
    × Levelled l.sheet.rows.words.now l.sheet.rows.form.rows l.levels
    × Marked (λ k. (doc_of l.sheet.rows.words.now l.sheet.text.now).name (l.brood.children.first + k)) l.seen l.i
    × ((k : ℕ) → k < l.i → repeats_by (λ x. (doc_of l.sheet.rows.words.now l.sheet.text.now).name (l.brood.children.first + x)) k ≡ false)
