-- `rows_ok` meets its contract. The loop's invariant: the rows passed are in order, and the table has the levels of those that were met.
-- Assumes nothing.
use Prim.Native.Nat.{ℕ, ◌<◌}
use Rattle.recordcheck.specs.Order.{Levelled, Ordered}
use Rattle.recordcheck.proofs.order.rows_ok.Given as goal

abbrev pub invariant-loop-j : goal.invariant-loop-j
invariant-loop-j l =
    ((k : ℕ) → k < l.j → Ordered l.sheet.rows.words.now l.sheet.text.now k) × Levelled l.sheet.rows.words.now l.sheet.rows.form.rows l.levels
