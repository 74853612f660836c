-- `few_ok` meets its contract, child by child. Assumes nothing.
use mathlib.Core.Bool.{true, false}
use mathlib.Core.Path.{◌≡◌, sym, ◌∙◌}
use Prim.Native.Nat.{ℕ, ◌+◌}
use native.Mathlib.Omega.{arith}
use borrow.Author.Count.{below_more}
use Rattle.names.specs.Names.{repeats_by}
use Rattle.names.proofs.Repeats.{repeats_not}
use Rattle.names.proofs.Signs.{marked_more, unseen}
use Rattle.sheet.specs.Record.{doc_of}
use Rattle.sheet.proofs.Trailers.{form_few}
use Rattle.recordcheck.specs.Order.{child_ok}
use Rattle.recordcheck.proofs.Children.{told, named}
use Rattle.recordcheck.proofs.order.few_ok.Goals as goal

pub overflow_add-c : goal.overflow_add-c
overflow_add-c c = omega (arith, c.requires.holding.0.within, form_few c.args.sheet.rows.words.now c.args.sheet.rows.form c.args.sheet.rows.formed)

pub loop-i-preserved : goal.loop-i-preserved
loop-i-preserved c =
    let words = c.args.sheet.rows.words.now in
    let text = c.args.sheet.text.now in
    let first = c.args.brood.children.first in
    let inv = c.loop-i.invariant in
    let i = c.loop-i.i in
    let ok = sym c.child_ok.ensures ∙ c.if-not-child_ok.false in
    let sign = rw (c.bytes_of.ensures ∙ named words text (first + i) c.row.result c.row.ensures) at c.sign-sign.ensures.0 in (
      below_more (λ (k : ℕ). child_ok words c.args.brood.kind c.args.brood.owner (first + k) ≡ true) i inv.0 ok,
      told c.requires.holding.0 i c.loop-i-test.true ok c.wide.result c.wide.ensures inv.1,
      marked_more inv.2 sign c.sign-sign.ensures.1,
      below_more (λ (k : ℕ). repeats_by (λ x. (doc_of words text).name (first + x)) k ≡ false) i inv.3 (repeats_not _ _ (unseen inv.2 sign c.if-seen-sign.false)),
    )
