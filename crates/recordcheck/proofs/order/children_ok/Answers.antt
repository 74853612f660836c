-- `children_ok` meets its contract, child by child. Assumes nothing.
use mathlib.Core.Bool.{true}
use mathlib.Core.Path.{◌≡◌, sym, ◌∙◌}
use Prim.Native.Nat.{ℕ, ◌+◌}
use native.Mathlib.Omega.{arith}
use borrow.Author.Count.{below_more}
use Rattle.sheet.proofs.Trailers.{form_few}
use Rattle.recordcheck.specs.Order.{child_ok}
use Rattle.recordcheck.proofs.Children.{told}
use Rattle.recordcheck.proofs.order.children_ok.Goals as goal

pub overflow_add-c : goal.overflow_add-c
overflow_add-c c = omega (arith, c.requires.0.within, form_few c.args.rows.words.now c.args.rows.form c.requires.0.formed)

pub loop-i-preserved : goal.loop-i-preserved
loop-i-preserved c =
    let inv = c.loop-i.invariant in
    let i = c.loop-i.i in
    let ok = sym c.child_ok.ensures ∙ c.if-not-child_ok.false in (
      below_more (λ (k : ℕ). child_ok c.args.rows.words.now c.args.brood.kind c.args.brood.owner (c.args.brood.children.first + k) ≡ true) i inv.0 ok,
      told c.requires.0 i c.loop-i-test.true ok c.wide.result c.wide.ensures inv.1,
    )
