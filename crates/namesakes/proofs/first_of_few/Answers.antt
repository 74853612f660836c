use mathlib.Core.Path.{◌≡◌, refl, ◌∙◌}
use native.Mathlib.Omega.{arith}
use borrow.Author.Tests.{lt-ltb, le-ltb}
use Rattle.laws.proofs.Passing.{begin, here, further, nowhere}
use Rattle.names.proofs.Repeats.{repeats_is, repeats_not}
use Rattle.names.proofs.Signs.{marked_none, marked_more, unseen}
use Rattle.namesakes.proofs.first_of_few.Goals.{then-seen-sign+else-name-gt-LONG+else-first_same-i, else-seen-sign}
use Rattle.namesakes.proofs.first_of_few.Goals as goal

pub loop-i-init : goal.loop-i-init
loop-i-init c = (begin _ _, marked_none _ _ refl)

pub sign-sign-requires : goal.sign-sign-requires
sign-sign-requires c = tt

pub bounds-seen-sign : goal.bounds-seen-sign
bounds-seen-sign c = c.sign-sign.ensures.1

pub returns-then-name-gt-LONG : goal.returns-then-name-gt-LONG
returns-then-name-gt-LONG c = c.first_in_tables.ensures

pub first_same-requires : goal.first_same-requires
first_same-requires c = (c.args.lain.now.lying, omega arith)

pub returns-then-first_same-i : goal.returns-then-first_same-i
returns-then-first_same-i c =
    here c.loop-i.invariant.0 (omega arith)
    (repeats_is _ _ ∙ lt-ltb _ _ (rw c.first_same.ensures at c.if-first_same-i.true))

pub bounds-seen-sign-in-loop-i : goal.bounds-seen-sign-in-loop-i
bounds-seen-sign-in-loop-i c = c.sign-sign.ensures.1

pub loop-i-preserved : goal.loop-i-preserved
loop-i-preserved c =
    let inv = c.loop-i.invariant in
    let sign = rw c.name-name.ensures.bytes at c.sign-sign.ensures.0 in (
      further inv.0 (omega arith)
          (elim c.if-seen-sign.branch [
            | then-seen-sign+else-name-gt-LONG+else-first_same-i w ↦ repeats_is _ _ ∙ le-ltb _ _ (rw w.first_same.ensures at w.if-first_same-i.false)
            | else-seen-sign w ↦ repeats_not _ _ (unseen inv.1 sign w.if-seen-sign.false)
          ]),
      marked_more inv.1 sign c.sign-sign.ensures.1,
    )

pub returns : goal.returns
returns c =
    let e : c.loop-i.i ≡ c.args.lain.now.names.count = omega arith in
    rw e at (nowhere c.loop-i.invariant.0 (omega arith))
