use mathlib.Core.Path.{◌≡◌, ◌∙◌}
use Prim.Native.Nat.{ℕ, ◌<◌}
use native.Mathlib.Omega.{arith}
use borrow.Author.Tests.{lt-ltb, le-ltb}
use Rattle.laws.proofs.Passing.{begin, here, further, nowhere}
use Rattle.names.proofs.Repeats.{repeats_is, repeats_not}
use Rattle.namesakes.proofs.first_by_pairs.Goals as goal

pub loop-i-init : goal.loop-i-init
loop-i-init c = further (begin _ _) (omega (arith, c.requires)) (repeats_not _ _ (λ (k : ℕ) (l : k < 0) e. absurd (omega arith)))

pub range_at-name-requires : goal.range_at-name-requires
range_at-name-requires c = c.args.lain.now.lying.inside _ (omega arith)

pub returns-then-name-gt-LONG : goal.returns-then-name-gt-LONG
returns-then-name-gt-LONG c = c.first_of_few.ensures

pub first_same-requires : goal.first_same-requires
first_same-requires c = (c.args.lain.now.lying, omega arith)

pub returns-then-first_same-i : goal.returns-then-first_same-i
returns-then-first_same-i c = here c.loop-i.invariant (omega arith) (repeats_is _ _ ∙ lt-ltb _ _ (rw c.first_same.ensures at c.if-first_same-i.true))

pub loop-i-preserved : goal.loop-i-preserved
loop-i-preserved c = further c.loop-i.invariant (omega arith) (repeats_is _ _ ∙ le-ltb _ _ (rw c.first_same.ensures at c.if-first_same-i.false))

pub returns : goal.returns
returns c =
    let e : c.loop-i.i ≡ c.args.lain.now.names.count = omega arith in
    rw e at (nowhere c.loop-i.invariant (omega arith))
