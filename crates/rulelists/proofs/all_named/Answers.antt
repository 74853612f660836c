use native.Mathlib.Omega.{arith}
use mathlib.Core.Bool.{false≢true}
use mathlib.Core.Logic.{⊎_elim}
use mathlib.Core.Path.{◌≡◌, sym, ap, ◌∙◌}
use Prim.Native.Nat.{ℕ, ◌+◌, ◌≤◌, ◌<◌}
use borrow.Author.Tests.{not-false}
use Rattle.laws.proofs.Tests.{le_or_lt}
use Rattle.rulelists.specs.Lists.{named_ok}
use Rattle.rulelists.proofs.all_named.Goals as goal

pub loop-x-init : goal.loop-x-init
loop-x-init c = λ y low high. absurd (omega arith)

pub entry_at-requires : goal.entry_at-requires
entry_at-requires c = (c.requires.0, omega (arith, c.requires.1))

pub returns-then-not-named_ok : goal.returns-then-not-named_ok
returns-then-not-named_ok c t = absurd (false≢true t)

pub loop-x-preserved : goal.loop-x-preserved
loop-x-preserved c =
    let x = c.loop-x.x in
    let e = ap (named_ok c.args.size c.args.bound) (sym c.entry_at.ensures) ∙ sym c.named_ok.ensures ∙ not-false _ c.if-not-named_ok.false-raw in
    λ (y : ℕ) low (high : y < x + 1). ⊎_elim
    (λ (h : x ≤ y). let same : x ≡ y = omega arith in rw (← same) e)
    (λ (h : y < x). c.loop-x.invariant y low h)
    (le_or_lt x y)

pub returns : goal.returns
returns c t = record { named = λ y low high. c.loop-x.invariant y low (omega arith) }
