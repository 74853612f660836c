use native.Mathlib.Omega.{arith}
use mathlib.Core.Bool.{false≢true}
use mathlib.Core.Logic.{⊎_elim}
use mathlib.Core.Path.{◌≡◌, ap, ◌∙◌}
use Prim.Native.Nat.{ℕ, ◌+◌, ◌≤◌, ◌<◌}
use Rattle.laws.proofs.Tests.{le_or_lt}
use Rattle.rulesteps.specs.Later.{schema_in}
use Rattle.rulesteps.proofs.all_later.Goals as goal

pub overflow_add-x-end : goal.overflow_add-x-end
overflow_add-x-end c = ⊎_elim (λ (h : c.args.list.count ≤ 0). omega arith) (λ (h : 0 < c.args.list.count). omega (arith, c.requires.1 h)) (le_or_lt c.args.list.count 0)

pub loop-x-init : goal.loop-x-init
loop-x-init c = λ y low high. absurd (omega arith)

pub entry_at-requires : goal.entry_at-requires
entry_at-requires c = (c.requires.0, omega (arith, c.requires.1 (omega arith)))

pub returns-then-schema_in-s : goal.returns-then-schema_in-s
returns-then-schema_in-s c t = absurd (false≢true t)

pub loop-x-preserved : goal.loop-x-preserved
loop-x-preserved c =
    let x = c.loop-x.x in
    let e = c.schema_in.ensures ∙ ap (schema_in c.args.named) c.entry_at.ensures in
    λ (y : ℕ) low (high : y < x + 1). ⊎_elim
    (λ (h : x ≤ y). let same : x ≡ y = omega arith in rw (← same) (omega arith))
    (λ (h : y < x). c.loop-x.invariant y low h)
    (le_or_lt x y)

pub returns : goal.returns
returns c t = record { later = λ y low high. c.loop-x.invariant y low (omega arith) }
