use mathlib.Core.Path.{◌≡◌, refl}
use Prim.Native.Nat.{ℕ, suc, ◌+◌, ◌<◌}
use native.Mathlib.Omega.{arith}
use borrow.Author.Rules.{Fits-under}
use lib.ListN.{length}
use Rattle.laying.specs.Laying.{start_at, Started}
use Rattle.laying.proofs.Starts.{start_low, started_more}
use Rattle.laying.proofs.start_levels.Goals as goal

nothing : (j : ℕ) → j < 0 → ⊥
nothing j h = omega arith

pub loop-k-init : goal.loop-k-init
loop-k-init c = (unfold start_at in refl, (λ j h. absurd (nothing j h)))

pub overflow_add-sum : goal.overflow_add-sum
overflow_add-sum c =
    let inv = c.loop-k.invariant in
    Fits-under _ _ 65_537 (omega (arith, start_low c.args.counters.now c.loop-k.k (length c.args.counters.now) (omega arith), inv.0, c.requires.1)) tt

pub loop-k-preserved : goal.loop-k-preserved
loop-k-preserved c =
    let loop = c.loop-k in
    let counters = c.args.counters.now in
    let z : suc loop.k ≡ loop.k + 1 = omega arith in (
      rw (← z) (unfold start_at in omega (arith, loop.invariant.0)),
      rw (← z) (started_more counters loop.starts loop.k loop.sum loop.invariant.1 (omega (arith, c.requires.0)) loop.invariant.0),
    )

pub returns : goal.returns
returns c =
    let loop = c.loop-k in
    let counters = c.args.counters.now in
    let end : loop.k ≡ length counters = omega arith in
    let inv : (loop.sum ≡ start_at counters (length counters)) × Started counters loop.starts (length counters) = rw end at loop.invariant in
    (inv.0, started_more counters loop.starts (length counters) loop.sum inv.1 (omega (arith, c.requires.0)) inv.0)
