use mathlib.Core.Path.{◌≡◌}
use native.Mathlib.Omega.{arith}
use lib.ListN.{length}
use Rattle.reach.proofs.Reaching.{first, next, ended, stuck, cut_short}
use Rattle.reach.proofs.character_at.Goals as goal

pub loop-to-init : goal.loop-to-init
loop-to-init c = rw c.begin-s.ensures (first _ _ c.requires)

pub returns-then-s-eq0 : goal.returns-then-s-eq0
returns-then-s-eq0 c = ended c.loop-to.invariant c.if-s-eq0.true

pub returns-then-s : goal.returns-then-s
returns-then-s c = stuck c.loop-to.invariant c.if-s-eq0.false c.if-s.true

pub loop-to-preserved : goal.loop-to-preserved
loop-to-preserved c = rw c.step-s.ensures (next c.loop-to.invariant c.if-s-eq0.false (omega arith))

pub returns-then-s-eq0-2 : goal.returns-then-s-eq0-2
returns-then-s-eq0-2 c =
    let inv = c.loop-to.invariant in
    let e : c.loop-to.to ≡ length c.args.text.now = omega (arith, inv.room) in
    rw e at (ended inv c.if-s-eq0-2.true)

pub returns-else-s-eq0-2 : goal.returns-else-s-eq0-2
returns-else-s-eq0-2 c = cut_short c.loop-to.invariant c.if-s-eq0-2.false (omega arith)
