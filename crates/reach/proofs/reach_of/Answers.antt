use Rattle.reach.proofs.Reaching.{start, walked, onto, stays}
use Rattle.reach.proofs.reach_of.Goals as goal

pub loop-at-init : goal.loop-at-init
loop-at-init c = start _ _ c.requires.1

pub returns-then-stop-end : goal.returns-then-stop-end
returns-then-stop-end c = stays (walked c.loop-at.invariant _ _ c.walk-stop.ensures) (c.walk-stop.ensures.stopped c.if-stop-end.true)

pub returns-in-Some : goal.returns-in-Some
returns-in-Some c = onto (walked c.loop-at.invariant _ _ c.walk-stop.ensures) _ (c.in-Some.ensures _ c.requires.0)

pub loop-at-preserved : goal.loop-at-preserved
loop-at-preserved c = walked c.loop-at.invariant _ _ c.walk-stop.ensures
