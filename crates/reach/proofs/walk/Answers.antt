use Rattle.reach.proofs.Reaching.{start, stride}
use Rattle.reach.proofs.walk.Goals as goal

pub loop-at-init : goal.loop-at-init
loop-at-init c = start _ _ c.requires.0

pub loop-at-preserved : goal.loop-at-preserved
loop-at-preserved c = stride c.loop-at.invariant _ c.in-Some.ensures
