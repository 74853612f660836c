-- `settled_as` meets its contract: 1 or 2. Assumes nothing.
use Rattle.areas.specs.Cells.{settled_as}
use Rattle.areas.proofs.settled_as.Goals as goal

pub returns-then-holds : goal.returns-then-holds
unfolding settled_as
returns-then-holds c = simp c.if-holds.true

pub returns-else-holds : goal.returns-else-holds
unfolding settled_as
returns-else-holds c = simp c.if-holds.false
