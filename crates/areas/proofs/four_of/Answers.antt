-- `four_of` meets its contract: 4 or 0. Assumes nothing.
use Rattle.areas.specs.Cells.{four}
use Rattle.areas.proofs.four_of.Goals as goal

pub returns-then-marked : goal.returns-then-marked
unfolding four
returns-then-marked c = simp c.if-marked.true

pub returns-else-marked : goal.returns-else-marked
unfolding four
returns-else-marked c = simp c.if-marked.false
