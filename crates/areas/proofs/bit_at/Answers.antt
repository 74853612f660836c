-- `bit_at` meets its contract: the cell's mark. Assumes nothing.
use Rattle.areas.specs.Cells.{bit}
use borrow.Author.Rules.{rules}
use Rattle.areas.proofs.bit_at.Goals as goal

pub returns : goal.returns
unfolding bit
returns c = search rules
