-- `verdict_at` meets its contract: the cell's verdict. Assumes nothing.
use Rattle.areas.specs.Cells.{verd}
use borrow.Author.Rules.{rules}
use Rattle.areas.proofs.verdict_at.Goals as goal

pub returns : goal.returns
unfolding verd
returns c = search rules
