-- `placed_under` meets its contract, by those of its calls. Assumes nothing.
use Rattle.recordlayout.proofs.placed_under.Goals as goal

pub returns : goal.returns
returns c = rw (c.label_ok.ensures, c.of.ensures)
