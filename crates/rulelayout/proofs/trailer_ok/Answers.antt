-- `trailer_ok` meets its contract. Assumes nothing.
use borrow.Author.Tests.{lt-leb, le-leb}
use Rattle.rulesheet.specs.Faults.{words_ok}
use Rattle.rulelayout.proofs.trailer_ok.Goals as goal

pub returns-in_default : goal.returns-in_default
unfolding words_ok
returns-in_default c = simp (lt-leb _ _ c.in_default.len_below)

pub returns-in-len6-up : goal.returns-in-len6-up
unfolding words_ok
returns-in-len6-up c = simp (le-leb _ _ c.in-len6-up.len_at_least, c.trailer_fits.ensures, c.wide.ensures)
