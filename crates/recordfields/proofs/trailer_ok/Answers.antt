-- `trailer_ok` meets its contract. Assumes nothing.
use borrow.Author.Tests.{lt-leb, le-leb}
use Rattle.sheet.specs.Faults.{words_ok}
use Rattle.recordfields.proofs.trailer_ok.Goals as goal

pub returns-then-n-lt-TRAILER_WORDS : goal.returns-then-n-lt-TRAILER_WORDS
unfolding words_ok
returns-then-n-lt-TRAILER_WORDS c = simp (lt-leb _ _ c.if-n-lt-TRAILER_WORDS.true)

pub returns : goal.returns
unfolding words_ok
returns c = simp (le-leb _ _ c.if-n-lt-TRAILER_WORDS.false, c.trailer_fits.ensures, c.wide-said.ensures)
