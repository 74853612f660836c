-- `line_at` reads the word and its cell. Assumes nothing.
use Rattle.bundle.specs.Printed.{line_at}
use Rattle.bundle.proofs.line_at.Goals as goal

pub returns : goal.returns
unfolding line_at
returns c = rw (c.verdict_at.ensures, c.wide-word.ensures)
