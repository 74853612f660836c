-- `figure::written` meets its contract. Assumes nothing.
use mathlib.Core.Path.{sym, ap, ◌∙◌}
use Rattle.numeral.specs.Numeral.{row_of}
use Rattle.figure.proofs.Figured.{figured_back, figured_on}
use Rattle.figure.proofs.written.Goals as goal

pub returns-then-f : goal.returns-then-f
returns-then-f c = c.write_down.ensures ∙ sym (ap row_of (figured_back c.args.f c.if-f.true))

pub returns : goal.returns
returns c = c.write_down-2.ensures ∙ sym (ap row_of (figured_on c.args.f c.if-f.false))
