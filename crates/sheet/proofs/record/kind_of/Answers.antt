-- `kind_of` meets its contract. Assumes nothing.
use mathlib.Core.Path.{◌∙◌}
use Rattle.sheet.proofs.Values.{kind_read}
use Rattle.sheet.proofs.record.kind_of.Goals as goal

pub returns : goal.returns
returns c = λ ts. c.of.ensures ∙ kind_read c.args.words.now c.args.form c.args.row.0 c.row_at.result c.requires.0 c.requires.1 c.row_at.ensures ts
