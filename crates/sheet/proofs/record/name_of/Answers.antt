-- `name_of` meets its contract. Assumes nothing.
use Rattle.sheet.proofs.Values.{name_read}
use Rattle.sheet.proofs.record.name_of.Goals as goal

pub returns : goal.returns
returns c = name_read c.args.words.now c.args.form c.args.row.0 c.row_at.result c.requires.0 c.requires.1 c.row_at.ensures
