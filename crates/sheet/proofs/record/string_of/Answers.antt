-- `string_of` meets its contract. Assumes nothing.
use Rattle.sheet.proofs.Values.{string_read}
use Rattle.sheet.proofs.record.string_of.Goals as goal

pub returns : goal.returns
returns c = string_read c.args.words.now c.args.form c.args.row.0 c.row_at-it.result c.requires.0 c.requires.1 c.row_at-it.ensures
