-- `entry_name` meets its contract. Assumes nothing.
use Rattle.rulesheet.proofs.Items.{name_read}
use Rattle.rulereader.proofs.entry_name.Goals as goal

pub returns : goal.returns
returns c = rw c.name.ensures (name_read c.args.words.now c.args.list c.args.i c.requires.2 c.entry_of-entry.result c.entry_of-entry.ensures)
