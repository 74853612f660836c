-- `entry_schema` meets its contract. Assumes nothing.
use Rattle.rulesheet.proofs.Items.{schema_item}
use Rattle.rulereader.proofs.entry_schema.Goals as goal

pub returns : goal.returns
returns c = schema_item c.args.words.now c.args.list c.args.i c.requires.2 c.entry_of.result c.entry_of.ensures 0
