-- `has_name` meets its contract. Assumes nothing.
use Rattle.text.specs.Part.{part}
use Rattle.looking.proofs.Naming.{compared}
use Rattle.looking.proofs.members.has_name.Goals as goal

pub returns : goal.returns
returns c = compared c.name_of.ensures c.args.text.now (part c.args.rule_text.now c.args.name) _ c.same_part.ensures
