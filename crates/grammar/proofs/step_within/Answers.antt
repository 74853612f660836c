-- `grammar::step_within` meets its contract: within a word, digits or a character the bracket is no matter.
-- Assumes nothing.
use Rattle.grammar.specs.Codes.{bracket_at}
use Rattle.grammar.proofs.step_within.Goals as goal

pub returns-in-6-to-15 : goal.returns-in-6-to-15
returns-in-6-to-15 c = c.spelled.ensures (bracket_at c.args.around)

pub returns-in-28-to-35 : goal.returns-in-28-to-35
returns-in-28-to-35 c = c.escaped.ensures (bracket_at c.args.around)

pub returns-in_default : goal.returns-in_default
returns-in_default c = c.character.ensures (bracket_at c.args.around)
