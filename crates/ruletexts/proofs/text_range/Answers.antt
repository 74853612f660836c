-- `text_range` meets its contract, by the fields of the list. Assumes nothing.
use Rattle.ruletexts.proofs.Readable.{other_text}
use Rattle.ruletexts.proofs.text_range.Goals as goal

pub returns-in_default : goal.returns-in_default
returns-in_default c = let lemma = other_text c.args.fields c.args.entry in search (lemma, c.in_default)
