-- `unnamed_fine` meets its contract. Assumes nothing.
use mathlib.Core.Bool.{not}
use mathlib.Core.Path.{ap, ◌∙◌}
use Rattle.rulelists.proofs.Entries.{all_in_order}
use Rattle.rulelists.proofs.unnamed_fine.Goals as goal

pub returns : goal.returns
returns c t =
    all_in_order c.args.words.now c.args.text.now c.args.fields c.args.list.first c.args.list.count c.first_bad_in.result c.requires.3 c.first_bad_in.ensures (c.is_none.ensures ∙ ap not t)
