-- `members_of` meets its contract. Assumes nothing.
use mathlib.Core.Path.{◌∙◌}
use Rattle.looking.proofs.Measures.{members_sized}
use Rattle.looking.proofs.sizes.members_of.Goals as goal

pub returns : goal.returns
returns c = λ ts. c.children_of_kind.ensures ts ∙ members_sized _
