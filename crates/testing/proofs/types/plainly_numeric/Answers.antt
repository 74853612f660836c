-- `plainly_numeric` meets its contract. Assumes nothing.
use mathlib.Core.Path.{sym, ◌∙◌}
use Rattle.testing.proofs.Found.{number_typed}
use Rattle.testing.proofs.types.plainly_numeric.Goals as goal

pub returns : goal.returns
returns c = λ t. sym (number_typed _ _ c.type_of.ensures (sym c.has_type.ensures ∙ t))
