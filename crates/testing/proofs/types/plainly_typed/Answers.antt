-- `plainly_typed` meets its contract: a number by its value, and what is none by the type of its kind. Assumes nothing.
use mathlib.Core.Path.{sym, ap, ◌∙◌}
use Rattle.testing.specs.Types.{type_number}
use Rattle.testing.proofs.Found.{typed_number, typed_other}
use Rattle.testing.proofs.types.plainly_typed.Goals as goal

pub returns-in-Some : goal.returns-in-Some
returns-in-Some c = λ t v found kind_is. sym (typed_number _ _ _ found _ c.in-Some.is (sym (c.plainly_numeric.ensures t)))

pub returns-in-None : goal.returns-in-None
returns-in-None c = λ t v found kind_is. sym (typed_other _ _ _ found c.in-None.is (c.type_of.ensures ∙ ap type_number kind_is) c.has_type.ensures) ∙ t
