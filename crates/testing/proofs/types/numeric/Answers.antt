-- `numeric` meets its contract. Assumes nothing.
use mathlib.Core.Path.{sym, ◌∙◌}
use Rattle.testing.proofs.Found.{number_typed, integer_typed, untyped}
use Rattle.testing.proofs.types.numeric.Goals as goal

pub returns-then-has_type : goal.returns-then-has_type
returns-then-has_type c = number_typed _ _ c.type_of.ensures (sym c.has_type.ensures ∙ c.if-has_type.true)

pub returns-then-has_type-2 : goal.returns-then-has_type-2
returns-then-has_type-2 c =
    integer_typed _ _ c.type_of.ensures (sym c.has_type.ensures ∙ c.if-has_type.false) c.has_type-2.ensures c.if-has_type-2.true c.whole.ensures

pub returns-else-has_type-2 : goal.returns-else-has_type-2
returns-else-has_type-2 c =
    untyped _ _ c.type_of.ensures (sym c.has_type.ensures ∙ c.if-has_type.false) c.has_type-2.ensures c.if-has_type-2.false
