-- `shape_of` meets its contract. Assumes nothing.
use Rattle.rulesheet.specs.Codes.{line_in}
use Rattle.rulecodes.proofs.shape_of.Goals as goal

pub returns-then-code-eq-REQUIRED : goal.returns-then-code-eq-REQUIRED
unfolding line_in
returns-then-code-eq-REQUIRED c = rw c.if-code-eq-REQUIRED.true c.guarded.ensures

pub returns-then-code-eq-PROPERTIES : goal.returns-then-code-eq-PROPERTIES
unfolding line_in
returns-then-code-eq-PROPERTIES c = rw c.if-code-eq-PROPERTIES.true c.guarded-then-code-eq-PROPERTIES.ensures
