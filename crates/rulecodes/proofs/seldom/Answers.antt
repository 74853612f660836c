-- `seldom` meets its contract: each code the table's line. Assumes nothing.
use mathlib.Core.Path.{sym, ◌∙◌}
use Rattle.rulesheet.specs.Codes.{line_in}
use Rattle.rulecodes.proofs.seldom.Goals as goal

pub returns-then-code-eq-IF_THEN_ELSE : goal.returns-then-code-eq-IF_THEN_ELSE
unfolding line_in
returns-then-code-eq-IF_THEN_ELSE c = rw c.if-code-eq-IF_THEN_ELSE.true c.exactly.ensures

pub returns-then-code-eq-DEPENDENT_SCHEMAS : goal.returns-then-code-eq-DEPENDENT_SCHEMAS
unfolding line_in
returns-then-code-eq-DEPENDENT_SCHEMAS c = rw c.if-code-eq-DEPENDENT_SCHEMAS.true c.in_place.ensures

pub returns-then-code-eq-CONTAINS : goal.returns-then-code-eq-CONTAINS
unfolding line_in
returns-then-code-eq-CONTAINS c = rw c.if-code-eq-CONTAINS.true c.exactly-then-code-eq-CONTAINS.ensures

pub returns : goal.returns
returns c =
    c.guarded.ensures ∙ sym (c.requires c.if-code-eq-IF_THEN_ELSE.false c.if-code-eq-DEPENDENT_SCHEMAS.false c.if-code-eq-CONTAINS.false)
