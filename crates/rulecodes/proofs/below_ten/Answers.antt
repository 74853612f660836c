-- `below_ten` meets its contract. Assumes nothing.
use mathlib.Core.Path.{ap}
use Rattle.rulesheet.specs.Codes.{CodeLine, line_in}
use Rattle.rulesheet.proofs.Lines.{below_ten}
use Rattle.rulecodes.proofs.below_ten.Goals as goal

pub returns-then-code-eq-TYPE : goal.returns-then-code-eq-TYPE
unfolding line_in
returns-then-code-eq-TYPE c = rw c.if-code-eq-TYPE.true c.guarded.ensures

pub returns-then-code-eq-NEVER : goal.returns-then-code-eq-NEVER
unfolding line_in
returns-then-code-eq-NEVER c = rw c.if-code-eq-NEVER.true c.guarded-then-code-eq-NEVER.ensures

pub returns-then-code-eq-ENUM : goal.returns-then-code-eq-ENUM
unfolding line_in
returns-then-code-eq-ENUM c = rw c.if-code-eq-ENUM.true c.guarded-then-code-eq-ENUM.ensures

pub seldom-requires : goal.seldom-requires
seldom-requires c =
    λ f36 f37 f45.
    ap (λ (l : CodeLine). l.shape) (below_ten c.args.code c.requires c.if-code-eq-NEVER.false c.if-code-eq-TYPE.false c.if-code-eq-ENUM.false)
