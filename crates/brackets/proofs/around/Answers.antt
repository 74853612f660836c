-- `brackets::around` meets its contract. Assumes nothing.
use Rattle.brackets.proofs.Bits.{around_none, around_square, around_curly}
use Rattle.brackets.proofs.around.Goals as goal

pub returns-then-o-eq0 : goal.returns-then-o-eq0
returns-then-o-eq0 c = around_none c.args.o c.if-o-eq0.true

pub returns-then-o-eq0-2 : goal.returns-then-o-eq0-2
returns-then-o-eq0-2 c = around_square c.args.o c.if-o-eq0.false c.if-o-eq0-2.true

pub returns-else-o-eq0-2 : goal.returns-else-o-eq0-2
returns-else-o-eq0-2 c = around_curly c.args.o c.if-o-eq0.false c.if-o-eq0-2.false
