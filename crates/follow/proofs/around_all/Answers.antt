-- `follow::around_all` meets its contract. Assumes nothing.
use Rattle.brackets.specs.Brackets.{brackets}
use Rattle.follow.proofs.Stacking.{around_below, around_top}
use Rattle.follow.proofs.around_all.Goals as goal

pub returns-then-s-eq0 : goal.returns-then-s-eq0
returns-then-s-eq0 c = let a = c.args in around_below a.table.now (brackets a.s.opened) a.s.more c.around.result c.if-s-eq0.true c.around.ensures

pub returns-else-s-eq0 : goal.returns-else-s-eq0
returns-else-s-eq0 c = let a = c.args in around_top a.table.now (brackets a.s.opened) a.s.more c.if-s-eq0.false
