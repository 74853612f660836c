-- `take_mark` meets its contract. Assumes nothing.
use native.Mathlib.Omega.{arith}
use Rattle.areas.proofs.Writers.{unmarked, cell_below}
use Rattle.columns.proofs.take_mark.Goals as goal

pub is_marked-requires : goal.is_marked-requires
is_marked-requires c = let w = c.requires in omega (arith, cell_below w 0 (omega arith) _ w.rule_in)

pub returns-else-is_marked : goal.returns-else-is_marked
returns-else-is_marked c = unmarked _ _ _ _ c.is_marked.ensures c.if-is_marked.false
