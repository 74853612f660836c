-- `add_mark` meets its contract. Assumes nothing.
use native.Mathlib.Omega.{arith}
use Rattle.areas.proofs.Writers.{merged_marked, merged_unmarked, cell_below, writes_row}
use mathlib.Core.Path.{refl}
use Rattle.columns.proofs.add_mark.Goals as goal

pub is_marked-requires : goal.is_marked-requires
is_marked-requires c = let w = c.requires in omega (arith, cell_below w 0 (omega arith) _ w.from_in)

pub write_mark-requires : goal.write_mark-requires
write_mark-requires c = writes_row c.requires refl (omega arith) (omega arith)

pub returns-then-is_marked : goal.returns-then-is_marked
returns-then-is_marked c = merged_marked _ _ _ _ _ c.is_marked.ensures c.if-is_marked.true c.write_mark.ensures

pub returns-else-is_marked : goal.returns-else-is_marked
returns-else-is_marked c = merged_unmarked _ _ _ _ _ c.is_marked.ensures c.if-is_marked.false
