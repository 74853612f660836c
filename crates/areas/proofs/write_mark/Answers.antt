-- `write_mark` meets its contract: the row's cell is one of the cells, and its verdict and a mark are a byte. Assumes nothing.
use native.Mathlib.Omega.{arith}
use Rattle.areas.proofs.Writers.{mark_fits, marked_write, cell_below}
use Rattle.areas.proofs.write_mark.Goals as goal

pub cell_of-k-requires : goal.cell_of-k-requires
cell_of-k-requires c = omega (arith, cell_below c.requires 0 (omega arith) _ c.requires.rule_in)

pub verdict_at-x-requires : goal.verdict_at-x-requires
verdict_at-x-requires c = omega (arith, cell_below c.requires 0 (omega arith) _ c.requires.rule_in, c.cell_of-k.ensures)

pub overflow_add-cells : goal.overflow_add-cells
overflow_add-cells c = omega (arith, mark_fits _ _ c.verdict_at-x.ensures c.four_of.ensures)

pub bounds-cells-k : goal.bounds-cells-k
bounds-cells-k c = omega (arith, cell_below c.requires 0 (omega arith) _ c.requires.rule_in, c.cell_of-k.ensures)

pub returns : goal.returns
returns c = marked_write _ _ _ _ _ _ c.requires.rule_in c.cell_of-k.ensures (omega (arith, cell_below c.requires 0 (omega arith) _ c.requires.rule_in, c.cell_of-k.ensures)) c.verdict_at-x.ensures c.four_of.ensures
