-- `marked_of` meets its contract: where i rows were passed, n of them are marked, and with the rows that are left that makes all. Assumes nothing.
use Rattle.areas.proofs.Cells.{Counted}
use Rattle.columns.proofs.marked_of.Given as goal

abbrev pub invariant-loop-i : goal.invariant-loop-i
invariant-loop-i l = Counted l.m l.cells l.kids.first l.kids.count l.i l.n
