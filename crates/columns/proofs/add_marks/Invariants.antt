-- `add_marks` meets its contract: where i rows were passed, those have the marks of both columns, and the others are as they were. Assumes nothing.
use Rattle.areas.specs.Writers.{Marked, merged}
use Rattle.columns.proofs.add_marks.Given as goal

abbrev pub invariant-loop-i : goal.invariant-loop-i
invariant-loop-i l = Marked l.m l.kids.first l.i l.s.0 (merged l.m l.initial.cells l.s.0 l.from.0) l.initial.cells l.cells
