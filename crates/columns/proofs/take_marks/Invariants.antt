-- `take_marks` meets its contract: where i rows were passed, those have no mark, and the others are as they were. Assumes nothing.
use mathlib.Core.Bool.{false}
use Rattle.areas.specs.Writers.{Marked}
use Rattle.columns.proofs.take_marks.Given as goal

abbrev pub invariant-loop-i : goal.invariant-loop-i
invariant-loop-i l = Marked l.m l.kids.first l.i l.s.0 (λ k. false) l.initial.cells l.cells
