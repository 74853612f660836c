-- `first_loop` meets its contract: a search, in which `on_loop` says what is asked. Assumes nothing.
use Rattle.laws.proofs.Passing.{Passing}
use Rattle.rulesheet.specs.Sheet.{schemas_word, next_of}
use Rattle.unguarded.specs.Graph.{on_loop}
use Rattle.loops.proofs.first_loop.Given as goal

abbrev pub invariant-loop-s : goal.invariant-loop-s
invariant-loop-s l = Passing (on_loop (schemas_word l.words) (next_of l.words)) (schemas_word l.words) l.s
