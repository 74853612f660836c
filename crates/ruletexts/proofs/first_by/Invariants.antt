-- `first_by` meets its contract: the lists take all the entries. Assumes nothing.
use Rattle.rulesheet.specs.Faults.{not_utf8}
use Rattle.rulesheet.proofs.Walking.{Walked}
use Rattle.ruletexts.proofs.first_by.Given as goal

abbrev pub invariant-loop-k : goal.invariant-loop-k
invariant-loop-k l = Walked l.words (not_utf8 l.words l.text) l.k
