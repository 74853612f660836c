-- `first_repeated_entry` meets its contract: a list without names is passed, and the lists take all the entries. Assumes nothing.
use Rattle.rulesheet.specs.Faults.{repeated}
use Rattle.rulesheet.proofs.Walking.{Walked}
use Rattle.ruleentries.proofs.repeats.first_repeated_entry.Given as goal

abbrev pub invariant-loop-k : goal.invariant-loop-k
invariant-loop-k l = Walked l.words (repeated l.words l.text) l.k
