-- `first_bad_entry` meets its contract: x is where the lists passed end, and entries after the last are taken by none. Assumes nothing.
use mathlib.Core.Path.{◌≡◌}
use Rattle.rulesheet.specs.Faults.{list_start, entry_fault}
use Rattle.rulesheet.proofs.Walking.{Walked}
use Rattle.ruleentries.proofs.first_bad_entry.Given as goal

abbrev pub invariant-loop-k : goal.invariant-loop-k
invariant-loop-k l = (l.x ≡ list_start l.words l.k) × Walked l.words (entry_fault l.words) l.k
