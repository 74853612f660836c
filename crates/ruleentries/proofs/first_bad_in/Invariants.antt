-- `first_bad_in` meets its contract. Assumes nothing.
use mathlib.Core.Path.{◌≡◌}
use mathlib.Core.Bool.{not}
use Prim.Native.Nat.{◌+◌}
use Rattle.laws.specs.Lowest.{lowest_from}
use Rattle.laws.proofs.Searches.{left}
use Rattle.rulesheet.specs.Sheet.{schemas_word, text_word, entry_at}
use Rattle.rulesheet.specs.Faults.{entry_ok}
use Rattle.ruleentries.proofs.first_bad_in.Given as goal

abbrev pub invariant-loop-x : goal.invariant-loop-x
invariant-loop-x l = lowest_from (λ i. not (entry_ok l.fields (text_word l.words) (schemas_word l.words) (entry_at l.words i))) l.fn.list.count l.fn.list.first ≡ left (λ i. not (entry_ok l.fields (text_word l.words) (schemas_word l.words) (entry_at l.words i))) (l.fn.list.first + l.fn.list.count) l.x
