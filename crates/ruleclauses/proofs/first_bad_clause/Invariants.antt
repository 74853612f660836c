-- `first_bad_clause` meets its contract: k is where the schemas passed end, and clauses after the last are taken by none. Assumes nothing.
use mathlib.Core.Path.{◌≡◌}
use Rattle.laws.specs.Lowest.{lowest}
use Rattle.laws.proofs.Searches.{left}
use Rattle.rulesheet.specs.Sheet.{clauses_word}
use Rattle.rulesheet.specs.Faults.{schema_start, list_start, clause_fault}
use Rattle.ruleclauses.proofs.first_bad_clause.Given as goal

abbrev pub invariant-loop-s : goal.invariant-loop-s
invariant-loop-s l = (l.k ≡ schema_start l.words l.s) × (l.start ≡ list_start l.words l.k) × (lowest (clause_fault l.words) (clauses_word l.words) ≡ left (clause_fault l.words) (clauses_word l.words) l.k)
