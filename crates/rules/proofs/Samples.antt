-- Samples 9 and 10 of 01, and both sides of two limits, computed from the specification.
-- Assumes nothing.
use mathlib.Core.List.{[], ◌∷◌}
use mathlib.Core.Path.{◌≡◌, refl}
use Rattle.laws.specs.Lowest.{lowest_from}
use Rattle.names.specs.Names.{repeats_by}
use Rattle.sheet.specs.Refusals.{refused, accepted, first_line}
use Rattle.rulesheet.specs.Ruleset.{steps}
use Rattle.rulesheet.specs.Codes.{line_in}
use Rattle.rulesheet.specs.Sheet.{form_of, schema_at, clause_at, entry_at, run, clause_of, rules_of}
use Rattle.rulesheet.specs.Faults.{words_ok, schema_start, schema_fine, schema_over, rises, list_start, list_ok, clause_fine_in, clause_fine, list_over, entry_fine, repeated}
use Rattle.unguarded.specs.Graph.{some_of, chain, via, on_loop}
use Rattle.rules.specs.Check.{rules_outcome}

-- opens the specification of the rule check
unfoldable rules_compute : Unit {0}
unfolding lowest_from repeats_by first_line steps line_in form_of schema_at clause_at entry_at run clause_of rules_of words_ok schema_start schema_fine schema_over rises list_start list_ok clause_fine_in clause_fine list_over entry_fine repeated some_of chain via on_loop rules_outcome
rules_compute = tt

-- schema 0 is ref 0
pub sample9 : rules_outcome (0 ∷ 1 ∷ 34 ∷ 0 ∷ 0 ∷ 1 ∷ 1 ∷ 0 ∷ 5 ∷ 0 ∷ 2 ∷ []) [] ≡ refused 8 0
unfolding rules_compute
sample9 = refl

-- schema 0 is empty, schema 1 is ref 1: the root never comes there
pub sample10 : rules_outcome (0 ∷ 0 ∷ 0 ∷ 1 ∷ 34 ∷ 1 ∷ 0 ∷ 2 ∷ 1 ∷ 0 ∷ 7 ∷ 0 ∷ 2 ∷ []) [] ≡ refused 8 1
unfolding rules_compute
sample10 = refl

-- an empty required is in order, an empty allOf is the clause's fault: one schema, then clause 0
pub empty_required : rules_outcome (0 ∷ 1 ∷ 26 ∷ 0 ∷ 0 ∷ 1 ∷ 1 ∷ 0 ∷ 5 ∷ 0 ∷ 2 ∷ []) [] ≡ accepted 1
unfolding rules_compute
empty_required = refl

pub empty_all_of : rules_outcome (0 ∷ 1 ∷ 30 ∷ 0 ∷ 0 ∷ 1 ∷ 1 ∷ 0 ∷ 5 ∷ 0 ∷ 2 ∷ []) [] ≡ refused 6 1
unfolding rules_compute
empty_all_of = refl
