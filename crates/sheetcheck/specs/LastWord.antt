-- The check of a sheet (paper 02, #103): it goes by the last word, which says the sheet's kind, and answers as the check of that kind does. First, and in this
-- call only, comes refusal 12 with place 0: no words at all, or a last word of no known kind.
-- Assumes nothing.
use Rattle.std.specs.Prelude.{Bool, cond, not, ◌||◌, List, ℕ, Option, Some, None, Result, eqb, length}
use Rattle.sheet.specs.declared.refusal.Refused.{Refused}
use Rattle.sheet.specs.Refusals.{Outcome, refused, outcome_of}
use Rattle.sheet.specs.Record.{record_kind, kind_word}
use Rattle.sheet.specs.Faults.{record_outcome}
use Rattle.rulesheet.specs.Faults.{rule_kind}
use Rattle.rules.specs.Check.{rules_outcome}

-- 02's number of the refusal of a sheet of no known kind
abbrev pub unknown_kind : ℕ
unknown_kind = 12

-- an answer, in the papers' numbers
abbrev pub outcome_by_kind : Option (Result ℕ Refused) → Outcome
outcome_by_kind (Some checked) = outcome_of checked
outcome_by_kind None = refused unknown_kind 0

-- no words at all, or a last word of no known kind
abbrev pub no_kind : List ℕ → Bool
no_kind ws = eqb (length ws) 0 || not (eqb (kind_word ws) record_kind || eqb (kind_word ws) rule_kind)

-- what the check gives
unfoldable pub check_outcome : List ℕ → List ℕ → Outcome
check_outcome ws ts = cond (no_kind ws) (refused unknown_kind 0) (cond (eqb (kind_word ws) record_kind) (record_outcome ws ts) (rules_outcome ws ts))
