-- The check's answers, by the last word.
--     no_words, of_record, of_rules, of_none     which answer is given
--     answer_one                                 two answers with the papers' same numbers are the same answer
-- Assumes nothing.
use mathlib.Core.List.{List}
use mathlib.Core.Path.{◌≡◌, refl, sym, ap}
use Prim.Native.Nat.{ℕ, ◌<◌}
use native.Mathlib.Omega.{arith}
use lib.ListN.{length}
use borrow.Author.Tests.{eq-eqb, ne_eqb}
use Rattle.sheet.specs.declared.refusal.Refusal.{Refusal}
use Rattle.sheet.specs.declared.refusal.Refusal.TheVariants.{RecordTrailer, RecordLayout, RepeatedName, TooDeep, RuleTrailer, RuleLayout, RepeatedEntry, UnguardedLoop, LongChain, FewCells, ShortList, NotUtf8}
use Rattle.sheet.specs.declared.refusal.Refused.{Refused}
use Rattle.std.specs.Prelude.{Option, Some, None, Result, Ok, Err}
use Rattle.sheet.specs.Refusals.{accepted, refused, refusal_number, outcome_of}
use Rattle.sheet.specs.Record.{record_kind, kind_word}
use Rattle.sheet.specs.Faults.{record_outcome}
use Rattle.sheet.proofs.Tables.{outcome_one}
use Rattle.sheet.proofs.Acceptance.{clash}
use Rattle.rulesheet.specs.Faults.{rule_kind}
use Rattle.rules.specs.Check.{rules_outcome}
use Rattle.sheetcheck.specs.LastWord.{unknown_kind, outcome_by_kind, check_outcome}

module _ (ws ts : List ℕ) where
  pub no_words : length ws ≡ 0 → check_outcome ws ts ≡ refused unknown_kind 0
  unfolding check_outcome
  no_words e = simp (eq-eqb (length ws) 0 e)

  pub of_record : 0 < length ws → kind_word ws ≡ record_kind → check_outcome ws ts ≡ record_outcome ws ts
  unfolding check_outcome
  of_record some e = simp (ne_eqb (length ws) 0 (λ z. omega arith), eq-eqb (kind_word ws) record_kind e)

  pub of_rules : 0 < length ws → kind_word ws ≡ rule_kind → check_outcome ws ts ≡ rules_outcome ws ts
  unfolding check_outcome
  of_rules some e = simp (ne_eqb (length ws) 0 (λ z. omega arith), ne_eqb (kind_word ws) record_kind (λ z. omega arith), eq-eqb (kind_word ws) rule_kind e)

  pub of_none : 0 < length ws → (kind_word ws ≡ record_kind → ⊥) → (kind_word ws ≡ rule_kind → ⊥) → check_outcome ws ts ≡ refused unknown_kind 0
  unfolding check_outcome
  of_none some a b = simp (ne_eqb (length ws) 0 (λ z. omega arith), ne_eqb (kind_word ws) record_kind a, ne_eqb (kind_word ws) rule_kind b)

-- ---- answers

-- no refusal of the two checks has this number
another_number : (f : Refusal) → refusal_number f ≡ unknown_kind → ⊥
another_number RecordTrailer e = omega arith
another_number RecordLayout e = omega arith
another_number RepeatedName e = omega arith
another_number TooDeep e = omega arith
another_number RuleTrailer e = omega arith
another_number RuleLayout e = omega arith
another_number RepeatedEntry e = omega arith
another_number UnguardedLoop e = omega arith
another_number LongChain e = omega arith
another_number FewCells e = omega arith
another_number ShortList e = omega arith
another_number NotUtf8 e = omega arith

known_is : (c : Result ℕ Refused) → outcome_of c ≡ refused unknown_kind 0 → ⊥
known_is (Ok rows) e = clash (accepted rows) rows unknown_kind 0 refl e
known_is (Err r) e = let number : refusal_number r.refusal ≡ unknown_kind = cc in another_number r.refusal number

pub answer_one : (a b : Option (Result ℕ Refused)) → outcome_by_kind a ≡ outcome_by_kind b → a ≡ b
answer_one (Some c) (Some d) e = ap Some (outcome_one c d e)
answer_one (Some c) None e = absurd (known_is c e)
answer_one None (Some d) e = absurd (known_is d (sym e))
answer_one None None e = refl
