-- What acceptance of a record sheet gives.
--     accepted_facts    no line of the table applies
--     accepted_laid     the words are laid out as the readers ask
-- Assumes nothing.
use mathlib.Core.Bool.{true, false, ◌&&◌}
use mathlib.Core.List.{List}
use mathlib.Core.Logic.{⊎_elim}
use mathlib.Core.Path.{◌≡◌, refl}
use Prim.Native.Nat.{ℕ, ◌≤◌, ◌<◌}
use native.Mathlib.Omega.{arith}
use lib.ListN.{length}
use Rattle.laws.proofs.Tests.{le_or_lt, decide}
use Rattle.sheet.specs.declared.record.RecordForm.{RecordForm}
use Rattle.laws.specs.Lowest.{lowest}
use Rattle.sheet.specs.Refusals.{Outcome, accepted, refused}
use Rattle.sheet.specs.Record.{rows_word, doc_of}
use Rattle.sheet.specs.Faults.{words_ok, text_ok, at_fault, repeated, not_utf8, too_deep, record_outcome}
use Rattle.sheet.specs.Accepted.{Laid, AcceptedRecord}
use Rattle.sheet.proofs.Checks.{laid_out, words_in_order, at_trailer, at_row, at_name, at_text, at_level, no_line}

-- ---- no line of the table applies

pub record AcceptedFacts (ws ts : List ℕ) (n : ℕ) : Type 0 where
  pub trailer_good : (words_ok ws && text_ok ws (length ts)) ≡ true
  pub no_fault : rows_word ws ≤ lowest (at_fault ws) (rows_word ws)
  pub no_name : rows_word ws ≤ lowest (repeated (doc_of ws ts)) (rows_word ws)
  pub no_text : rows_word ws ≤ lowest (not_utf8 (doc_of ws ts)) (rows_word ws)
  pub no_level : rows_word ws ≤ lowest (too_deep ws) (rows_word ws)
  pub count_is : n ≡ rows_word ws

-- an answer that is accepted is no refusal
pub clash : {A : Type 0} (o : Outcome) (n k p : ℕ) → o ≡ accepted n → o ≡ refused k p → A
clash o n k p a r = absurd (never a r)
  where
    never : o ≡ accepted n → o ≡ refused k p → ⊥
    never x y = let z : ◌≡◌ {A = ℕ} 0 1 = cc in omega arith

pub same_count : (o : Outcome) (n m : ℕ) → o ≡ accepted n → o ≡ accepted m → n ≡ m
same_count o n m p q = cc

module _ (ws ts : List ℕ) (n : ℕ) (ok : record_outcome ws ts ≡ accepted n) where
  good : (words_ok ws && text_ok ws (length ts)) ≡ true
  good =
      ⊎_elim (λ (t : (words_ok ws && text_ok ws (length ts)) ≡ true). t)
      (λ (t : (words_ok ws && text_ok ws (length ts)) ≡ false). clash (record_outcome ws ts) n 1 0 ok (at_trailer ws ts t))
      (decide (words_ok ws && text_ok ws (length ts)))

  rows_clear : rows_word ws ≤ lowest (at_fault ws) (rows_word ws)
  rows_clear =
      ⊎_elim (λ (l : rows_word ws ≤ lowest (at_fault ws) (rows_word ws)). l)
      (λ (l : lowest (at_fault ws) (rows_word ws) < rows_word ws). clash (record_outcome ws ts) n 2 (lowest (at_fault ws) (rows_word ws)) ok (at_row ws ts good (lowest (at_fault ws) (rows_word ws)) refl l))
      (le_or_lt (rows_word ws) (lowest (at_fault ws) (rows_word ws)))

  names_clear : rows_word ws ≤ lowest (repeated (doc_of ws ts)) (rows_word ws)
  names_clear =
      let place = lowest (repeated (doc_of ws ts)) (rows_word ws) in
      ⊎_elim (λ (l : rows_word ws ≤ place). l)
      (λ (l : place < rows_word ws). clash (record_outcome ws ts) n 3 place ok (at_name ws ts good rows_clear place refl l))
      (le_or_lt (rows_word ws) place)

  texts_clear : rows_word ws ≤ lowest (not_utf8 (doc_of ws ts)) (rows_word ws)
  texts_clear =
      let place = lowest (not_utf8 (doc_of ws ts)) (rows_word ws) in
      ⊎_elim (λ (l : rows_word ws ≤ place). l)
      (λ (l : place < rows_word ws). clash (record_outcome ws ts) n 13 place ok (at_text ws ts good rows_clear names_clear place refl l))
      (le_or_lt (rows_word ws) place)

  levels_clear : rows_word ws ≤ lowest (too_deep ws) (rows_word ws)
  levels_clear =
      let place = lowest (too_deep ws) (rows_word ws) in
      ⊎_elim (λ (l : rows_word ws ≤ place). l)
      (λ (l : place < rows_word ws). clash (record_outcome ws ts) n 4 place ok (at_level ws ts good rows_clear names_clear texts_clear place refl l))
      (le_or_lt (rows_word ws) place)

  pub accepted_facts : AcceptedFacts ws ts n
  accepted_facts =
      record {
        trailer_good = good;
        no_fault = rows_clear;
        no_name = names_clear;
        no_text = texts_clear;
        no_level = levels_clear;
        count_is = same_count (record_outcome ws ts) n (rows_word ws) ok (no_line ws ts good rows_clear names_clear texts_clear levels_clear);
      }

-- the readers' premise
pub accepted_laid : (ws ts : List ℕ) (form : RecordForm) → AcceptedRecord ws ts form → Laid ws form
accepted_laid ws ts form a =
    let f = accepted_facts ws ts form.rows a.accepts in
    laid_out ws form (record { trailer = words_in_order ws ts f.trailer_good; same_form = a.same_form }) f.no_fault
