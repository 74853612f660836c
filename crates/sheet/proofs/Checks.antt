-- The record check's answers, line by line of the refusal table: which line is given, once those before it are known not to apply.
--     words_in_order, text_length, text_short, laid_out    what a trailer in order and rows without fault give to the next step
--     at_trailer, at_row, at_name, at_text, at_level    the five refusals
--     no_line                                  acceptance
-- Assumes nothing.
use mathlib.Core.Bool.{true, false, not, ◌&&◌}
use mathlib.Core.List.{List, [], ◌∷◌}
use mathlib.Core.Path.{◌≡◌, sym, ap, ◌∙◌}
use Prim.Native.Nat.{ℕ, ◌≤◌, ◌<◌}
use native.Mathlib.Nat.{zero-add}
use native.Mathlib.Omega.{arith}
use lib.Dec.{eqb, leb}
use lib.ListN.{length}
use borrow.Author.Tests.{eqb-true, leb-true, not-false}
use Rattle.laws.proofs.Tests.{left, right}
use Rattle.sheet.specs.declared.record.RecordForm.{RecordForm}
use Rattle.laws.specs.Lowest.{lowest}
use Rattle.sheet.specs.Refusals.{accepted, refused, Line, lowest_line, first_line}
use Rattle.sheet.specs.Record.{rows_word, text_word, doc_of}
use Rattle.sheet.specs.Faults.{text_max, words_ok, text_ok, row_ok, at_fault, repeated, not_utf8, too_deep, record_outcome}
use Rattle.sheet.specs.Accepted.{Formed, Laid}
use Rattle.laws.proofs.Searches.{clear_below}
use Rattle.sheet.proofs.Tables.{test_passed, test_given, line_passed, line_given}
use Rattle.sheet.proofs.Trailers.{form_rows}

pub laid_out : (ws : List ℕ) (form : RecordForm) → Formed ws form → rows_word ws ≤ lowest (at_fault ws) (rows_word ws) → Laid ws form
laid_out ws form formed none =
    record {
      formed = formed;
      rows_ok =
          λ (j : ℕ) (h : j < form.rows).
          let below : j < rows_word ws = omega (arith, form_rows ws form formed) in
          not-false (row_ok ws j) (clear_below (at_fault ws) (rows_word ws) 0 j (omega arith) (omega arith) (omega arith));
    }

-- the table's lines after 1
abbrev row_line : List ℕ → Line
row_line ws = lowest_line 2 0 (rows_word ws) (at_fault ws)

abbrev name_line : List ℕ → List ℕ → Line
name_line ws ts = lowest_line 3 0 (rows_word ws) (repeated (doc_of ws ts))

abbrev text_line : List ℕ → List ℕ → Line
text_line ws ts = lowest_line 13 0 (rows_word ws) (not_utf8 (doc_of ws ts))

abbrev level_line : List ℕ → Line
level_line ws = lowest_line 4 0 (rows_word ws) (too_deep ws)

module _ (ws ts : List ℕ) where
  pub at_trailer : (words_ok ws && text_ok ws (length ts)) ≡ false → record_outcome ws ts ≡ refused 1 0
  unfolding record_outcome
  at_trailer bad = test_given _ _ (rows_word ws) (ap not bad)

  module _ (good : (words_ok ws && text_ok ws (length ts)) ≡ true) where
    pub words_in_order : words_ok ws ≡ true
    words_in_order = left (words_ok ws) (text_ok ws (length ts)) good

    pub text_length : length ts ≡ text_word ws
    text_length =
        sym (eqb-true (text_word ws) (length ts)
        (left (eqb (text_word ws) (length ts)) (leb (length ts) text_max) (right (words_ok ws) (text_ok ws (length ts)) good)))

    pub text_short : length ts ≤ text_max
    text_short =
        leb-true (length ts) text_max
        (right (eqb (text_word ws) (length ts)) (leb (length ts) text_max) (right (words_ok ws) (text_ok ws (length ts)) good))

    past_trailer : record_outcome ws ts ≡ first_line (row_line ws ∷ name_line ws ts ∷ text_line ws ts ∷ level_line ws ∷ []) (rows_word ws)
    unfolding record_outcome
    past_trailer = test_passed _ _ (rows_word ws) (ap not good)

    pub at_row : (place : ℕ) → place ≡ lowest (at_fault ws) (rows_word ws) → place < rows_word ws → record_outcome ws ts ≡ refused 2 place
    at_row place e h = past_trailer ∙ line_given 2 0 (rows_word ws) (at_fault ws) _ (rows_word ws) place e h ∙ ap (refused 2) (zero-add place)

    module _ (no_fault : rows_word ws ≤ lowest (at_fault ws) (rows_word ws)) where
      past_rows : record_outcome ws ts ≡ first_line (name_line ws ts ∷ text_line ws ts ∷ level_line ws ∷ []) (rows_word ws)
      past_rows = past_trailer ∙ line_passed 2 0 (rows_word ws) (at_fault ws) _ (rows_word ws) no_fault

      pub at_name : (place : ℕ) → place ≡ lowest (repeated (doc_of ws ts)) (rows_word ws) → place < rows_word ws → record_outcome ws ts ≡ refused 3 place
      at_name place e h = past_rows ∙ line_given 3 0 (rows_word ws) (repeated (doc_of ws ts)) _ (rows_word ws) place e h ∙ ap (refused 3) (zero-add place)

      module _ (no_name : rows_word ws ≤ lowest (repeated (doc_of ws ts)) (rows_word ws)) where
        past_names : record_outcome ws ts ≡ first_line (text_line ws ts ∷ level_line ws ∷ []) (rows_word ws)
        past_names = past_rows ∙ line_passed 3 0 (rows_word ws) (repeated (doc_of ws ts)) _ (rows_word ws) no_name

        pub at_text : (place : ℕ) → place ≡ lowest (not_utf8 (doc_of ws ts)) (rows_word ws) → place < rows_word ws → record_outcome ws ts ≡ refused 13 place
        at_text place e h = past_names ∙ line_given 13 0 (rows_word ws) (not_utf8 (doc_of ws ts)) _ (rows_word ws) place e h ∙ ap (refused 13) (zero-add place)

        module _ (no_text : rows_word ws ≤ lowest (not_utf8 (doc_of ws ts)) (rows_word ws)) where
          past_texts : record_outcome ws ts ≡ first_line (level_line ws ∷ []) (rows_word ws)
          past_texts = past_names ∙ line_passed 13 0 (rows_word ws) (not_utf8 (doc_of ws ts)) _ (rows_word ws) no_text

          pub at_level : (place : ℕ) → place ≡ lowest (too_deep ws) (rows_word ws) → place < rows_word ws → record_outcome ws ts ≡ refused 4 place
          at_level place e h = past_texts ∙ line_given 4 0 (rows_word ws) (too_deep ws) [] (rows_word ws) place e h ∙ ap (refused 4) (zero-add place)

          pub no_line : rows_word ws ≤ lowest (too_deep ws) (rows_word ws) → record_outcome ws ts ≡ accepted (rows_word ws)
          unfolding first_line
          no_line no_level = past_texts ∙ line_passed 4 0 (rows_word ws) (too_deep ws) [] (rows_word ws) no_level
