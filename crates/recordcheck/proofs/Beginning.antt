-- What a trailer in order gives to the passes after it, and what no line of the table gives in the end.
-- Assumes nothing.
use mathlib.Core.List.{List}
use mathlib.Core.Path.{◌≡◌, refl, sym, ap, ◌∙◌}
use Prim.Native.Nat.{ℕ, ◌≤◌, ◌<◌}
use native.Mathlib.Omega.{arith}
use lib.ListN.{length}
use Rattle.laws.specs.Lowest.{lowest}
use Rattle.laws.proofs.Searches.{none_found}
use Rattle.reach.specs.Reach.{AllUtf8, places}
use Rattle.sheet.specs.declared.record.RecordForm.{RecordForm}
use Rattle.sheet.specs.Refusals.{accepted}
use Rattle.sheet.specs.Record.{rows_word, text_word, row_at, doc_of}
use Rattle.sheet.specs.Faults.{at_fault, repeated, not_utf8, too_deep, record_outcome}
use Rattle.sheet.specs.Accepted.{Formed, Laid}
use Rattle.sheet.proofs.Trailers.{form_rows}
use Rattle.sheet.proofs.Checks.{words_in_order, text_length, text_short, no_line}
use Rattle.sheet.proofs.Readable.{all_fine}
use Rattle.recordcheck.specs.Order.{Begun}

module _ {ws ts : List ℕ} {form : RecordForm} (b : Begun ws ts form) where
  pub formed : Formed ws form
  formed = record { trailer = words_in_order ws ts b.good; same_form = b.same_form }

  pub rows_are : form.rows ≡ rows_word ws
  rows_are = form_rows ws form formed

  pub text_is : length ts ≡ text_word ws
  text_is = text_length ws ts b.good

  pub text_fits : length ts < places
  text_fits = omega (arith, text_short ws ts b.good)

  pub ascii_fine : Laid ws form → AllUtf8 ts → rows_word ws ≤ lowest (not_utf8 (doc_of ws ts)) (rows_word ws)
  ascii_fine laid all =
      let e =
      none_found (not_utf8 (doc_of ws ts)) (rows_word ws) 0
      (λ (j : ℕ) l h. all_fine ws ts form laid text_is j (omega (arith, rows_are)) (row_at ws j) refl all) in
      omega arith

  pub all_passed : rows_word ws ≤ lowest (at_fault ws) (rows_word ws) → rows_word ws ≤ lowest (repeated (doc_of ws ts)) (rows_word ws)
      → rows_word ws ≤ lowest (not_utf8 (doc_of ws ts)) (rows_word ws) → rows_word ws ≤ lowest (too_deep ws) (rows_word ws)
      → accepted form.rows ≡ record_outcome ws ts
  all_passed fault name text level = ap accepted rows_are ∙ sym (no_line ws ts b.good fault name text level)
