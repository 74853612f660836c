-- What the proof of the whole call asks besides.
--     sheets_read                     accepted sheets are laid out as their readers ask
--     call_roomy                      areas that are long enough
--     run_left                        what the run leaves is what the call leaves
--     verdict_left                    what the call for the verdict only leaves
-- Assumes nothing.
use mathlib.Core.Bool.{true}
use mathlib.Core.List.{List, []}
use mathlib.Core.Path.{◌≡◌, refl, sym, ap, ◌∙◌}
use Prim.Native.Nat.{ℕ, ◌*◌, ◌≤◌, ◌<◌}
use native.Mathlib.Omega.{arith}
use lib.ListN.{length}
use Rattle.sheet.specs.declared.record.RecordForm.{RecordForm}
use Rattle.sheet.specs.Refusals.{accepted}
use Rattle.sheet.specs.Record as D
use Rattle.sheet.specs.Record.{rows_word, doc_of}
use Rattle.sheet.specs.Faults as F
use Rattle.sheet.specs.Faults.{record_outcome}
use Rattle.rulesheet.specs.declared.form.RuleForm.{RuleForm}
use Rattle.rulesheet.specs.Sheet as C
use Rattle.rulesheet.specs.Sheet.{schemas_word, rules_of}
use Rattle.rulesheet.specs.Faults as G
use Rattle.rules.specs.Check.{rules_outcome}
use Rattle.meaning.specs.Rules.{Way, whole, cut}
use Rattle.meaning.specs.Answer.{Left, list_room, judged, judge}
use Rattle.meaning.proofs.Answers.{rows_are, schemas_are, call_judged, fits}
use Rattle.clause.proofs.Reading.{record_read, rules_read}
use Rattle.run.specs.declared.Verdict.{Verdict}
use Rattle.lent.specs.Lent.{Sheets, case_of}
use Rattle.run.specs.Whole.{Roomy, left_by, judged_of}
use Rattle.meaning.proofs.Verdicts.{cut_list}
use Rattle.answer.specs.Call.{Answer, answer_of, leaves, verdict_leaves}

module _ (ws ts rs us : List ℕ) (n m : ℕ) (good : record_outcome ws ts ≡ accepted n) (fine : rules_outcome rs us ≡ accepted m) where
  rows : rows_word ws ≡ n
  rows = rows_are whole ws ts rs us [] [] n good

  schemas : schemas_word rs ≡ m
  schemas = schemas_are whole ws ts rs us [] [] n good m fine

  good' : record_outcome ws ts ≡ accepted (rows_word ws)
  good' = good ∙ ap accepted (sym rows)

  fine' : rules_outcome rs us ≡ accepted (schemas_word rs)
  fine' = fine ∙ ap accepted (sym schemas)

  form_rows : (D.form_of ws).rows ≡ rows_word ws
  unfolding D.form_of
  form_rows = refl

  form_m : (C.form_of rs).m ≡ schemas_word rs
  unfolding C.form_of
  form_m = refl

  pub sheets_read : {form : RecordForm} {rform : RuleForm} → form ≡ D.form_of ws → rform ≡ C.form_of rs → Sheets ws ts rs us form rform
  sheets_read {form} {rform} a b =
      record {
        record_read = record_read ws ts form (record { same_form = a; accepts = rw (a, form_rows) good' });
        rules_read = rules_read rs us rform (record { same_form = b; accepts = rw (b, form_m) fine' });
      }

  pub record_trailer : F.words_ok ws ≡ true
  record_trailer = (sheets_read refl refl).record_read.laid.formed.trailer

  pub rules_trailer : G.words_ok rs ≡ true
  rules_trailer = (sheets_read refl refl).rules_read.laid.clauses_laid.schemas_laid.formed.trailer

  pub call_roomy : (w : Way) {size room : ℕ} {cells list : List ℕ} → size ≡ n * m → room ≡ list_room w size → size ≤ length cells → room ≤ length list
      → Roomy (case_of w ws ts rs us) cells list
  call_roomy w {size} {room} e f a b =
      let g : room ≡ list_room w (n * m) = f ∙ ap (list_room w) e in
      record {
        fit = fits whole ws ts rs us [] [] (rows_word ws) good' (schemas_word rs) fine';
        cells_long = rw (rows, schemas) (omega arith);
        list_long = rw (rows, schemas) (omega arith);
      }

  -- what the run leaves is what the call leaves
  module _ (w : Way) (cs ls : List ℕ) {size room : ℕ} (s : size ≡ n * m) (q : room ≡ list_room w size) (a : size ≤ length cs) (b : room ≤ length ls) where
    pub run_left : {c l : List ℕ} (v : Verdict) → left_by v c l ≡ judged_of (case_of w ws ts rs us) cs ls → left_by v c l ≡ judge w ws ts rs us cs ls
    run_left v e =
        let g : room ≡ list_room w (n * m) = q ∙ ap (list_room w) s in
        e ∙ ap (λ k. judged w (doc_of ws ts) (rules_of rs us) k (schemas_word rs) cs ls) rows ∙ ap (λ k. judged w (doc_of ws ts) (rules_of rs us) n k cs ls) schemas
        ∙ sym (call_judged w ws ts rs us cs ls n good m fine (omega arith) (omega arith))

-- the call for the verdict only lends a list of no places, and leaves it
pub verdict_left : (ws ts rs us cs : List ℕ) (r : Answer) {c l : List ℕ} → leaves cut ws ts rs us cs [] r c l → verdict_leaves ws ts rs us cs r c
verdict_left ws ts rs us cs r {c} {l} e =
    let none : [] ≡ l = sym (ap (λ (x : Left). x.list) e ∙ cut_list ws ts rs us cs []) in
    ap (λ (y : List ℕ). record { answer = answer_of r; cells = c; list = y }) none ∙ e
