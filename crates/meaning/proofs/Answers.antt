-- The whole call, by what the two checks say of its sheets and how long its areas are.
--     record_refused, rules_refused, cells_short, list_short     the refusals
--     call_judged                                                a call that is not refused
--     fits                                                       what the checks give to the judge
--     pairs_few, size_small                                      how many pairs there are at most
-- Assumes nothing.
use mathlib.Core.Bool.{Bool, true, false, cond}
use mathlib.Core.List.{List, [], ◌∷◌, ◌++◌}
use mathlib.Core.Logic.{⊎_elim}
use mathlib.Core.Path.{◌≡◌, refl, sym, ap, ◌∙◌}
use Prim.Native.Nat.{ℕ, ◌*◌, ◌≤◌, ◌<◌}
use native.Mathlib.Nat.{mul-le-mul_right, mul_comm}
use native.Mathlib.Omega.{arith}
use lib.Dec.{ltb}
use lib.ListN.{length}
use borrow.Author.Tests.{lt-ltb, le-ltb}
use Rattle.laws.proofs.Tests.{decide}
use Rattle.sheet.specs.Refusals.{Outcome, accepted, refused, Line, first_line}
use Rattle.sheet.specs.Doc.{null}
use Rattle.sheet.specs.Record.{rows_word, doc_of}
use Rattle.sheet.specs.Faults.{record_lines, record_outcome}
use Rattle.sheet.proofs.Acceptance.{clash, same_count}
use Rattle.sheet.proofs.Shape.{well_formed}
use Rattle.sheet.proofs.Tables.{test_passed, test_given}
use Rattle.rulesheet.specs.declared.form.RuleForm.{RuleForm}
use Rattle.rulesheet.specs.Sheet.{schemas_word, form_of, rules_of}
use Rattle.rulesheet.proofs.Naming.{named_inside}
use Rattle.rules.specs.Check.{rule_lines, rules_outcome}
use Rattle.rules.specs.Accepted.{AcceptedRules}
use Rattle.rules.proofs.Acceptance.{accepted_facts}
use Rattle.meaning.specs.Rules.{Way, whole}
use Rattle.meaning.specs.Answer.{refuses, Left, list_room, area_lines, table, judged, unless, judge}
use Rattle.meaning.specs.Fit.{Fit}

-- ---- a table after a table

-- what acceptance gives is what the table was asked to give
given : (lines : List Line) (rows k : ℕ) → first_line lines rows ≡ accepted k → rows ≡ k
unfolding first_line
given [] rows k e = same_count (accepted rows) rows k refl e
given (line ∷ lines) rows k e =
    ⊎_elim (λ (t : line.applies ≡ true). clash (first_line (line ∷ lines) rows) k line.number line.place e (test_given line lines rows t))
    (λ (t : line.applies ≡ false). given lines rows k (sym (test_passed line lines rows t) ∙ e))
    (decide line.applies)

first_refused : (lines more : List Line) (rows rest number place : ℕ) → first_line lines rows ≡ refused number place
    → first_line (lines ++ more) rest ≡ refused number place
unfolding first_line
first_refused [] more rows rest number place e = clash (accepted rows) rows number place refl e
first_refused (line ∷ lines) more rows rest number place e =
    ⊎_elim (λ (t : line.applies ≡ true). rw t (rw t at e))
    (λ (t : line.applies ≡ false). rw t (first_refused lines more rows rest number place (rw t at e)))
    (decide line.applies)

first_accepted : (lines more : List Line) (rows rest k : ℕ) → first_line lines rows ≡ accepted k → first_line (lines ++ more) rest ≡ first_line more rest
unfolding first_line
first_accepted [] more rows rest k e = refl
first_accepted (line ∷ lines) more rows rest k e =
    ⊎_elim (λ (t : line.applies ≡ true). clash (first_line (line ∷ lines) rows) k line.number line.place e (test_given line lines rows t))
    (λ (t : line.applies ≡ false). rw t (first_accepted lines more rows rest k (rw t at e)))
    (decide line.applies)

-- ---- the call

module _ (w : Way) (ws ts rs us cs ls : List ℕ) where
  abbrev same : ℕ → ℕ → Left
  same number place = record { answer = refuses number place; cells = cs; list = ls }

  abbrev size : ℕ
  size = rows_word ws * schemas_word rs

  abbrev areas : List Line
  areas = area_lines w size (length cs) (length ls)

  abbrev rest : Left
  rest = judged w (doc_of ws ts) (rules_of rs us) (rows_word ws) (schemas_word rs) cs ls

  pub by_lines : (o : Outcome) → first_line (table w ws ts rs us cs ls) 0 ≡ o → judge w ws ts rs us cs ls ≡ unless o cs ls rest
  unfolding judge
  by_lines o e = ap (λ x. unless x cs ls rest) e

  pub record_refused : (number place : ℕ) → record_outcome ws ts ≡ refused number place → judge w ws ts rs us cs ls ≡ same number place
  unfolding record_outcome
  record_refused number place e =
      by_lines (refused number place) (first_refused (record_lines ws ts) (rule_lines rs us ++ areas) (rows_word ws) 0 number place e)

  module _ (n : ℕ) (good : record_outcome ws ts ≡ accepted n) where
    past_record : first_line (table w ws ts rs us cs ls) 0 ≡ first_line (rule_lines rs us ++ areas) 0
    unfolding record_outcome
    past_record = first_accepted (record_lines ws ts) (rule_lines rs us ++ areas) (rows_word ws) 0 n good

    pub rows_are : rows_word ws ≡ n
    unfolding record_outcome
    rows_are = given (record_lines ws ts) (rows_word ws) n good

    pub rules_refused : (number place : ℕ) → rules_outcome rs us ≡ refused number place → judge w ws ts rs us cs ls ≡ same number place
    unfolding rules_outcome
    rules_refused number place e =
        by_lines (refused number place) (past_record ∙ first_refused (rule_lines rs us) areas (schemas_word rs) 0 number place e)

    module _ (m : ℕ) (fine : rules_outcome rs us ≡ accepted m) where
      past_rules : first_line (table w ws ts rs us cs ls) 0 ≡ first_line areas 0
      unfolding rules_outcome
      past_rules = past_record ∙ first_accepted (rule_lines rs us) areas (schemas_word rs) 0 m fine

      pub schemas_are : schemas_word rs ≡ m
      unfolding rules_outcome
      schemas_are = given (rule_lines rs us) (schemas_word rs) m fine

      size_is : size ≡ n * m
      size_is = rw (rows_are, schemas_are)

      pub cells_short : length cs < n * m → judge w ws ts rs us cs ls ≡ same 10 (n * m)
      unfolding first_line
      cells_short h =
          let t = lt-ltb (length cs) size (rw size_is h) in
          by_lines (refused 10 size) (past_rules ∙ rw t) ∙ ap (same 10) size_is

      module _ (roomy : n * m ≤ length cs) where
        cells_enough : ltb (length cs) size ≡ false
        cells_enough = le-ltb (length cs) size (rw size_is roomy)

        pub list_short : length ls < list_room w (n * m) → judge w ws ts rs us cs ls ≡ same 11 (n * m)
        unfolding first_line
        list_short h =
            let t = lt-ltb (length ls) (list_room w size) (rw size_is h) in
            by_lines (refused 11 size) (past_rules ∙ rw (cells_enough, t)) ∙ ap (same 11) size_is

        pub call_judged : list_room w (n * m) ≤ length ls → judge w ws ts rs us cs ls ≡ judged w (doc_of ws ts) (rules_of rs us) n m cs ls
        unfolding first_line
        call_judged h =
            let t = le-ltb (length ls) (list_room w size) (rw size_is h) in
            by_lines (accepted 0) (past_rules ∙ rw (cells_enough, t)) ∙ rw (rows_are, schemas_are)

      -- ---- what the checks give

      past_null : (j : ℕ) → n ≤ j → (doc_of ws ts).value j ≡ null
      unfolding doc_of
      past_null j h = rw (le-ltb j (rows_word ws) (omega (arith, rows_are)))

      form_m : (form : RuleForm) → form ≡ form_of rs → form.m ≡ schemas_word rs
      unfolding form_of
      form_m form e = ap (λ (f : RuleForm). f.m) e

      pub fits : Fit (doc_of ws ts) (rules_of rs us) n m
      fits =
          let form : RuleForm = form_of rs in
          let e : form.m ≡ m = form_m form refl ∙ schemas_are in
          let a : AcceptedRules rs us form = record { same_form = refl; accepts = rw e fine } in
          let f = accepted_facts rs us form a in
          record {
            rows = well_formed ws ts n good;
            past = past_null;
            some = omega (arith, f.some);
            few = omega (arith, f.few);
            inside = λ s c t i k. omega (arith, named_inside rs us form f.rules_laid s c t i k, schemas_are);
            grounds = f.grounds;
          }

-- ---- how many pairs there are

pub pairs_few : (n m : ℕ) → n ≤ 1024 → m ≤ 1024 → n * m ≤ 1048576
pairs_few n m a b =
    let x : n * m ≤ 1024 * m = mul-le-mul_right m a in
    let y : m * 1024 ≤ 1024 * 1024 = mul-le-mul_right 1024 b in
    let z : m * 1024 ≡ 1024 * m = mul_comm m 1024 in
    omega arith

-- their number fits a word
pub size_small : (ws ts rs us : List ℕ) (n m : ℕ) → record_outcome ws ts ≡ accepted n → rules_outcome rs us ≡ accepted m → n * m < 4294967296
size_small ws ts rs us n m good fine =
    let f = fits whole ws ts rs us [] [] n good m fine in
    omega (arith, pairs_few n m f.rows.few f.few)
