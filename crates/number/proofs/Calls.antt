-- What a call's number asks and tells.
--     counts          the count of a verdict
--     unmarked        its number, whatever is marked
--     count_fits      the count of every call fits a word
--     call_told       the number and the areas, from what the call leaves
--     outcome_one     any two outcomes that the promise allows are equal
-- Assumes nothing.
use mathlib.Core.Bool.{Bool, true, false}
use mathlib.Core.List.{List}
use mathlib.Core.Logic.{⊎_elim}
use mathlib.Core.Path.{◌≡◌, refl, sym, ap, ◌∙◌}
use Prim.Native.Nat.{ℕ, ◌*◌, ◌^◌, ◌≤◌, ◌<◌}
use native.Mathlib.Omega.{arith}
use lib.ListN.{length}
use Rattle.laws.proofs.Tests.{le_or_lt}
use Rattle.sheet.specs.Refusals.{Outcome, accepted, refused}
use Rattle.sheet.specs.Record.{doc_of}
use Rattle.sheet.specs.Faults.{record_outcome}
use Rattle.rulesheet.specs.Sheet.{rules_of}
use Rattle.rules.specs.Check.{rules_outcome}
use Rattle.meaning.specs.Rules.{Way}
use Rattle.meaning.specs.Answer.{Left, verdict, list_room, number_for_c, judged, judge}
use Rattle.meaning.proofs.Answers.{record_refused, rules_refused, cells_short, list_short, call_judged, fits, size_small}
use Rattle.meaning.proofs.Settled.{all_few}
use Rattle.answer.specs.Call as J
use Rattle.answer.specs.Call.{answer_of, leaves}
use Rattle.number.specs.Called.{counted, Called}

pub counts : (ok : Bool) (count marks : ℕ) → counted (verdict ok count marks) ≡ count
counts true count marks = refl
counts false count marks = refl

-- the marked children are not told
pub unmarked : (ok : Bool) (count marks : ℕ) → number_for_c (verdict ok count 0) ≡ number_for_c (verdict ok count marks)
unmarked true count marks = refl
unmarked false count marks = refl

module _ (w : Way) (ws ts rs us cs ls : List ℕ) where
  abbrev Fits : Type 0
  Fits = counted (judge w ws ts rs us cs ls).answer < 2 ^ 32

  by_left : (left : Left) → judge w ws ts rs us cs ls ≡ left → counted left.answer < 2 ^ 32 → Fits
  by_left left e h = rw e h

  by_judgement : (n m : ℕ) → record_outcome ws ts ≡ accepted n → rules_outcome rs us ≡ accepted m → judge w ws ts rs us cs ls ≡ judged w (doc_of ws ts) (rules_of rs us) n m cs ls → Fits
  unfolding judged
  by_judgement n m good fine e =
      let f = fits w ws ts rs us cs ls n good m fine in
      let some = all_few (doc_of ws ts) (rules_of rs us) w n m f in
      let few = size_small ws ts rs us n m good fine in
      by_left _ e (rw counts (omega arith))

  by_rules : (n : ℕ) → record_outcome ws ts ≡ accepted n → (o : Outcome) → rules_outcome rs us ≡ o → Fits
  by_rules n good (refused number place) e = by_left _ (rules_refused w ws ts rs us cs ls n good number place e) (omega arith)
  by_rules n good (accepted m) e =
      ⊎_elim
      (λ (a : n * m ≤ length cs).
      ⊎_elim (λ (b : list_room w (n * m) ≤ length ls). by_judgement n m good e (call_judged w ws ts rs us cs ls n good m e a b))
      (λ (b : length ls < list_room w (n * m)). by_left _ (list_short w ws ts rs us cs ls n good m e a b) (omega arith))
      (le_or_lt (list_room w (n * m)) (length ls)))
      (λ (a : length cs < n * m). by_left _ (cells_short w ws ts rs us cs ls n good m e a) (omega arith))
      (le_or_lt (n * m) (length cs))

  by_record : (o : Outcome) → record_outcome ws ts ≡ o → Fits
  by_record (refused number place) e = by_left _ (record_refused w ws ts rs us cs ls number place e) (omega arith)
  by_record (accepted n) e = by_rules n e (rules_outcome rs us) refl

  pub count_fits : (r : J.Answer) {cells list : List ℕ} → leaves w ws ts rs us cs ls r cells list → counted (answer_of r) < 2 ^ 32
  count_fits r e = rw (ap (λ (x : Left). x.answer) e) (by_record (record_outcome ws ts) refl)

  pub call_told : (a : J.Answer) {cells list : List ℕ} {r : ℕ} → leaves w ws ts rs us cs ls a cells list → r ≡ number_for_c (answer_of a) → Called w ws ts rs us cs ls cells list r
  call_told a e n =
      record {
        number_is = n ∙ ap (λ (x : Left). number_for_c x.answer) e;
        cells_are = ap (λ (x : Left). x.cells) e;
        list_is = ap (λ (x : Left). x.list) e;
      }

  pub outcome_one : {cells cells' list list' : List ℕ} {r r' : ℕ} → Called w ws ts rs us cs ls cells list r → Called w ws ts rs us cs ls cells' list' r'
      → (r ≡ r') × (cells ≡ cells') × (list ≡ list')
  outcome_one a b = (a.number_is ∙ sym b.number_is, a.cells_are ∙ sym b.cells_are, a.list_is ∙ sym b.list_is)
