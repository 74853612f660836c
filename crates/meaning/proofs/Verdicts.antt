-- The call for the verdict only beside the full call.
--     cut_list         a cut call leaves the list alone
--     verdict_same     they answer the same but for the count, on every input, where the full call's list is long enough
-- Assumes nothing.
use mathlib.Core.Bool.{Bool, true, false}
use mathlib.Core.List.{List, ◌++◌, ◌∷◌, []}
use mathlib.Core.Path.{◌≡◌, refl, sym, ap, ◌∙◌}
use Prim.Native.Nat.{ℕ, ◌*◌, ◌≤◌}
use native.Mathlib.Omega.{arith}
use lib.Dec.{ltb}
use lib.ListN.{length}
use borrow.Author.Tests.{le-ltb}
use Rattle.sheet.specs.Refusals.{Outcome, accepted, refused, first_line}
use Rattle.sheet.specs.Record.{rows_word, doc_of}
use Rattle.sheet.specs.Faults.{record_lines}
use Rattle.rulesheet.specs.Sheet.{schemas_word, rules_of}
use Rattle.rules.specs.Check.{rule_lines}
use Rattle.meaning.specs.Rules.{Way, whole, cut, truth}
use Rattle.meaning.specs.Settling.{root, settled, marked}
use Rattle.meaning.specs.Answer.{Answer, verdict, uncounted, Left, table, judged, judge}
use Rattle.meaning.proofs.Answers.{by_lines}

verdict_uncounted : (ok : Bool) (count count' marks : ℕ) → uncounted (verdict ok count marks) ≡ uncounted (verdict ok count' marks)
verdict_uncounted true count count' marks = refl
verdict_uncounted false count count' marks = refl

module _ (ws ts rs us cs : List ℕ) where
  abbrev size : ℕ
  size = rows_word ws * schemas_word rs

  by_outcome : (ls ls' : List ℕ) (o : Outcome) → first_line (table cut ws ts rs us cs ls) 0 ≡ o → first_line (table whole ws ts rs us cs ls') 0 ≡ o
      → uncounted (judge cut ws ts rs us cs ls).answer ≡ uncounted (judge whole ws ts rs us cs ls').answer
  unfolding judged
  by_outcome ls ls' (accepted k) e f =
      ap (λ (x : Left). uncounted x.answer) (by_lines cut ws ts rs us cs ls (accepted k) e)
      ∙ verdict_uncounted (truth (doc_of ws ts) (rules_of rs us) root).holds (length (settled (doc_of ws ts) (rules_of rs us) cut)) (length (settled (doc_of ws ts) (rules_of rs us) whole)) (marked (doc_of ws ts) (rules_of rs us) (rows_word ws) (schemas_word rs))
      ∙ sym (ap (λ (x : Left). uncounted x.answer) (by_lines whole ws ts rs us cs ls' (accepted k) f))
  by_outcome ls ls' (refused number place) e f =
      ap (λ (x : Left). uncounted x.answer) (by_lines cut ws ts rs us cs ls (refused number place) e)
      ∙ sym (ap (λ (x : Left). uncounted x.answer) (by_lines whole ws ts rs us cs ls' (refused number place) f))

  list_by : (ls : List ℕ) (o : Outcome) → first_line (table cut ws ts rs us cs ls) 0 ≡ o → (judge cut ws ts rs us cs ls).list ≡ ls
  unfolding judged
  list_by ls (accepted k) e = ap (λ (x : Left). x.list) (by_lines cut ws ts rs us cs ls (accepted k) e)
  list_by ls (refused number place) e = ap (λ (x : Left). x.list) (by_lines cut ws ts rs us cs ls (refused number place) e)

  pub cut_list : (ls : List ℕ) → (judge cut ws ts rs us cs ls).list ≡ ls
  cut_list ls = list_by ls (first_line (table cut ws ts rs us cs ls) 0) refl

  pub verdict_same : (ls ls' : List ℕ) → rows_word ws * schemas_word rs ≤ length ls'
      → uncounted (judge cut ws ts rs us cs ls).answer ≡ uncounted (judge whole ws ts rs us cs ls').answer
  verdict_same ls ls' h =
      let same : table whole ws ts rs us cs ls' ≡ table cut ws ts rs us cs ls =
      ap (λ (b : Bool). record_lines ws ts ++ (rule_lines rs us ++ (record { number = 10; applies = ltb (length cs) size; place = size } ∷ record { number = 11; applies = b; place = size } ∷ [])))
      (le-ltb (length ls') size h ∙ sym (le-ltb (length ls) 0 (omega arith))) in
      by_outcome ls ls' (first_line (table cut ws ts rs us cs ls) 0) refl (ap (λ lines. first_line lines 0) same)
