-- The reply, by what the checks and the judge answer.
--     parts_told                                     the parts of a good bundle, as they are taken
--     bad_replied, record_refused, rules_refused, sides_large     what is printed where nothing is judged
--     judged_replies, never_refused                  what the judge's answer is, and what it is not
-- Assumes nothing.
use mathlib.Core.Bool.{Bool, true, false}
use mathlib.Core.List.{List, ◌++◌}
use mathlib.Core.Path.{◌≡◌, refl, sym, ap, ◌∙◌}
use Prim.Native.Nat.{ℕ, ◌-◌, ◌*◌, ◌≤◌}
use native.Mathlib.Nat.{mul-le-mul_right, mul_comm}
use native.Mathlib.Omega.{arith}
use lib.Dec.{ltb}
use lib.ListN.{length, take, drop}
use Rattle.std.specs.Prelude.{Some, None, Ok, Err}
use borrow.Author.Tests.{ltb-false}
use Rattle.sheet.specs.declared.refusal.Refused.{Refused}
use Rattle.sheet.specs.Refusals.{refusal_number, accepted, refused}
use Rattle.sheet.specs.Doc.{Doc}
use Rattle.sheet.specs.Record.{doc_of}
use Rattle.sheet.specs.Faults.{record_outcome}
use Rattle.rulesheet.specs.Ruleset.{Ruleset}
use Rattle.rulesheet.specs.Sheet.{rules_of}
use Rattle.rules.specs.Check.{rules_outcome}
use Rattle.meaning.specs.Rules.{whole, truth}
use Rattle.meaning.specs.Settling.{root, settled, marked, list, cells}
use Rattle.meaning.specs.Fit.{Fit}
use Rattle.meaning.specs.Answer.{refuses, Left, verdict, judged, judge}
use Rattle.meaning.proofs.Answers.{call_judged, fits}
use Rattle.meaning.proofs.Trees.{once}
use Rattle.answer.specs.Call as J
use Rattle.answer.specs.Call.{answer_of, call_leaves}
use Rattle.parts.specs.declared.Lengths.{Lengths}
use Rattle.bundle.specs.declared.Unjudged.TheVariants.{BadBundle, Refused as NotInOrder, TooLarge}
use Rattle.parts.specs.Bundle.{words_of, parts, parts_of}
use Rattle.parts.proofs.Bundles.{text, rules, rule_text, end}
use Rattle.bundle.specs.Printed.{side_max, is_too_large, told_judged, told_sheets, told_parts, told_of, Roomy, InOrder, Replies}
use Rattle.laws.proofs.Tests.{neither}
use Rattle.bundle.proofs.Lines.{listed_below, lines_shown}

same_verdict : (b b' : Bool) (c c' k k' : ℕ) → verdict b c k ≡ verdict b' c' k' → (b ≡ b') × (c ≡ c') × (k ≡ k')
same_verdict true true c c' k k' e = (refl, cc, cc)
same_verdict true false c c' k k' e = (cc, cc, cc)
same_verdict false true c c' k k' e = (cc, cc, cc)
same_verdict false false c c' k k' e = (refl, cc, cc)

refuses_none : (b : Bool) (number place c k : ℕ) → refuses number place ≡ verdict b c k → ⊥
refuses_none true number place c k e = let z : ◌≡◌ {A = ℕ} 0 1 = cc in omega arith
refuses_none false number place c k e = let z : ◌≡◌ {A = ℕ} 0 1 = cc in omega arith

pub bad_replied : (bs : List ℕ) {cells list : List ℕ} → parts_of bs ≡ None → Replies (told_of bs cells list) (Err BadBundle) cells list
unfolding told_parts
bad_replied bs e = record { tells = rw e; readable = tt }

-- the parts of a good bundle as they are taken, one after the other
module _ (bs : List ℕ) (a b : Lengths) (good : parts_of bs ≡ Some (parts a b)) where
  pub parts_told : (cs ls : List ℕ)
      → told_sheets (words_of (take (text a) bs)) (take (rules a - text a) (drop (text a) bs)) (words_of (take (rule_text a b - rules a) (drop (rules a) bs))) (take (end a b - rule_text a b) (drop (rule_text a b) bs)) cs ls
      ≡ told_of bs cs ls
  unfolding told_parts
  parts_told cs ls =
      let x : rules a - text a ≡ a.text = omega arith in
      let y : rule_text a b - rules a ≡ b.words = omega arith in
      let z : end a b - rule_text a b ≡ b.text = omega arith in
      rw (x, y, z, good)

module _ (ws ts rs us : List ℕ) where
  pub record_refused : (r : Refused) {cells list : List ℕ} → record_outcome ws ts ≡ refused (refusal_number r.refusal) r.place → Replies (told_sheets ws ts rs us cells list) (Err (NotInOrder r)) cells list
  unfolding told_sheets
  record_refused r e = record { tells = rw e; readable = tt }

  module _ (n : ℕ) (good : record_outcome ws ts ≡ accepted n) where
    pub rules_refused : (r : Refused) {cells list : List ℕ} → rules_outcome rs us ≡ refused (refusal_number r.refusal) r.place → Replies (told_sheets ws ts rs us cells list) (Err (NotInOrder r)) cells list
    unfolding told_sheets
    rules_refused r e = record { tells = rw (good, e); readable = tt }

    module _ (m : ℕ) (fine : rules_outcome rs us ≡ accepted m) where
      pub sides_large : {cells list : List ℕ} → is_too_large n m ≡ true → Replies (told_sheets ws ts rs us cells list) (Err TooLarge) cells list
      unfolding told_sheets
      sides_large e = record { tells = rw (good, fine, e); readable = tt }

module _ (ws ts rs us cs ls : List ℕ) (n m : ℕ) (given : InOrder ws ts rs us cs ls n m) where
  abbrev D : Doc
  D = doc_of ws ts

  abbrev R : Ruleset
  R = rules_of rs us

  few : n * m ≤ side_max * side_max
  few =
      let sides = neither (ltb side_max n) (ltb side_max m) given.small in
      let x : n * m ≤ side_max * m = mul-le-mul_right m (ltb-false side_max n sides.0) in
      let y : m * side_max ≤ side_max * side_max = mul-le-mul_right side_max (ltb-false side_max m sides.1) in
      let z : m * side_max ≡ side_max * m = mul_comm m side_max in
      omega arith

  is_judged : judge whole ws ts rs us cs ls ≡ judged whole D R n m cs ls
  is_judged =
      let a : n * m ≤ length cs = (let h = few in let g = given.room.cells_long in omega arith) in
      let b : n * m ≤ length ls = (let h = few in let g = given.room.list_long in omega arith) in
      call_judged whole ws ts rs us cs ls n given.record_good m given.rules_good a b

  fit : Fit D R n m
  fit = fits whole ws ts rs us cs ls n given.record_good m given.rules_good

  told : told_judged D R n m cs ls ≡ told_sheets ws ts rs us cs ls
  unfolding told_sheets
  told = rw (given.record_good, given.rules_good, given.small)

  -- the answer is a verdict
  pub never_refused : (a : J.Answer) (r : Refused) {c l : List ℕ} → a ≡ Err r → call_leaves ws ts rs us cs ls a c l → ⊥
  unfolding judged
  never_refused a r is e =
      refuses_none (truth D R root).holds (refusal_number r.refusal) r.place (length (settled D R whole)) (marked D R n m)
      (sym (ap answer_of is) ∙ ap (λ (x : Left). x.answer) (e ∙ is_judged))

  abbrev Judges : Bool → ℕ → ℕ → List ℕ → List ℕ → Type 0
  Judges ok pairs marks c l = ◌≡◌ {A = Left} (record { answer = verdict ok pairs marks; cells = c; list = l }) (judge whole ws ts rs us cs ls)

  pub judged_replies : (ok : Bool) (pairs marks : ℕ) {c l : List ℕ} → Roomy c l → Judges ok pairs marks c l
      → Replies (told_sheets ws ts rs us cs ls) (Ok (record { valid = ok; schemas = m; pairs = pairs; marked = marks })) c l
  unfolding judged told_judged
  judged_replies ok pairs marks {c} {l} room e =
      let left = e ∙ is_judged in
      let answers = same_verdict ok (truth D R root).holds pairs (length (settled D R whole)) marks (marked D R n m) (ap (λ (x : Left). x.answer) left) in
      let cells_are : c ≡ cells D R n m whole ++ drop (n * m) cs = ap (λ (x : Left). x.cells) left in
      let list_is : l ≡ list D R n m ++ drop (length (settled D R whole)) ls = ap (λ (x : Left). x.list) left in
      let size = few in
      let most = (once D R n m fit).at_most in
      let long = answers.1 in
      record {
        tells = rw (answers.0, long, answers.2, cells_are, list_is, lines_shown D R n m fit (drop (n * m) cs) (drop (length (settled D R whole)) ls)) told;
        readable =
            λ i h.
            record {
              some = fit.some;
              listed = omega (arith, room.list_long);
              inside = omega (arith, room.cells_long, rw (← list_is) at (listed_below D R n m fit i (omega arith) (drop (length (settled D R whole)) ls)));
            };
      }
