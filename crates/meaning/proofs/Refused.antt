-- Demand 1: what is refused is the table.
--     first_given, given_first, none_given     the first line that applies gives the refusal, and no other does
--     answer_refused                           the answer is a refusal exactly if the table gives it
--     rules_inside                             where 5 and 6 do not apply, unguarded steps lead to schemas that are there
--     total                                    the demand
-- Assumes nothing.
use mathlib.Core.Bool.{Bool, true, false, not, ◌&&◌, cond}
use mathlib.Core.List.Memᴰ
use mathlib.Core.List.Memᴰ.{head as at_head}
use mathlib.Core.List.Memᴰ.{tail as in_Tail}
use mathlib.Core.List.{List, [], ◌∷◌, ◌++◌, Memᴰ as In}
use mathlib.Core.Logic.{◌↔◌, ⊎_elim}
use mathlib.Core.Path.{◌≡◌, refl, sym, ap, ◌∙◌, subst}
use Prim.Native.Nat.{ℕ, ◌+◌, ◌*◌, ◌≤◌, ◌<◌}
use native.Mathlib.Omega.{arith}
use lib.Dec.{ltb}
use lib.ListN.{length}
use borrow.Author.Tests.{lt-ltb, le-ltb, ltb-true, ltb-false, not-false}
use Rattle.laws.specs.Lowest.{lowest}
use Rattle.laws.proofs.Tests.{decide, le_or_lt}
use Rattle.utf8.proofs.Meaning.{utf8_is}
use Rattle.sheet.specs.Refusals.{Outcome, accepted, refused, Line, lowest_line, first_line}
use Rattle.sheet.specs.Doc.{Doc}
use Rattle.sheet.specs.Record.{rows_word, doc_of}
use Rattle.sheet.specs.Faults.{record_lines}
use Rattle.sheet.proofs.Acceptance.{clash}
use Rattle.sheet.proofs.Tables.{test_passed, test_given}
use Rattle.rulesheet.specs.declared.form.RuleForm.{RuleForm}
use Rattle.rulesheet.specs.Ruleset.{Clause, Ruleset, unguarded, steps, next}
use Rattle.rulesheet.specs.Sheet.{schemas_word, clauses_word, entries_word, form_of, rules_of}
use Rattle.rulesheet.specs.Faults.{words_ok, text_ok, schema_fault, clause_fault, entry_fault, repeated, not_utf8}
use Rattle.rulesheet.specs.Read.{RulesFormed, RulesLaid}
use Rattle.rulesheet.proofs.Naming.{named_inside, steps_named}
use Rattle.unguarded.specs.Graph.{chain_steps, OnLoop, Chain, chain, on_loop}
use Rattle.unguarded.proofs.Agreement.{loop_at, loop_first, chain_at, chain_first}
use Rattle.rules.specs.Check.{rule_lines}
use Rattle.rules.proofs.Checks.{schemas_laid, clauses_laid, rules_laid, words_in_order}
use Rattle.meaning.specs.Settling.{root, settled, marked}
use Rattle.meaning.specs.Rules.{Way, truth}
use Rattle.meaning.specs.Answer.{Answer, valid, invalid, refuses, verdict, Left, area_lines, table, judged, unless, judge}
use Rattle.meaning.specs.Demands.{First, NoneOf, NoneBefore, LowestOf, Total}
use Rattle.meaning.specs.Lists.{all}
use Rattle.meaning.proofs.Members.{all_pass}
use Rattle.meaning.proofs.Values.{and_then}
use Rattle.meaning.proofs.Answers.{by_lines}

-- ---- the first line

first_at : (before after : List Line) (line : Line) (rows : ℕ) → NoneOf before → line.applies ≡ true
    → first_line (before ++ line ∷ after) rows ≡ refused line.number line.place
first_at [] after line rows none h = test_given line after rows h
first_at (l ∷ before) after line rows none h =
    test_passed l (before ++ line ∷ after) rows (none l (at_head refl)) ∙ first_at before after line rows (λ k i. none k (in_Tail i)) h

first_given : (lines : List Line) (line : Line) (rows : ℕ) → First lines line → first_line lines rows ≡ refused line.number line.place
first_given lines line rows f = ap (λ ls. first_line ls rows) f.parted ∙ first_at f.before f.after line rows f.passed f.given

pub none_given : (lines more : List Line) (rows : ℕ) → NoneOf lines → first_line (lines ++ more) rows ≡ first_line more rows
none_given [] more rows none = refl
none_given (l ∷ lines) more rows none =
    test_passed l (lines ++ more) rows (none l (at_head refl)) ∙ none_given lines more rows (λ k i. none k (in_Tail i))

abbrev Gives : List Line → ℕ → ℕ → Type 0
Gives lines number place = (line : Line) × First lines line × (line.number ≡ number) × (line.place ≡ place)

same_refusal : {a b c d : ℕ} → refused a b ≡ refused c d → (a ≡ c) × (b ≡ d)
same_refusal e = (numbers e, places e)
  where
    numbers : {a b c d : ℕ} → refused a b ≡ refused c d → a ≡ c
    numbers e = cc

    places : {a b c d : ℕ} → refused a b ≡ refused c d → b ≡ d
    places e = cc

given_first : (lines : List Line) (rows number place : ℕ) → first_line lines rows ≡ refused number place → Gives lines number place
unfolding first_line
given_first [] rows number place e = clash (accepted rows) rows number place refl e
given_first (l ∷ lines) rows number place e =
    ⊎_elim
    (λ (h : l.applies ≡ true).
    let s = same_refusal (sym (test_given l lines rows h) ∙ e) in
    (l, record { before = []; after = lines; parted = refl; passed = λ k i. elim i [ ]; given = h }, s.0, s.1))
    (λ (h : l.applies ≡ false). one_before l h (given_first lines rows number place (sym (test_passed l lines rows h) ∙ e)))
    (decide l.applies)
  where
    one_before : (l : Line) → l.applies ≡ false → Gives lines number place → Gives (l ∷ lines) number place
    one_before l h w =
        let f = w.1 in (
          w.0,
          record {
            before = l ∷ f.before;
            after = f.after;
            parted = ap (λ ls. l ∷ ls) f.parted;
            passed = λ k i. ⊎_elim (λ (s : k ≡ l). rw s h) (λ j. f.passed k j) (Memᴰ.cases_cons i);
            given = f.given;
          },
          w.2,
          w.3,
        )

-- ---- a line that gives the lowest of m schemas, between lines that do not apply and lines of higher numbers

module _ (number m : ℕ) (test : ℕ → Bool) (P : ℕ → Type 0) (at : lowest test m < m → P (lowest test m)) (first : (s : ℕ) → s < lowest test m → P s → ⊥)
    (early late : List Line) (small : NoneOf early) (big : (l : Line) → In l late → number < l.number) where
  abbrev own : Line
  own = lowest_line number 0 m test

  abbrev outcome : Outcome
  outcome = first_line (early ++ own ∷ late) 0

  past : outcome ≡ first_line (own ∷ late) 0
  past = none_given early (own ∷ late) 0 small

  found : lowest test m < m → outcome ≡ refused number (lowest test m)
  found h = past ∙ test_given own late 0 (lt-ltb (lowest test m) m h) ∙ ap (refused number) (omega arith)

  not_later : (p : ℕ) → first_line late 0 ≡ refused number p → ⊥
  not_later p e =
      let w = given_first late 0 number p e in
      let i : In w.0 late = subst (λ ls. In w.0 ls) (sym w.1.parted) (Memᴰ.append_right w.1.before (at_head refl)) in
      omega (arith, big w.0 i, w.2)

  only_lowest : (p : ℕ) → LowestOf P m p → lowest test m < m → p ≡ lowest test m
  only_lowest p h l =
      ⊎_elim
      (λ (a : lowest test m ≤ p).
      ⊎_elim (λ (b : p ≤ lowest test m). omega arith) (λ (b : lowest test m < p). absurd (h.2 (lowest test m) b (at l))) (le_or_lt p (lowest test m)))
      (λ (a : p < lowest test m). absurd (first p a h.1))
      (le_or_lt (lowest test m) p)

  lowest_refused : (p : ℕ) → (outcome ≡ refused number p) ↔ LowestOf P m p
  lowest_refused p =
      ⊎_elim
      (λ (l : m ≤ lowest test m). (
        (λ e. absurd (not_later p (sym (test_passed own late 0 (le-ltb (lowest test m) m l)) ∙ sym past ∙ e))),
        (λ h. absurd (first p (omega (arith, h.0)) h.1)),
      ))
      (λ (l : lowest test m < m). (
        (λ e. let s : lowest test m ≡ p = (same_refusal (sym (found l) ∙ e)).1 in subst (LowestOf P m) s (l, at l, first)),
        (λ h. found l ∙ ap (refused number) (sym (only_lowest p h l))),
      ))
      (le_or_lt m (lowest test m))

-- ---- the whole table

verdict_given : (b : Bool) (count marks number place : ℕ) → verdict b count marks ≡ refuses number place → ⊥
verdict_given true count marks number place e = let z : ◌≡◌ {A = ℕ} 0 1 = cc in omega arith
verdict_given false count marks number place e = let z : ◌≡◌ {A = ℕ} 0 1 = cc in omega arith

same_answer : {a b c d : ℕ} → refuses a b ≡ refuses c d → (a ≡ c) × (b ≡ d)
same_answer e = (numbers e, places e)
  where
    numbers : {a b c d : ℕ} → refuses a b ≡ refuses c d → a ≡ c
    numbers e = cc

    places : {a b c d : ℕ} → refuses a b ≡ refuses c d → b ≡ d
    places e = cc

-- a step of clauses is one of some clause
steps_in : (cs : List Clause) (t : ℕ) → In t (steps cs) → (c : Clause) × In c cs × In t (unguarded c)
unfolding steps
steps_in [] t i = elim i [ ]
steps_in (c ∷ cs) t i =
    ⊎_elim (λ j. (c, at_head refl, j)) (λ j. let w = steps_in cs t j in (w.0, in_Tail w.1, w.2)) (Memᴰ.append_cases (unguarded c) i)

module _ (w : Way) (ws ts rs us cs ls : List ℕ) where
  abbrev lines : List Line
  lines = table w ws ts rs us cs ls

  abbrev m : ℕ
  m = schemas_word rs

  abbrev D : Doc
  D = doc_of ws ts

  abbrev R : Ruleset
  R = rules_of rs us

  by_outcome : (o : Outcome) → first_line lines 0 ≡ o → (number place : ℕ) → (judge w ws ts rs us cs ls).answer ≡ refuses number place → first_line lines 0 ≡ refused number place
  unfolding judged
  by_outcome (accepted k) e number place f =
      absurd (verdict_given (truth D R root).holds (length (settled D R w)) (marked D R (rows_word ws) m) number place (sym (ap (λ (x : Left). x.answer) (by_lines w ws ts rs us cs ls (accepted k) e)) ∙ f))
  by_outcome (refused a b) e number place f =
      let s = same_answer (sym (ap (λ (x : Left). x.answer) (by_lines w ws ts rs us cs ls (refused a b) e)) ∙ f) in
      e ∙ rw (s.0, s.1)

  answer_refused : (number place : ℕ) → ((judge w ws ts rs us cs ls).answer ≡ refuses number place) ↔ (first_line lines 0 ≡ refused number place)
  answer_refused number place = (
    by_outcome (first_line lines 0) refl number place,
    λ e. ap (λ (x : Left). x.answer) (by_lines w ws ts rs us cs ls (refused number place) e),
  )

  -- the lines before 8, and those after it
  abbrev rules8 : List Line
  rules8 =
      record { number = 5; applies = not (words_ok rs && text_ok rs (length us)); place = 0 }
      ∷ lowest_line 6 0 m (schema_fault rs)
      ∷ lowest_line 6 m (clauses_word rs) (clause_fault rs)
      ∷ lowest_line 6 (m + clauses_word rs) (entries_word rs) (entry_fault rs)
      ∷ lowest_line 7 (m + clauses_word rs) (entries_word rs) (repeated rs us)
      ∷ lowest_line 13 (m + clauses_word rs) (entries_word rs) (not_utf8 rs us)
      ∷ []

  abbrev before8 : List Line
  before8 = record_lines ws ts ++ rules8

  abbrev line8 : Line
  line8 = lowest_line 8 0 m (on_loop m (next R))

  abbrev areas : List Line
  areas = area_lines w (rows_word ws * m) (length cs) (length ls)

  abbrev after8 : List Line
  after8 = lowest_line 9 0 m (chain (next R) chain_steps) ∷ areas

  high8 : (l : Line) → In l after8 → 8 < l.number
  unfolding all
  high8 l i = ltb-true 8 l.number ((all_pass (λ k. ltb 8 k.number) after8).0 refl l i)

  high9 : (l : Line) → In l areas → 9 < l.number
  unfolding all
  high9 l i = ltb-true 9 l.number ((all_pass (λ k. ltb 9 k.number) areas).0 refl l i)

  module _ (none : NoneBefore 8 lines) where
    none8 : NoneOf before8
    none8 = none before8 after8 line8 refl refl

    -- 5 and 6 do not apply
    in_order : (words_ok rs && text_ok rs (length us)) ≡ true
    in_order = not-false (words_ok rs && text_ok rs (length us)) (none8 _ (Memᴰ.append_right (record_lines ws ts) (at_head refl)))

    clear : (number before k : ℕ) (test : ℕ → Bool) → In (lowest_line number before k test) before8 → k ≤ lowest test k
    clear number before k test i = ltb-false (lowest test k) k (none8 (lowest_line number before k test) i)

    at_rule : {l : Line} → In l rules8 → In l before8
    at_rule i = Memᴰ.append_right (record_lines ws ts) i

    laid : RulesLaid rs (form_of rs)
    laid =
        let form : RuleForm = form_of rs in
        let formed : RulesFormed rs form = record { trailer = words_in_order rs us in_order; same_form = refl } in
        rules_laid rs form formed
        (clauses_laid rs form formed (schemas_laid rs form formed (clear 6 0 m (schema_fault rs) (at_rule (in_Tail (at_head refl)))))
        (clear 6 m (clauses_word rs) (clause_fault rs) (at_rule (in_Tail (in_Tail (at_head refl))))))
        (clear 6 (m + clauses_word rs) (entries_word rs) (entry_fault rs) (at_rule (in_Tail (in_Tail (in_Tail (at_head refl))))))

    rules_inside : (s t : ℕ) → In t (next R s) → t < m
    rules_inside s t i = let w = steps_in ((rules_of rs us).clauses s) t i in named_inside rs us (form_of rs) laid s w.0 t w.1 (steps_named w.0 t w.2)

    loop_is : (p : ℕ) → (first_line lines 0 ≡ refused 8 p) ↔ LowestOf (OnLoop (next R)) m p
    loop_is =
        lowest_refused 8 m (on_loop m (next R)) (OnLoop (next R)) (loop_at m (next R)) (loop_first m (next R) rules_inside)
        before8 after8 none8 high8

  module _ (none : NoneBefore 9 lines) where
    none9 : NoneOf (before8 ++ line8 ∷ [])
    none9 = none (before8 ++ line8 ∷ []) areas (lowest_line 9 0 m (chain (next R) chain_steps)) refl refl

    chain_is : (p : ℕ) → (first_line lines 0 ≡ refused 9 p) ↔ LowestOf (Chain (next R) chain_steps) m p
    chain_is =
        lowest_refused 9 m (chain (next R) chain_steps) (Chain (next R) chain_steps) (chain_at m (next R)) (chain_first m (next R))
        (before8 ++ line8 ∷ []) areas none9 high9

  pub total : (left : Left) → left ≡ judge w ws ts rs us cs ls → Total w ws ts rs us cs ls left
  total left e =
      let answered : (number place : ℕ) → (left.answer ≡ refuses number place) ↔ (first_line lines 0 ≡ refused number place)
      = λ number place. (λ f. (answer_refused number place).0 (sym (ap (λ (x : Left). x.answer) e) ∙ f), λ f. ap (λ (x : Left). x.answer) e ∙ (answer_refused number place).1 f) in
      record {
        refused = λ line f. e ∙ by_lines w ws ts rs us cs ls (refused line.number line.place) (first_given lines line 0 f);
        only_refused = λ number place f. given_first lines 0 number place ((answered number place).0 f);
        loop = λ none p. and_then (answered 8 p) (loop_is none p);
        chain = λ none p. and_then (answered 9 p) (chain_is none p);
        text = utf8_is;
      }
