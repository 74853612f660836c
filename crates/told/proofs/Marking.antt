-- What clauses mark that mark no member but those that they name.
--     member_elem     a member is among the members
--     named_marks     of a member such a clause marks whether it names it
-- Assumes nothing.
use mathlib.Core.Bool.{Bool, true, false, ◌&&◌, ◌||◌, cond, and-false, or-true}
use mathlib.Core.List.{List, [], ◌∷◌, map, map-append}
use mathlib.Core.Logic.{⊎_elim}
use mathlib.Core.Path.{◌≡◌, refl, sym, ap, subst, ◌∙◌}
use Prim.Native.Nat.{ℕ, zero, suc, ◌+◌, ◌<◌}
use native.Mathlib.Omega.{arith}
use lib.Dec.{eqb}
use borrow.Author.Tests.{eqb-true, eq-eqb}
use Rattle.laws.proofs.Tests.{decide}
use Rattle.sheet.specs.Doc.{Doc, first_child}
use Rattle.rulesheet.specs.Ruleset.{Clause, asserts, in_place, if_then_else, dependent_schemas, contains, takes, properties, additional_properties, prefix_items, items, unevaluated_properties, unevaluated_items, Ruleset}
use Rattle.few.specs.Asked.{applies_any}
use Rattle.meaning.specs.Lists.{any, elem, keep, concat_map, range}
use Rattle.meaning.specs.Rules.{Pair, Marks, nothing, these, Result, answer, Way, names_of, to, under, called, members_of, taken, clause}
use Rattle.meaning.specs.Fit.{Fit}
use Rattle.meaning.proofs.Judgements.{answer_each}
use Rattle.plan.specs.Plan.{member_count, own, child_row}
use Rattle.plan.proofs.Folds.{elem_append}
use Rattle.plan.proofs.Children.{members_are}
use Rattle.looking.proofs.Having.{never_not}
use Rattle.told.specs.Read.{names_any, marks_named, named_by}

-- ---- what stands in a list

elem_range : (a n k : ℕ) → k < n → elem (a + k) (range a n) ≡ true
unfolding elem range
elem_range a zero k h = absurd (omega arith)
elem_range a (suc n) zero h = let z : a + 0 ≡ a = omega arith in ap (λ (b : Bool). b || elem (a + 0) (range (suc a) n)) (eq-eqb (a + 0) a z)
elem_range a (suc n) (suc k) h =
    let z : suc a + k ≡ a + suc k = omega arith in
    let later : elem (a + suc k) (range (suc a) n) ≡ true = subst (λ (x : ℕ). elem x (range (suc a) n) ≡ true) z (elem_range (suc a) n k (omega arith)) in
    rw later (or-true (eqb (a + suc k) a))

-- those of a list that pass a test
keep_one : (t : ℕ → Bool) (k x : ℕ) (l m : List ℕ) → elem k l ≡ (elem k m && t k) → elem k (cond (t x) (x ∷ l) l) ≡ ((eqb k x || elem k m) && t k)
unfolding elem
keep_one t k x l m rest =
    ⊎_elim
    (λ (e : eqb k x ≡ true). here (t k) refl (ap t (sym (eqb-true k x e))) e)
    (λ (e : eqb k x ≡ false). other (t x) refl e)
    (decide (eqb k x))
  where
    here : (b : Bool) → t k ≡ b → t x ≡ t k → eqb k x ≡ true → elem k (cond (t x) (x ∷ l) l) ≡ ((eqb k x || elem k m) && t k)
    here true h s e = rw (s, h, e)
    here false h s e = rw (s, h, e) (rest ∙ rw h (and-false (elem k m)))

    other : (b : Bool) → t x ≡ b → eqb k x ≡ false → elem k (cond (t x) (x ∷ l) l) ≡ ((eqb k x || elem k m) && t k)
    other true h e = rw (h, e) rest
    other false h e = rw (h, e) rest

elem_keep : (t : ℕ → Bool) (k : ℕ) (ms : List ℕ) → elem k (keep t ms) ≡ (elem k ms && t k)
unfolding elem keep
elem_keep t k [] = refl
elem_keep t k (x ∷ ms) = keep_one t k x (keep t ms) ms (elem_keep t k ms)

-- ---- what such a clause marks

rows_under : (p : Pair) (s : ℕ) (ks : List ℕ) → map (λ (q : Pair). q.row) (under p s ks) ≡ ks
unfolding under to
rows_under p s [] = refl
rows_under p s (k ∷ ks) = ap (λ (l : List ℕ). k ∷ l) (rows_under p s ks)

module _ (D : Doc) (p : Pair) (k : ℕ) (member : elem k (members_of D p.row) ≡ true) where
  -- the members that entries name
  entries_mark : (es : List (List ℕ × ℕ)) → these (map (λ (q : Pair). q.row) (concat_map (λ e. under p e.1 (keep (called D e.0) (members_of D p.row))) es)) k
      ≡ named_by D (map (λ e. e.0) es) k
  unfolding these elem any concat_map
  entries_mark [] = refl
  entries_mark (e ∷ es) =
      let ks = keep (called D e.0) (members_of D p.row) in
      let rest = concat_map (λ x. under p x.1 (keep (called D x.0) (members_of D p.row))) es in
      ap (elem k) (map-append (λ (q : Pair). q.row) (under p e.1 ks) rest)
      ∙ elem_append k (map (λ (q : Pair). q.row) (under p e.1 ks)) (map (λ (q : Pair). q.row) rest)
      ∙ rw (rows_under p e.1 ks, elem_keep (called D e.0) k (members_of D p.row), member, entries_mark es)

  pub named_marks : (sub : Pair → Result) (w : Way) (before : List Clause) (κ : Marks) (c : Clause) → marks_named c ≡ true → (answer sub (clause D w p before κ c)).marks k ≡ named_by D (names_of c) k
  unfolding marks_named applies_any names_any clause answer nothing names_of any taken
  named_marks sub w before κ (asserts t) e = refl
  named_marks sub w before κ (in_place m ss) e = absurd (never_not (sym e))
  named_marks sub w before κ (if_then_else a b c) e = absurd (never_not (sym e))
  named_marks sub w before κ (dependent_schemas es) e = absurd (never_not (sym e))
  named_marks sub w before κ (contains s least most) e = absurd (never_not (sym e))
  named_marks sub w before κ (takes (properties es)) e = ap (λ (r : Result). r.marks k) (answer_each sub (taken D p before κ (properties es)) _) ∙ entries_mark es
  named_marks sub w before κ (takes (additional_properties s)) e = absurd (never_not (sym e))
  named_marks sub w before κ (takes (prefix_items ss)) e = absurd (never_not (sym e))
  named_marks sub w before κ (takes (items s)) e = absurd (never_not (sym e))
  named_marks sub w before κ (takes (unevaluated_properties s)) e = absurd (never_not (sym e))
  named_marks sub w before κ (takes (unevaluated_items s)) e = absurd (never_not (sym e))

-- child i of a row that has members is among them
pub member_elem : (D : Doc) (R : Ruleset) (n m : ℕ) (fit : Fit D R n m) (p : Pair) (row_in : p.row < n) (i : ℕ) → i < member_count (own D p) → elem (child_row D p i) (members_of D p.row) ≡ true
member_elem D R n m fit p row_in i h = rw (members_are D R n m fit p row_in) (elem_range (first_child (own D p)) (member_count (own D p)) i h)
