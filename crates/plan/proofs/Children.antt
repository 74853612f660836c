-- The children that a clause takes, as steps picked: for a record and rules that fit, and a pair of a row of the record.
--     picked_in                    a step that goes is picked
--     members_are, elements_are, member_in, element_in     the children of a row
--     child_apart, child_by        a child is not its owner; a step that leaves the row leads to one
--     goes_in, taken_picked        those that a clause takes
-- Assumes nothing.
use mathlib.Core.Bool.{Bool, true, false, not, cond}
use mathlib.Core.List.Memᴰ
use mathlib.Core.List.Memᴰ.{head as at_head}
use mathlib.Core.List.{List, [], ◌∷◌, Memᴰ as In}
use mathlib.Core.Logic.{⊎_elim}
use mathlib.Core.Path.{◌≡◌, refl, sym, ◌∙◌}
use Prim.Native.Nat.{ℕ, zero, suc, ◌+◌, ◌-◌, ◌<◌, ◌≤◌}
use native.Mathlib.Nat.{eq-or-lt_of_le}
use native.Mathlib.Omega.{arith}
use lib.Dec.{eqb, ltb}
use lib.ListN.{length, get_or}
use borrow.Author.Tests.{eqb-true, le-ltb}
use Rattle.text.proofs.Bytes.{same_eq}
use Rattle.sheet.specs.Doc.{Value, null, bool, number, string, array, object, Doc, first_child, Child}
use Rattle.rulesheet.specs.Ruleset.{Reach, properties, additional_properties, prefix_items, items}
use Rattle.rulesheet.specs.Ruleset.{unevaluated_properties, unevaluated_items, Clause, takes, Ruleset}
use Rattle.meaning.specs.Lists.{range}
use Rattle.meaning.specs.Tests.{members?, elements?, rows}
use Rattle.meaning.specs.Rules.{Pair, Marks, nothing}
use Rattle.meaning.specs.Rules.{to, under, called, members_of, elements_of, taken, clause}
use Rattle.meaning.specs.Fit.{Fit}
use Rattle.meaning.proofs.Steps.{Step, stays, descends}
use Rattle.plan.specs.Folds.{picked}
use Rattle.plan.specs.Plan.{member_count, element_count, no_member, own, child_row, child_named, prefixed, unnamed, steps_in, aim_in, go_in}
use Rattle.plan.proofs.Folds.{picked_same, picked_none, kept_picked, run_picked}
use Rattle.meaning.proofs.Members.{drop_range}
use Rattle.plan.proofs.Picks.{named_picked, across_picked}

-- ---- what is picked

pub picked_in : (go : ℕ → Bool) (aim : ℕ → Pair) (n i : ℕ) → i < n → go i ≡ true → In (aim i) (picked go aim n)
unfolding picked
picked_in go aim zero i h g = absurd (nothing_below h)
  where
    nothing_below : i < 0 → ⊥
    nothing_below l = omega arith
picked_in go aim (suc n) i h g =
    ⊎_elim (λ (e : i ≡ n). rw (← e, g) (Memᴰ.append_right (picked go aim i) (at_head refl)))
    (λ (l : i < n). Memᴰ.append_left (cond (go n) (aim n ∷ []) []) (picked_in go aim n i l g))
    (eq-or-lt_of_le (less_or_same h))
  where
    less_or_same : i < suc n → i ≤ n
    less_or_same l = omega arith

-- ---- the children of a row, by its value

members_range : (v : Value) → rows (members? v) ≡ range (first_child v) (member_count v)
unfolding rows members? range
members_range null = refl
members_range (bool b) = refl
members_range (number z) = refl
members_range (string bytes) = refl
members_range (array first k) = refl
members_range (object first k) = refl

elements_range : (v : Value) → rows (elements? v) ≡ range (first_child v) (element_count v)
unfolding rows elements? range
elements_range null = refl
elements_range (bool b) = refl
elements_range (number z) = refl
elements_range (string bytes) = refl
elements_range (array first k) = refl
elements_range (object first k) = refl

module _ (D : Doc) (R : Ruleset) (n m : ℕ) (fit : Fit D R n m) (p : Pair) (row_in : p.row < n) where
  pub members_are : members_of D p.row ≡ range (first_child (own D p)) (member_count (own D p))
  unfolding members_of
  members_are = members_range (own D p)

  pub elements_are : elements_of D p.row ≡ range (first_child (own D p)) (element_count (own D p))
  unfolding elements_of
  elements_are = elements_range (own D p)

  -- no two members have one name
  alone_in : (v : Value) → own D p ≡ v → (name : List ℕ) (i j : ℕ) → first_child v ≤ i → i < j → j < first_child v + member_count v
      → called D name i ≡ true → called D name j ≡ true → ⊥
  unfolding called
  alone_in null e name i j a b c s t = omega arith
  alone_in (bool x) e name i j a b c s t = omega arith
  alone_in (number z) e name i j a b c s t = omega arith
  alone_in (string bytes) e name i j a b c s t = omega arith
  alone_in (array first k) e name i j a b c s t = omega arith
  alone_in (object first k) e name i j a b c s t =
      fit.rows.names_differ p.row i j row_in (rw e)
      (record { after = rw e a; within = rw e (omega arith) })
      (record { after = rw e (omega arith); within = rw e c })
      b
      (same_eq (D.name i) name s ∙ sym (same_eq (D.name j) name t))

  alone : (name : List ℕ) (i j : ℕ) → first_child (own D p) ≤ i → i < j → j < first_child (own D p) + member_count (own D p)
      → called D name i ≡ true → called D name j ≡ true → ⊥
  alone = alone_in (own D p) refl

  -- a member and an element are children
  pub member_in : (v : Value) → own D p ≡ v → (i : ℕ) → i < member_count v → Child D p.row (first_child v + i)
  member_in null e i h = absurd (omega arith)
  member_in (bool b) e i h = absurd (omega arith)
  member_in (number z) e i h = absurd (omega arith)
  member_in (string bytes) e i h = absurd (omega arith)
  member_in (array first k) e i h = absurd (omega arith)
  member_in (object first k) e i h = record { after = rw e (omega arith); within = rw e (omega arith) }

  pub element_in : (v : Value) → own D p ≡ v → (i : ℕ) → i < element_count v → Child D p.row (first_child v + i)
  element_in null e i h = absurd (omega arith)
  element_in (bool b) e i h = absurd (omega arith)
  element_in (number z) e i h = absurd (omega arith)
  element_in (string bytes) e i h = absurd (omega arith)
  element_in (array first k) e i h = record { after = rw e (omega arith); within = rw e (omega arith) }
  element_in (object first k) e i h = absurd (omega arith)

  -- no child is its own owner
  pub child_apart : (k : ℕ) → Child D p.row k → k ≡ p.row → ⊥
  child_apart k c e = omega (arith, fit.rows.child_after p.row k row_in c)

  -- a step that leaves the row leads to a child
  pub child_by : (q : Pair) → Step D R p q → (q.row ≡ p.row → ⊥) → Child D p.row q.row
  child_by q (stays c i t e) apart = absurd (apart e)
  child_by q (descends c i t k) apart = k

  module _ (before : List Clause) (κ : Marks) where
    -- ---- the pairs picked

    abbrev pub goes_in : Reach → ℕ → Bool
    goes_in c i = go_in D p before c i (κ (aim_in D p before c i).row)

    pub taken_picked : (c : Reach) → taken D p before κ c ≡ picked (goes_in c) (aim_in D p before c) (steps_in D p before c)
    unfolding taken steps_in aim_in go_in child_named to under unnamed picked
    taken_picked (properties es) =
        rw members_are
        (named_picked p (called D) (first_child (own D p)) (member_count (own D p)) alone es ∙ some (eqb (member_count (own D p)) 0) refl)
      where
        go : ℕ → Bool
        go i = ltb (child_named D p (get_or es i no_member).0) (member_count (own D p))

        aim : ℕ → Pair
        aim i = to p (child_row D p (child_named D p (get_or es i no_member).0)) (get_or es i no_member).1

        some : (b : Bool) → eqb (member_count (own D p)) 0 ≡ b → picked go aim (length es) ≡ picked go aim (cond b 0 (length es))
        some true e = picked_none go aim (length es) (λ i h. let z = eqb-true (member_count (own D p)) 0 e in le-ltb (child_named D p (get_or es i no_member).0) (member_count (own D p)) (omega arith))
        some false e = refl
    taken_picked (additional_properties s) = rw members_are (kept_picked (λ k. to p k s) (unnamed D p before) (member_count (own D p)) (first_child (own D p)))
    taken_picked (prefix_items ss) = rw elements_are (across_picked p (element_count (own D p)) (first_child (own D p)) ss)
    taken_picked (items s) =
        rw (elements_are, drop_range (prefixed D p before) (first_child (own D p)) (element_count (own D p)))
        (run_picked (λ k. to p k s) (element_count (own D p) - prefixed D p before) (first_child (own D p) + prefixed D p before)
        ∙ picked_same (λ i. true) (λ i. true) _ _ (element_count (own D p) - prefixed D p before) (λ i h. refl)
        (λ i h. let e : (first_child (own D p) + prefixed D p before) + i ≡ first_child (own D p) + (prefixed D p before + i) = omega arith in rw e))
    taken_picked (unevaluated_properties s) = rw members_are (kept_picked (λ k. to p k s) (λ k. not (κ k)) (member_count (own D p)) (first_child (own D p)))
    taken_picked (unevaluated_items s) = rw elements_are (kept_picked (λ k. to p k s) (λ k. not (κ k)) (element_count (own D p)) (first_child (own D p)))
