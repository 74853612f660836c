-- A condition and its two branches as three steps (36).
--     carried_if, goes_if   what is carried to step i, and whether it goes
--     if_picked             the condition is applied, and the branch that it chooses
--     if_ends               that branch's verdict, by what is carried in the end
--     if_marks              the marks of both
-- Assumes nothing.
use mathlib.Core.Bool.{Bool, true, false, not, ◌||◌, cond}
use mathlib.Core.List.{[], ◌∷◌}
use mathlib.Core.Path.{◌≡◌, refl, sym, ◌∙◌}
use Prim.Native.Nat.{ℕ}
use lib.Dec.{eqb, ltb}
use borrow.Author.Tests.{eq-eqb}
use Rattle.meaning.specs.Rules.{Pair, Marks, Result}
use Rattle.plan.specs.Folds.{picked, tally_by, gives, marks_by}
use Rattle.plan.specs.Plan.{moved, branch_goes}
use Rattle.plan.proofs.Folds.{three_picked}

module _ (sub : Pair → Result) (aim : ℕ → Pair) where
  abbrev pub carried_if : ℕ → ℕ
  carried_if n = tally_by sub branch_goes aim (moved false true) n

  abbrev pub goes_if : ℕ → Bool
  goes_if i = branch_goes i (carried_if i)

  abbrev verdict : ℕ → Bool
  verdict x = (sub (aim x)).holds

  first_goes : goes_if 0 ≡ true
  unfolding branch_goes
  first_goes = refl

  then_goes : goes_if 1 ≡ verdict 0
  unfolding branch_goes tally_by moved
  then_goes = by (verdict 0)
    where
      by : (h : Bool) → eqb (cond h 0 1) 0 ≡ h
      by true = refl
      by false = refl

  else_goes : goes_if 2 ≡ not (verdict 0)
  unfolding branch_goes tally_by moved
  else_goes = by (verdict 0) (verdict 1)
    where
      by : (h x : Bool) → eqb (cond (eqb (cond h 0 1) 0) (cond x (cond h 0 1) 2) (cond h 0 1)) 1 ≡ not h
      by true true = refl
      by true false = refl
      by false x = refl

  pub if_picked : picked goes_if aim 3 ≡ aim 0 ∷ aim (cond (verdict 0) 1 2) ∷ []
  if_picked = three_picked goes_if aim (verdict 0) first_goes then_goes else_goes

  pub if_ends : ltb (carried_if 3) 2 ≡ verdict (cond (verdict 0) 1 2)
  unfolding branch_goes tally_by moved
  if_ends = by (verdict 0) (verdict 1) (verdict 2) ∙ sym (pick (verdict 0))
    where
      pick : (h : Bool) → verdict (cond h 1 2) ≡ cond h (verdict 1) (verdict 2)
      pick true = refl
      pick false = refl

      second : Bool → Bool → ℕ
      second h x = cond (eqb (cond h 0 1) 0) (cond x (cond h 0 1) 2) (cond h 0 1)

      by : (h x y : Bool) → ltb (cond (eqb (second h x) 1) (cond y (second h x) 2) (second h x)) 2 ≡ cond h x y
      by true true true = refl
      by true true false = refl
      by true false true = refl
      by true false false = refl
      by false x true = refl
      by false x false = refl

  -- of three steps on the row itself, where the condition holds or not
  marks_by_lem : (p : Pair) (κ : Marks) (k : ℕ) (h : Bool) (go : ℕ → Bool) → ((x : ℕ) → (aim x).row ≡ p.row) → go 0 ≡ true → go 1 ≡ h → go 2 ≡ not h
      → (κ k || ((sub (aim 0)).marks k || (sub (aim (cond h 1 2))).marks k)) ≡ marks_by sub p true go aim κ 3 k
  unfolding marks_by gives
  marks_by_lem p κ k true go row a b c =
      rw (a, b, c, eq-eqb (aim 0).row p.row (row 0), eq-eqb (aim 1).row p.row (row 1)) (nothing_last (κ k) ((sub (aim 0)).marks k) ((sub (aim 1)).marks k))
    where
      nothing_last : (x y z : Bool) → (x || (y || z)) ≡ (((x || y) || z) || false)
      nothing_last true y z = refl
      nothing_last false true z = refl
      nothing_last false false true = refl
      nothing_last false false false = refl
  marks_by_lem p κ k false go row a b c =
      rw (a, b, c, eq-eqb (aim 0).row p.row (row 0), eq-eqb (aim 2).row p.row (row 2)) (nothing_between (κ k) ((sub (aim 0)).marks k) ((sub (aim 2)).marks k))
    where
      nothing_between : (x y z : Bool) → (x || (y || z)) ≡ (((x || y) || false) || z)
      nothing_between true y z = refl
      nothing_between false true z = refl
      nothing_between false false z = refl

  pub if_marks : (p : Pair) (κ : Marks) (k : ℕ) → ((x : ℕ) → (aim x).row ≡ p.row)
      → (κ k || ((sub (aim 0)).marks k || (sub (aim (cond (verdict 0) 1 2))).marks k)) ≡ marks_by sub p true goes_if aim κ 3 k
  if_marks p κ k row = marks_by_lem p κ k (verdict 0) goes_if row first_goes then_goes else_goes
