-- The steps of a clause that is cut.
--     asks_on, missed, goes_on   a step is still taken, by what is carried
--     upto_picked                the pairs up to the first that fails, as steps picked
-- Assumes nothing.
use mathlib.Core.Bool.{Bool, true, false, not, ◌&&◌, cond}
use mathlib.Core.List.{List, [], ◌∷◌, ◌++◌, map}
use mathlib.Core.Logic.{◌⊎◌, inl, inr}
use mathlib.Core.Path.{◌≡◌, refl, sym, ap, ◌∙◌}
use Prim.Native.Nat.{ℕ, zero, suc, ◌+◌}
use native.Mathlib.Omega.{arith}
use lib.Dec.{eqb}
use lib.ListN.{length, get_or}
use borrow.Author.Tests.{eq-eqb, ne_eqb}
use Rattle.meaning.specs.Rules.{Pair, Result, Way, whole, cut, stops}
use Rattle.meaning.proofs.Judgements.{up_to}
use Rattle.plan.specs.Folds.{picked, tally_by}
use Rattle.plan.specs.Plan.{moved, stops_by}
use Rattle.plan.proofs.Folds.{and_assoc, picked_first, picked_same, picked_none, eq_or}

module _ (sub : Pair → Result) where
  -- the pairs before step i hold
  unfoldable held_by : (ℕ → Pair) → ℕ → Bool
  held_by aim zero = true
  held_by aim (suc i) = held_by aim i && (sub (aim i)).holds

  held_first : (aim : ℕ → Pair) (i : ℕ) → held_by aim (suc i) ≡ ((sub (aim 0)).holds && held_by (λ k. aim (suc k)) i)
  unfolding held_by
  held_first aim zero = and_true (sub (aim 0)).holds
    where
      and_true : (b : Bool) → b ≡ (b && true)
      and_true true = refl
      and_true false = refl
  held_first aim (suc i) = ap (λ b. b && (sub (aim (suc i))).holds) (held_first aim i) ∙ and_assoc (sub (aim 0)).holds (held_by (λ k. aim (suc k)) i) (sub (aim (suc i))).holds

  unfoldable still_by : Way → (ℕ → Pair) → ℕ → Bool
  still_by whole aim i = true
  still_by cut aim i = held_by aim i

  first_taken : (v : Way) (aim : ℕ → Pair) → still_by v aim 0 ≡ true
  unfolding still_by held_by
  first_taken whole aim = refl
  first_taken cut aim = refl

  -- after a first pair that holds, or fails
  rest : (v : Way) (aim : ℕ → Pair) (n : ℕ) (b : Bool) → (sub (aim 0)).holds ≡ b
      → cond (stops v (sub (aim 0))) [] (picked (still_by v (λ k. aim (suc k))) (λ k. aim (suc k)) n) ≡ picked (λ i. still_by v aim (suc i)) (λ k. aim (suc k)) n
  unfolding still_by stops
  rest whole aim n b e = refl
  rest cut aim n true e =
      rw e (picked_same _ _ (λ k. aim (suc k)) (λ k. aim (suc k)) n (λ i h. sym (held_first aim i ∙ ap (λ c. c && held_by (λ k. aim (suc k)) i) e)) (λ i h. refl))
  rest cut aim n false e =
      rw e (sym (picked_none _ (λ k. aim (suc k)) n (λ i h. held_first aim i ∙ ap (λ c. c && held_by (λ k. aim (suc k)) i) e)))

  still_picked : {A : Type 0} (v : Way) (f : A → Pair) (xs : List A) (d : A) → up_to sub v (map f xs) ≡ picked (still_by v (λ i. f (get_or xs i d))) (λ i. f (get_or xs i d)) (length xs)
  unfolding up_to picked
  still_picked v f [] d = refl
  still_picked v f (x ∷ xs) d =
      let aim : ℕ → Pair = λ i. f (get_or (x ∷ xs) i d) in
      ap (λ l. f x ∷ cond (stops v (sub (f x))) [] l) (still_picked v f xs d)
      ∙ ap (λ l. f x ∷ l) (rest v aim (length xs) (sub (f x)).holds refl)
      ∙ sym (picked_first (still_by v aim) aim (length xs) ∙ ap (λ b. cond b (f x ∷ []) [] ++ picked (λ i. still_by v aim (suc i)) (λ k. aim (suc k)) (length xs)) (first_taken v aim))

  -- ---- by what is carried: how many pairs failed

  -- step i of a clause that applies all its steps and counts those that fail
  abbrev pub asks_on : Way → ℕ → ℕ → Bool
  asks_on v i t = not (stops_by v t) && true

  abbrev pub missed : Way → (ℕ → Pair) → ℕ → ℕ
  missed v aim n = tally_by sub (asks_on v) aim (moved false false) n

  abbrev pub goes_on : Way → (ℕ → Pair) → ℕ → Bool
  goes_on v aim i = asks_on v i (missed v aim i)

  none_missed : (aim : ℕ → Pair) (i : ℕ) → eqb (missed cut aim i) 0 ≡ held_by aim i
  unfolding held_by tally_by moved stops_by
  none_missed aim zero = refl
  none_missed aim (suc i) = by (missed cut aim i) (sub (aim i)).holds (eq_or (missed cut aim i) 0) ∙ ap (λ b. b && (sub (aim i)).holds) (none_missed aim i)
    where
      by : (t : ℕ) (h : Bool) → (t ≡ 0) ⊎ (t ≡ 0 → ⊥) → eqb (cond (not (not (eqb t 0)) && true) (cond h t (t + 1)) t) 0 ≡ (eqb t 0 && h)
      by t true (inl z) = rw (eq-eqb t 0 z) (eq-eqb t 0 z)
      by t false (inl z) = rw (eq-eqb t 0 z) (ne_eqb (t + 1) 0 (λ e. omega arith))
      by t h (inr f) = rw (ne_eqb t 0 f) (ne_eqb t 0 f)

  still_on : (v : Way) (aim : ℕ → Pair) (i : ℕ) → still_by v aim i ≡ goes_on v aim i
  unfolding still_by stops_by
  still_on whole aim i = refl
  still_on cut aim i = sym (twice (eqb (missed cut aim i) 0) ∙ none_missed aim i)
    where
      twice : (b : Bool) → (not (not b) && true) ≡ b
      twice true = refl
      twice false = refl

  pub upto_picked : {A : Type 0} (v : Way) (f : A → Pair) (xs : List A) (d : A) → up_to sub v (map f xs) ≡ picked (goes_on v (λ i. f (get_or xs i d))) (λ i. f (get_or xs i d)) (length xs)
  upto_picked v f xs d = still_picked v f xs d ∙ picked_same _ _ _ _ (length xs) (λ i h. still_on v (λ k. f (get_or xs k d)) i) (λ i h. refl)
