-- The pairs that a clause applies, as steps picked.
--     named_picked      40: for each entry the child of its name, if there is one; no two children share a name
--     any_lowest        37: a name is one of a member's, by the lowest that has it
--     across_picked     43: schemas on children by place
-- Assumes nothing.
use mathlib.Core.Bool.{Bool, true, false, cond}
use mathlib.Core.List.{List, [], ◌∷◌, map}
use mathlib.Core.Logic.{⊎_elim}
use mathlib.Core.Path.{◌≡◌, refl, sym, ap, ◌∙◌}
use Prim.Native.Nat.{ℕ, zero, suc, ◌+◌, ◌-◌, ◌<◌, ◌≤◌, min}
use native.Mathlib.Omega.{arith}
use lib.Dec.{ltb}
use lib.ListN.{length, get_or}
use borrow.Author.Tests.{lt-ltb, le-ltb}
use Rattle.laws.specs.Lowest.{lowest_from, lowest}
use Rattle.laws.proofs.Tests.{decide}
use Rattle.meaning.specs.Lists.{any, range, keep, concat_map}
use Rattle.meaning.specs.Rules.{Pair, to, across, under}
use Rattle.plan.specs.Folds.{picked}
use Rattle.plan.specs.Plan.{no_member}
use Rattle.plan.proofs.Folds.{picked_first, picked_same}

-- ---- the only row that passes a test

keep_none : (t : ℕ → Bool) (k x : ℕ) → ((i : ℕ) → x ≤ i → i < x + k → t i ≡ false) → keep t (range x k) ≡ []
unfolding keep range
keep_none t zero x none = refl
keep_none t (suc k) x none = rw (none x (omega arith) (omega arith)) (keep_none t k (suc x) (λ i h g. none i (omega arith) (omega arith)))

-- one of them passes if the first that does is one of them
any_from : (t : ℕ → Bool) (x k a : ℕ) → any (map t (range (x + a) k)) ≡ ltb (lowest_from (λ i. t (x + i)) k a) (a + k)
unfolding any range lowest_from
any_from t x zero a = sym (le-ltb a (a + 0) (omega arith))
any_from t x (suc k) a =
    ⊎_elim
    (λ (e : t (x + a) ≡ true). rw (e, lt-ltb a (a + suc k) (omega arith)))
    (λ (e : t (x + a) ≡ false).
    let s : suc (x + a) ≡ x + (a + 1) = omega arith in
    let u : a + suc k ≡ (a + 1) + k = omega arith in
    rw (e, s, u) (any_from t x k (a + 1)))
    (decide (t (x + a)))

pub any_lowest : (t : ℕ → Bool) (x k : ℕ) → any (map t (range x k)) ≡ ltb (lowest (λ i. t (x + i)) k) k
any_lowest t x k =
    let z : x + 0 ≡ x = omega arith in
    let w : 0 + k ≡ k = omega arith in
    rw (z, w) at (any_from t x k 0)

-- no two rows pass
abbrev Alone : (ℕ → Bool) → ℕ → ℕ → Type 0
Alone t x k = (i j : ℕ) → x ≤ i → i < j → j < x + k → t i ≡ true → t j ≡ true → ⊥

at_first : (a k : ℕ) → ltb a (a + suc k) ≡ true
at_first a k = lt-ltb a (a + suc k) (omega arith)

keep_from : (t : ℕ → Bool) (x k a : ℕ) → Alone t (x + a) k
    → keep t (range (x + a) k) ≡ cond (ltb (lowest_from (λ i. t (x + i)) k a) (a + k)) ((x + lowest_from (λ i. t (x + i)) k a) ∷ []) []
unfolding keep range lowest_from
keep_from t x zero a alone = rw (le-ltb a (a + 0) (omega arith))
keep_from t x (suc k) a alone =
    ⊎_elim
    (λ (e : t (x + a) ≡ true).
    rw (e, at_first a k)
    (ap (λ l. (x + a) ∷ l) (keep_none t k (suc (x + a)) (λ i h g. out e i h g))))
    (λ (e : t (x + a) ≡ false).
    let s : suc (x + a) ≡ x + (a + 1) = omega arith in
    let u : a + suc k ≡ (a + 1) + k = omega arith in
    rw (e, s, u) (keep_from t x k (a + 1) (λ i j h g l. alone i j (omega arith) g (omega arith))))
    (decide (t (x + a)))
  where
    out : t (x + a) ≡ true → (i : ℕ) → suc (x + a) ≤ i → i < suc (x + a) + k → t i ≡ false
    out e i h g =
        ⊎_elim (λ (d : t i ≡ true). absurd (alone (x + a) i (omega arith) (omega arith) (omega arith) e d)) (λ (d : t i ≡ false). d) (decide (t i))

pub keep_one : (t : ℕ → Bool) (x k : ℕ) → Alone t x k
    → keep t (range x k) ≡ cond (ltb (lowest (λ i. t (x + i)) k) k) ((x + lowest (λ i. t (x + i)) k) ∷ []) []
keep_one t x k alone =
    let z : x + 0 ≡ x = omega arith in
    let w : 0 + k ≡ k = omega arith in
    rw (z, w) at (keep_from t x k 0 (rw z alone))

-- ---- 40

module _ (p : Pair) (named : List ℕ → ℕ → Bool) (x k : ℕ) (alone : (name : List ℕ) → Alone (named name) x k) where
  abbrev at : List ℕ → ℕ
  at name = lowest (λ i. named name (x + i)) k

  entry_picked : (name : List ℕ) (s : ℕ) → under p s (keep (named name) (range x k)) ≡ cond (ltb (at name) k) (to p (x + at name) s ∷ []) []
  unfolding under
  entry_picked name s = ap (map (λ j. to p j s)) (keep_one (named name) x k (alone name)) ∙ one (ltb (at name) k)
    where
      one : (b : Bool) → map (λ j. to p j s) (cond b ((x + at name) ∷ []) []) ≡ cond b (to p (x + at name) s ∷ []) []
      one true = refl
      one false = refl

  pub named_picked : (es : List (List ℕ × ℕ))
      → concat_map (λ e. under p e.1 (keep (named e.0) (range x k))) es
      ≡ picked (λ i. ltb (at (get_or es i no_member).0) k) (λ i. to p (x + at (get_or es i no_member).0) (get_or es i no_member).1) (length es)
  unfolding concat_map picked
  named_picked [] = refl
  named_picked (e ∷ es) =
      rw (entry_picked e.0 e.1, named_picked es)
      (sym (picked_first (λ i. ltb (at (get_or (e ∷ es) i no_member).0) k) (λ i. to p (x + at (get_or (e ∷ es) i no_member).0) (get_or (e ∷ es) i no_member).1) (length es)))

-- ---- 43

pub across_picked : (p : Pair) (k x : ℕ) (ss : List ℕ) → across p (range x k) ss ≡ picked (λ i. true) (λ i. to p (x + i) (get_or ss i 0)) (min k (length ss))
unfolding range across picked
across_picked p zero x ss = let z : min 0 (length ss) ≡ 0 = omega arith in rw z
across_picked p (suc k) x [] = let z : min (suc k) 0 ≡ 0 = omega arith in rw z
across_picked p (suc k) x (s ∷ ss) =
    let z : min (suc k) (suc (length ss)) ≡ suc (min k (length ss)) = omega arith in
    let w : x + 0 ≡ x = omega arith in
    rw (z, picked_first (λ i. true) (λ i. to p (x + i) (get_or (s ∷ ss) i 0)) (min k (length ss)), w)
    (ap (λ l. to p x s ∷ l)
    (across_picked p k (suc x) ss
    ∙ picked_same (λ i. true) (λ i. true) (λ i. to p (suc x + i) (get_or ss i 0)) (λ i. to p (x + suc i) (get_or ss i 0)) (min k (length ss)) (λ i h. refl)
    (λ i h. let e : suc x + i ≡ x + suc i = omega arith in rw e)))
