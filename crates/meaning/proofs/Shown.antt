-- The count is the number of settled cells.
--     cells_shown     as many cells show a verdict as pairs are settled
-- Assumes nothing.
use mathlib.Core.Bool.{Bool, true, false, ◌&&◌, ◌||◌, cond, true≢false}
use mathlib.Core.List.Memᴰ.{head as at_head}
use mathlib.Core.List.Memᴰ.{tail as in_Tail}
use mathlib.Core.List.{List, [], ◌∷◌, ◌++◌, map}
use mathlib.Core.Logic.{⊎_elim}
use mathlib.Core.Path.{◌≡◌, refl, sym, ap, ap₂, ◌∙◌}
use Prim.Native.Nat.{ℕ, zero, suc, ◌+◌, ◌*◌, ◌%◌, ◌≤◌, ◌<◌}
use native.Mathlib.Omega.{arith}
use lib.Dec.{eqb, ltb}
use lib.ListN.{length}
use borrow.Author.Tests.{eq-eqb, ne_eqb}
use Rattle.laws.proofs.Tests.{decide, le_or_lt}
use Rattle.sheet.specs.Doc.{Doc}
use Rattle.rulesheet.specs.Ruleset.{Ruleset}
use Rattle.meaning.specs.Lists.{range, concat_map}
use Rattle.meaning.specs.Rules.{Pair, Way, truth}
use Rattle.meaning.specs.Settling.{same_pair, listed, settled, cell, cells, shown}
use Rattle.meaning.specs.Fit.{Fit, Inside}
use Rattle.meaning.specs.Once.{Distinct}
use Rattle.meaning.proofs.Lists.{Every, every_nil, every_cons}
use Rattle.meaning.proofs.Settled.{same_pair_lem, in_listed, listed_in, all_distinct, all_inside}

-- how many of the numbers from a on, k of them, pass a test
unfoldable passing : (ℕ → Bool) → ℕ → ℕ → ℕ
passing t a zero = 0
passing t a (suc k) = cond (t a) 1 0 + passing t (suc a) k

-- the sum over the numbers from a on, k of them
unfoldable total : (ℕ → ℕ) → ℕ → ℕ → ℕ
total f a zero = 0
total f a (suc k) = f a + total f (suc a) k

-- how many of n rows of m pairs pass a test
abbrev among : (Pair → Bool) → ℕ → ℕ → ℕ
among t n m = total (λ j. passing (λ s. t (record { row = j; rule = s })) 0 m) 0 n

-- ---- a test that is one or the other of two, never both

passing_none : (t : ℕ → Bool) (k a : ℕ) → ((i : ℕ) → a ≤ i → i < a + k → t i ≡ false) → passing t a k ≡ 0
unfolding passing
passing_none t zero a f = refl
passing_none t (suc k) a f = rw (f a (omega arith) (omega arith)) (omega (arith, passing_none t k (suc a) (λ i h g. f i (omega arith) (omega arith))))

total_none : (f : ℕ → ℕ) (k a : ℕ) → ((i : ℕ) → a ≤ i → i < a + k → f i ≡ 0) → total f a k ≡ 0
unfolding total
total_none f zero a z = refl
total_none f (suc k) a z = rw (z a (omega arith) (omega arith)) (omega (arith, total_none f k (suc a) (λ i h g. z i (omega arith) (omega arith))))

or_one : (x y : Bool) → (x ≡ true → y ≡ false) → ◌≡◌ {A = ℕ} (cond (x || y) 1 0) (cond x 1 0 + cond y 1 0)
or_one true true f = absurd (true≢false (f refl))
or_one true false f = refl
or_one false true f = refl
or_one false false f = refl

passing_or : (t u : ℕ → Bool) (k a : ℕ) → ((i : ℕ) → t i ≡ true → u i ≡ false) → passing (λ i. t i || u i) a k ≡ passing t a k + passing u a k
unfolding passing
passing_or t u zero a f = refl
passing_or t u (suc k) a f = omega (arith, or_one (t a) (u a) (f a), passing_or t u k (suc a) f)

total_plus : (f g h : ℕ → ℕ) (k a : ℕ) → ((i : ℕ) → f i ≡ g i + h i) → total f a k ≡ total g a k + total h a k
unfolding total
total_plus f g h zero a e = refl
total_plus f g h (suc k) a e = omega (arith, e a, total_plus f g h k (suc a) e)

-- ---- one number

passing_one : (x k a : ℕ) → a ≤ x → x < a + k → passing (λ i. eqb i x) a k ≡ 1
unfolding passing
passing_one x zero a h g = absurd (omega arith)
passing_one x (suc k) a h g =
    ⊎_elim
    (λ (l : x ≤ a). rw (eq-eqb a x (omega arith), passing_none (λ i. eqb i x) k (suc a) (λ i b c. ne_eqb i x (λ e. omega arith))))
    (λ (l : a < x). rw (ne_eqb a x (λ e. omega arith)) (omega (arith, passing_one x k (suc a) (omega arith) (omega arith))))
    (le_or_lt x a)

total_one : (f : ℕ → ℕ) (x k a : ℕ) → a ≤ x → x < a + k → f x ≡ 1 → ((i : ℕ) → (i ≡ x → ⊥) → f i ≡ 0) → total f a k ≡ 1
unfolding total
total_one f x zero a h g e z = absurd (omega arith)
total_one f x (suc k) a h g e z =
    ⊎_elim
    (λ (l : x ≤ a). let q : a ≡ x = omega arith in rw (ap f q ∙ e, total_none f k (suc a) (λ i b c. z i (λ d. omega arith))))
    (λ (l : a < x). rw (z a (λ d. omega arith)) (omega (arith, total_one f x k (suc a) (omega arith) (omega arith) e z)))
    (le_or_lt x a)

-- ---- the pairs of a list

and_true : (f : ℕ → Bool) (k a : ℕ) → passing (λ i. true && f i) a k ≡ passing f a k
unfolding passing
and_true f zero a = refl
and_true f (suc k) a = ap (λ (x : ℕ). cond (f a) 1 0 + x) (and_true f k (suc a))

module _ (n m : ℕ) where
  below : {x k : ℕ} → x < k → x < 0 + k
  below h = omega arith

  one_more : (k : ℕ) → 1 + k ≡ suc k
  one_more k = omega arith

  one_pair : (p : Pair) → Inside n m p → among (λ q. same_pair q p) n m ≡ 1
  unfolding same_pair
  one_pair p i =
      total_one _ p.row n 0 (omega arith) (below i.row_in)
      (rw (eq-eqb p.row p.row refl) (and_true (λ s. eqb s p.rule) m 0 ∙ passing_one p.rule m 0 (omega arith) (below i.rule_in)))
      (λ j d. rw (ne_eqb j p.row d) (passing_none _ m 0 (λ s h g. refl)))

  pairs_among : {l : List Pair} → Every (Inside n m) l → Distinct l → among (λ q. listed q l) n m ≡ length l
  unfolding listed
  pairs_among every_nil d = total_none _ n 0 (λ j h g. passing_none _ m 0 (λ s a b. refl))
  pairs_among (every_cons {x = p} {xs = l} i is) d =
      let apart : (q : Pair) → same_pair q p ≡ true → listed q l ≡ false =
      λ q e. ⊎_elim (λ (h : listed q l ≡ true). absurd (d.0 (rw (same_pair_lem q p e) at (listed_in q l h)))) (λ h. h) (decide (listed q l)) in
      total_plus _ _ _ n 0 (λ j. passing_or _ _ m 0 (λ s. apart (record { row = j; rule = s })))
      ∙ ap₂ (λ x y. x + y) (one_pair p i) (pairs_among is d.1) ∙ one_more (length l)

-- ---- the cells

shown_append : (xs ys : List ℕ) → shown (xs ++ ys) ≡ shown xs + shown ys
unfolding shown
shown_append [] ys = omega arith
shown_append (x ∷ xs) ys = omega (arith, shown_append xs ys)

cell_shown : (b h c : Bool) → ◌≡◌ {A = ℕ} (cond (eqb ((cond b (cond h 1 2) 0 + cond c 4 0) % 4) 0) 0 1) (cond b 1 0)
cell_shown true true true = refl
cell_shown true true false = refl
cell_shown true false true = refl
cell_shown true false false = refl
cell_shown false h true = refl
cell_shown false h false = refl

module _ (D : Doc) (R : Ruleset) (n m : ℕ) (done : List Pair) where
  row_shown : (j k a : ℕ) → shown (map (λ s. cell D R n m done (record { row = j; rule = s })) (range a k)) ≡ passing (λ s. listed (record { row = j; rule = s }) done) a k
  unfolding shown range passing cell
  row_shown j zero a = refl
  row_shown j (suc k) a =
      let own : Pair = record { row = j; rule = a } in
      let up : Pair = record { row = D.owner j; rule = a } in
      ap₂ (λ x y. x + y) (cell_shown (listed own done) (truth D R own).holds (ltb 0 j && listed up done && (truth D R up).marks j)) (row_shown j k (suc a))

  rows_shown : (k a : ℕ) → shown (concat_map (λ j. map (λ s. cell D R n m done (record { row = j; rule = s })) (range 0 m)) (range a k))
      ≡ total (λ j. passing (λ s. listed (record { row = j; rule = s }) done) 0 m) a k
  unfolding range concat_map total shown
  rows_shown zero a = refl
  rows_shown (suc k) a =
      shown_append (map (λ s. cell D R n m done (record { row = a; rule = s })) (range 0 m)) (concat_map (λ j. map (λ s. cell D R n m done (record { row = j; rule = s })) (range 0 m)) (range (suc a) k))
      ∙ ap₂ (λ x y. x + y) (row_shown a m 0) (rows_shown k (suc a))

pub cells_shown : (D : Doc) (R : Ruleset) (n m : ℕ) → Fit D R n m → (w : Way) → shown (cells D R n m w) ≡ length (settled D R w)
unfolding cells
cells_shown D R n m fit w = rows_shown D R n m (settled D R w) n 0 ∙ pairs_among n m (all_inside D R w n m fit) (all_distinct D R w n m fit)
