-- What stands in a list that the rules make.
--     in_range, range_length        the numbers from a on
--     in_keep                       those that pass a test
--     in_concat                     of lists, one for each member
--     drop_range                    what stands after the first of a range
--     concat_append                 of the members of two lists
--     all_is, any_is                of tests: all hold, one holds
--     all_pass, one_passes          the same of a test of each member
-- Assumes nothing.
use mathlib.Core.Bool.{Bool, true, false, ◌&&◌, ◌||◌, cond, true≢false, or-true}
use mathlib.Core.List.Memᴰ.{head as at_head}
use mathlib.Core.List.Memᴰ.{tail as in_Tail}
use mathlib.Core.List.{List, [], ◌∷◌, ◌++◌, map, Memᴰ as In}
use mathlib.Core.List.Memᴰ
use mathlib.Core.List.{append_assoc}
use mathlib.Core.Logic.{◌↔◌, ⊎_elim}
use mathlib.Core.Path.{◌≡◌, refl, sym, ap, ◌∙◌, subst}
use Prim.Native.Nat.{ℕ, zero, suc, ◌+◌, ◌-◌, ◌≤◌, ◌<◌}
use native.Mathlib.Nat.{eq-or-lt_of_le}
use native.Mathlib.Omega.{arith}
use lib.ListN.{length, drop}
use Rattle.laws.proofs.Tests.{both, left, right, either}
use Rattle.meaning.specs.Lists.{all, any, range, keep, concat_map}
use Rattle.meaning.specs.Keywords.{Within}

-- ---- the numbers from a on

pub range_length : (a k : ℕ) → length (range a k) ≡ k
unfolding range
range_length a zero = refl
range_length a (suc k) = ap suc (range_length (suc a) k)

range_in : (a n k : ℕ) → In k (range a n) → Within a n k
unfolding range
range_in a zero k i = elim i [ ]
range_in a (suc n) k i =
    ⊎_elim (λ (e : k ≡ a). (omega arith, omega arith)) (λ j. let w = range_in (suc a) n k j in (omega (arith, w.0), omega (arith, w.1))) (Memᴰ.cases_cons i)

in_range_from : (a n k : ℕ) → a ≤ k → k < a + n → In k (range a n)
unfolding range
in_range_from a zero k h g = absurd (none h g)
  where
    none : a ≤ k → k < a + zero → ⊥
    none h g = omega arith
in_range_from a (suc n) k h g =
    ⊎_elim (λ (e : a ≡ k). at_head (sym e)) (λ (l : a < k). in_Tail (in_range_from (suc a) n k l (omega arith))) (eq-or-lt_of_le h)

pub in_range : (a n k : ℕ) → In k (range a n) ↔ Within a n k
in_range a n k = (range_in a n k, λ w. in_range_from a n k w.0 w.1)

pub drop_range : (d x n : ℕ) → drop d (range x n) ≡ range (x + d) (n - d)
unfolding range
drop_range zero x n = let a : x + 0 ≡ x = omega arith in let b : n - 0 ≡ n = omega arith in rw (a, b)
drop_range (suc d) x zero = let b : 0 - suc d ≡ 0 = omega arith in rw b
drop_range (suc d) x (suc n) =
    let a : x + suc d ≡ suc x + d = omega arith in
    let b : suc n - suc d ≡ n - d = omega arith in
    rw (a, b) (drop_range d (suc x) n)

-- ---- those that pass a test

keep_step : (t : ℕ → Bool) (x y : ℕ) (ys zs : List ℕ) (b : Bool) → t y ≡ b → (In x zs → In x ys × (t x ≡ true)) → In x (cond b (y ∷ zs) zs) → In x (y ∷ ys) × (t x ≡ true)
keep_step t x y ys zs true e rest i = ⊎_elim (λ (s : x ≡ y). (at_head s, ap t s ∙ e)) (λ j. (in_Tail (rest j).0, (rest j).1)) (Memᴰ.cases_cons i)
keep_step t x y ys zs false e rest i = (in_Tail (rest i).0, (rest i).1)

keep_in : (t : ℕ → Bool) (x : ℕ) (xs : List ℕ) → In x (keep t xs) → In x xs × (t x ≡ true)
unfolding keep
keep_in t x [] i = elim i [ ]
keep_in t x (y ∷ ys) i = keep_step t x y ys (keep t ys) (t y) refl (λ j. keep_in t x ys j) i

kept_step : (t : ℕ → Bool) (x y : ℕ) (ys zs : List ℕ) (b : Bool) → t y ≡ b → t x ≡ true → (In x ys → In x zs) → In x (y ∷ ys) → In x (cond b (y ∷ zs) zs)
kept_step t x y ys zs true e h rest i = ⊎_elim (λ (s : x ≡ y). at_head s) (λ j. in_Tail (rest j)) (Memᴰ.cases_cons i)
kept_step t x y ys zs false e h rest i = ⊎_elim (λ (s : x ≡ y). absurd (true≢false (sym h ∙ ap t s ∙ e))) rest (Memᴰ.cases_cons i)

in_kept : (t : ℕ → Bool) (x : ℕ) (xs : List ℕ) → In x xs → t x ≡ true → In x (keep t xs)
unfolding keep
in_kept t x [] i e = elim i [ ]
in_kept t x (y ∷ ys) i e = kept_step t x y ys (keep t ys) (t y) refl e (λ j. in_kept t x ys j e) i

pub in_keep : (t : ℕ → Bool) (x : ℕ) (xs : List ℕ) → In x (keep t xs) ↔ (In x xs × (t x ≡ true))
in_keep t x xs = (keep_in t x xs, λ h. in_kept t x xs h.0 h.1)

-- ---- lists put together

concat_in : {A B : Type 0} (f : A → List B) (y : B) (xs : List A) → In y (concat_map f xs) → (x : A) × In x xs × In y (f x)
unfolding concat_map
concat_in f y [] i = elim i [ ]
concat_in f y (x ∷ xs) i =
    ⊎_elim (λ j. (x, at_head refl, j)) (λ j. let r = concat_in f y xs j in (r.0, in_Tail r.1, r.2)) (Memᴰ.append_cases (f x) i)

in_concated : {A B : Type 0} (f : A → List B) (y : B) (x : A) (xs : List A) → In x xs → In y (f x) → In y (concat_map f xs)
unfolding concat_map
in_concated f y x [] i j = elim i [ ]
in_concated f y x (z ∷ zs) i j =
    ⊎_elim (λ (e : x ≡ z). Memᴰ.append_left (concat_map f zs) (subst (λ w. In y (f w)) e j)) (λ k. Memᴰ.append_right (f z) (in_concated f y x zs k j)) (Memᴰ.cases_cons i)

pub in_concat : {A B : Type 0} (f : A → List B) (y : B) (xs : List A) → In y (concat_map f xs) ↔ ((x : A) × In x xs × In y (f x))
in_concat f y xs = (concat_in f y xs, λ h. in_concated f y h.0 xs h.1 h.2)

pub concat_append : {A B : Type 0} (f : A → List B) (xs ys : List A) → concat_map f (xs ++ ys) ≡ concat_map f xs ++ concat_map f ys
unfolding concat_map
concat_append f [] ys = refl
concat_append f (x ∷ xs) ys = ap (λ l. f x ++ l) (concat_append f xs ys) ∙ sym (append_assoc (f x) (concat_map f xs) (concat_map f ys))

-- ---- tests

all_each : (bs : List Bool) → all bs ≡ true → (b : Bool) → In b bs → b ≡ true
unfolding all
all_each [] e b i = elim i [ ]
all_each (x ∷ xs) e b i =
    ⊎_elim (λ (s : b ≡ x). s ∙ left x (all xs) e) (λ j. all_each xs (right x (all xs) e) b j) (Memᴰ.cases_cons i)

each_all : (bs : List Bool) → ((b : Bool) → In b bs → b ≡ true) → all bs ≡ true
unfolding all
each_all [] h = refl
each_all (x ∷ xs) h = both x (all xs) (h x (at_head refl)) (each_all xs (λ b i. h b (in_Tail i)))

pub all_is : (bs : List Bool) → (all bs ≡ true) ↔ ((b : Bool) → In b bs → b ≡ true)
all_is bs = (all_each bs, each_all bs)

any_one : (bs : List Bool) → any bs ≡ true → In true bs
unfolding any
any_one [] e = absurd (true≢false (sym e))
any_one (x ∷ xs) e = ⊎_elim (λ (h : x ≡ true). at_head (sym h)) (λ h. in_Tail (any_one xs h)) (either x (any xs) e)

one_any : (bs : List Bool) → In true bs → any bs ≡ true
unfolding any
one_any [] i = elim i [ ]
one_any (x ∷ xs) i = ⊎_elim (λ (s : true ≡ x). rw (← s)) (λ j. rw (one_any xs j, or-true)) (Memᴰ.cases_cons i)

pub any_is : (bs : List Bool) → (any bs ≡ true) ↔ In true bs
any_is bs = (any_one bs, one_any bs)

-- the same of a test of each member
pub all_pass : {A : Type 0} (t : A → Bool) (xs : List A) → (all (map t xs) ≡ true) ↔ ((x : A) → In x xs → t x ≡ true)
all_pass t xs = (
  λ e x i. all_each (map t xs) e (t x) (Memᴰ.map t i),
  λ h. each_all (map t xs) (λ b i. let w = Memᴰ.of_map t xs i in sym w.2 ∙ h w.0 w.1),
)

pub one_passes : {A : Type 0} (t : A → Bool) (xs : List A) → (any (map t xs) ≡ true) ↔ ((x : A) × In x xs × (t x ≡ true))
one_passes t xs = (
  λ e. Memᴰ.of_map t xs (any_one (map t xs) e),
  λ h. one_any (map t xs) (Memᴰ.cast (sym h.2) (Memᴰ.map t h.1)),
)
