-- Lists in which nothing stands twice.
--     distinct_last     one more at the end
--     distinct_image    of a function that tells them apart
--     few               numbers below n are at most n
-- Assumes nothing.
use mathlib.Core.Bool.{Bool, true, false, not, cond}
use mathlib.Core.List.Memᴰ
use mathlib.Core.List.Memᴰ.{head as at_head}
use mathlib.Core.List.Memᴰ.{tail as in_Tail}
use mathlib.Core.List.{List, [], ◌∷◌, ◌++◌, map, Memᴰ as In}
use mathlib.Core.Logic.{⊎_elim}
use mathlib.Core.Path.{◌≡◌, refl, sym, ap, ◌∙◌}
use Prim.Native.Nat.{ℕ, zero, suc, ◌≤◌, ◌<◌}
use native.Mathlib.Nat.{not-suc-le-zero}
use native.Mathlib.Omega.{arith}
use lib.Dec.{eqb}
use lib.ListN.{length}
use borrow.Author.Tests.{eqb-true, eqb-false, ne_eqb}
use Rattle.laws.proofs.Tests.{decide}
use Rattle.meaning.specs.Lists.{keep}
use Rattle.meaning.specs.Once.{Distinct}
use Rattle.meaning.proofs.Lists.{Every, every_nil, every_cons, in_every}

pub distinct_last : {A : Type 0} (xs : List A) (y : A) → Distinct xs → (In y xs → ⊥) → Distinct (xs ++ y ∷ [])
distinct_last [] y d h = ((λ i. elim i [ ]), tt)
distinct_last (x ∷ xs) y d h = (
  (λ i. ⊎_elim (λ j. d.0 j) (λ j. h (at_head (sym (Memᴰ.eq_of_singleton j)))) (Memᴰ.append_cases xs i)),
  distinct_last xs y d.1 (λ i. h (in_Tail i)),
)

pub distinct_image : {A B : Type 0} (f : A → B) (P : A → Type 0) → ((x y : A) → P x → P y → f x ≡ f y → x ≡ y)
    → {xs : List A} → Every P xs → Distinct xs → Distinct (map f xs)
distinct_image f P apart every_nil d = tt
distinct_image f P apart (every_cons {x = x} {xs = xs} h hs) d = (
  (λ i. let a = Memᴰ.of_map f xs i in d.0 (Memᴰ.cast (sym (apart a.0 x (in_every hs a.1) h a.2)) a.1)),
  distinct_image f P apart hs d.1,
)

-- ---- numbers

abbrev other : ℕ → ℕ → Bool
other n x = not (eqb x n)

kept_in : (n x : ℕ) (xs : List ℕ) → In x (keep (other n) xs) → In x xs
unfolding keep
kept_in n x [] i = i
kept_in n x (y ∷ ys) i = pick (other n y) (λ j. kept_in n x ys j) i
  where
    pick : (b : Bool) → (In x (keep (other n) ys) → In x ys) → In x (cond b (y ∷ keep (other n) ys) (keep (other n) ys)) → In x (y ∷ ys)
    pick true rest j = ⊎_elim (λ e. at_head e) (λ k. in_Tail (rest k)) (Memᴰ.cases_cons j)
    pick false rest j = in_Tail (rest j)

kept_distinct : (n : ℕ) (xs : List ℕ) → Distinct xs → Distinct (keep (other n) xs)
unfolding keep
kept_distinct n [] d = tt
kept_distinct n (x ∷ xs) d = pick (other n x) (kept_distinct n xs d.1)
  where
    pick : (b : Bool) → Distinct (keep (other n) xs) → Distinct (cond b (x ∷ keep (other n) xs) (keep (other n) xs))
    pick true rest = ((λ i. d.0 (kept_in n x xs i)), rest)
    pick false rest = rest

-- without n all that is left is below it
kept_below : (n : ℕ) {xs : List ℕ} → Every (λ x. x < suc n) xs → Every (λ x. x < n) (keep (other n) xs)
unfolding keep
kept_below n every_nil = every_nil
kept_below n (every_cons {x = x} {xs = xs} h hs) =
    ⊎_elim (λ (e : eqb x n ≡ true). rw e (kept_below n hs))
    (λ (e : eqb x n ≡ false). rw e (every_cons {x = x} (below (eqb-false x n e)) (kept_below n hs)))
    (decide (eqb x n))
  where
    below : (x ≡ n → ⊥) → x < n
    below apart = omega arith

-- and if n does not stand there all is left
kept_all : (n : ℕ) (xs : List ℕ) → (In n xs → ⊥) → keep (other n) xs ≡ xs
unfolding keep
kept_all n [] h = refl
kept_all n (x ∷ xs) h = rw (ne_eqb x n (λ e. h (at_head (sym e)))) (ap (λ l. x ∷ l) (kept_all n xs (λ i. h (in_Tail i))))

-- at most one is left out
one_less : (n : ℕ) (xs : List ℕ) → Distinct xs → length xs ≤ suc (length (keep (other n) xs))
unfolding keep
one_less n [] d = omega arith
one_less n (x ∷ xs) d =
    ⊎_elim (λ (e : eqb x n ≡ true). rw (e, kept_all n xs (λ i. d.0 (Memᴰ.cast (eqb-true x n e) i))) (omega arith))
    (λ (e : eqb x n ≡ false). rw e (omega (arith, one_less n xs d.1)))
    (decide (eqb x n))

pub few : (n : ℕ) (xs : List ℕ) → Distinct xs → Every (λ x. x < n) xs → length xs ≤ n
few zero xs d every_nil = omega arith
few zero xs d (every_cons h hs) = absurd (not-suc-le-zero h)
few (suc n) xs d h = omega (arith, one_less n xs d, few n (keep (other n) xs) (kept_distinct n xs d) (kept_below n h))
