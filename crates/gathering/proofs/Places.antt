-- What a byte does at each of a range of places, by their numbers.
-- Assumes nothing.
use mathlib.Core.Bool.{true, false}
use mathlib.Core.List.{List, [], ◌∷◌}
use mathlib.Core.Logic.{◌≢◌, ◌⊎◌, inl, inr, ⊎_elim}
use mathlib.Core.Path.{◌≡◌, refl, ap, ◌∙◌, subst}
use Prim.Native.Nat.{ℕ, zero, suc, ◌+◌, ◌-◌, ◌%◌, ◌≤◌, ◌<◌}
use native.Mathlib.Omega.{arith}
use borrow.Author.Tests.{lt-ltb, le-ltb, eq-eqb, ne_eqb}
use lib.Dec.{eqb, ltb}
use lib.ListN.{length, get_or}
use Rattle.laws.proofs.Tests.{le_or_lt}
use Rattle.jsontext.specs.Automaton.{Bracket}
use Rattle.grammar.specs.Codes.{place_at}
use Rattle.naming.specs.Gathering.{Gather, says, unit_is, digit_of, starts, opens_name, names, gather}

-- ---- of each number of a range

abbrev All : (ℕ → Type 0) → ℕ → ℕ → Type 0
All P k zero = Unit {0}
All P k (suc m) = P k × All P (suc k) m

same_or_above : (x y : ℕ) → x ≤ y → (x ≡ y) ⊎ (x < y)
same_or_above x y h = ⊎_elim (λ (e : y ≤ x). inl (omega arith)) (λ (e : x < y). inr e) (le_or_lt y x)

all_at : (P : ℕ → Type 0) (k m : ℕ) → All P k m → (n : ℕ) → k ≤ n → n < k + m → P n
all_at P k zero a n l h = absurd (omega arith)
all_at P k (suc m) a n l h = ⊎_elim (λ (e : k ≡ n). subst P e a.0) (λ (e : k < n). all_at P (suc k) m a.1 n e (omega arith)) (same_or_above k n l)

module _ (limit : ℕ) (ks : List Bracket) (b : ℕ) (bs : List ℕ) (g : Gather) where
  abbrev At : ℕ → Gather → Type 0
  At n r = gather limit (place_at n) ks b bs g ≡ r

  -- in a string that is no name
  pub idle_even : (n : ℕ) → 24 ≤ n → n < 50 → n % 2 ≡ 0 → At n g
  idle_even = all_at (λ n. n % 2 ≡ 0 → At n g) 24 26 ((λ e. refl), ((λ e. absurd (omega arith)), ((λ e. refl), ((λ e. absurd (omega arith)), ((λ e. refl), ((λ e. absurd (omega arith)), ((λ e. refl), ((λ e. absurd (omega arith)), ((λ e. refl), ((λ e. absurd (omega arith)), ((λ e. refl), ((λ e. absurd (omega arith)), ((λ e. refl), ((λ e. absurd (omega arith)), ((λ e. refl), ((λ e. absurd (omega arith)), ((λ e. refl), ((λ e. absurd (omega arith)), ((λ e. refl), ((λ e. absurd (omega arith)), ((λ e. refl), ((λ e. absurd (omega arith)), ((λ e. refl), ((λ e. absurd (omega arith)), ((λ e. refl), ((λ e. absurd (omega arith)), tt))))))))))))))))))))))))))

  pub idle_low : (n : ℕ) → 5 ≤ n → n < 24 → At n g
  idle_low = all_at (λ n. At n g) 5 19 (refl, (refl, (refl, (refl, (refl, (refl, (refl, (refl, (refl, (refl, (refl, (refl, (refl, (refl, (refl, (refl, (refl, (refl, (refl, tt)))))))))))))))))))

  -- in a name
  pub in_char : (n : ℕ) → 37 ≤ n → n < 50 → n % 2 ≢ 0 → At n (says (b ∷ []) g)
  in_char = all_at (λ n. n % 2 ≢ 0 → At n (says (b ∷ []) g)) 37 13 ((λ e. refl), ((λ e. absurd (e refl)), ((λ e. refl), ((λ e. absurd (e refl)), ((λ e. refl), ((λ e. absurd (e refl)), ((λ e. refl), ((λ e. absurd (e refl)), ((λ e. refl), ((λ e. absurd (e refl)), ((λ e. refl), ((λ e. absurd (e refl)), ((λ e. refl), tt)))))))))))))

  pub in_digits : (n : ℕ) → 31 ≤ n → n < 36 → n % 2 ≢ 0 → At n (unit_is (digit_of g.unit b) g)
  in_digits = all_at (λ n. n % 2 ≢ 0 → At n (unit_is (digit_of g.unit b) g)) 31 5 ((λ e. refl), ((λ e. absurd (e refl)), ((λ e. refl), ((λ e. absurd (e refl)), ((λ e. refl), tt)))))

  -- by the place's number
  pub at_place : (n m : ℕ) → n ≡ m → gather limit (place_at n) ks b bs g ≡ gather limit (place_at m) ks b bs g
  at_place n m e = ap (λ (x : ℕ). gather limit (place_at x) ks b bs g) e

  -- ---- where a value or a name may start

  pub outer_blank : (n : ℕ) → n < 5 → b ≤ 0x20 → At n g
  unfolding names
  outer_blank n h l =
      let low : ltb 0x20 b ≡ false = le-ltb 0x20 b l in
      let other : eqb b 0x22 ≡ false = ne_eqb b 0x22 (λ e. omega arith) in
      all_at (λ n. At n g) 0 5 (rw low, (rw low, (refl, (rw other, (rw other, tt))))) n (omega arith) (omega arith)

  pub value_ahead : (n : ℕ) → n ≡ 0 → 0x20 < b → At n (starts ks b g)
  value_ahead n e l = at_place n 0 e ∙ rw (lt-ltb 0x20 b l)

  pub value_first : (n : ℕ) → n ≡ 1 → 0x20 < b → b ≢ 0x5D → At n (starts ks b g)
  value_first n e l m = at_place n 1 e ∙ rw (lt-ltb 0x20 b l, ne_eqb b 0x5D m)

  pub array_shuts : (n : ℕ) → n ≡ 1 → b ≡ 0x5D → At n g
  array_shuts n e m = at_place n 1 e ∙ rw m

  pub no_name : (n : ℕ) → 3 ≤ n → n < 5 → b ≢ 0x22 → At n g
  unfolding names
  no_name n l h m =
      let other : eqb b 0x22 ≡ false = ne_eqb b 0x22 m in
      all_at (λ n. At n g) 3 2 (rw other, (rw other, tt)) n l h

  pub name_opens : (n : ℕ) → 3 ≤ n → n < 5 → b ≡ 0x22
      → At n (opens_name (ltb limit (length (b ∷ bs))) (get_or g.objects (length ks - 1) 0) (length (b ∷ bs)) g)
  unfolding names
  name_opens n l h m =
      let quote : eqb b 0x22 ≡ true = eq-eqb b 0x22 m in
      let r : Gather = opens_name (ltb limit (length (b ∷ bs))) (get_or g.objects (length ks - 1) 0) (length (b ∷ bs)) g in
      all_at (λ n. At n r) 3 2 (rw quote, (rw quote, tt)) n l h
