-- Tests of numbers, as `leb` and `eqb` answer them: which of them say the same. And the test of two signs.
-- Assumes nothing.
use mathlib.Core.Path.{◌≡◌, refl, sym, ◌∙◌}
use mathlib.Core.Bool.{Bool, true, false, not, ◌&&◌, and-false, beq}
use mathlib.Core.Logic.{⊎_elim}
use Prim.Native.Nat.{ℕ, zero, suc, ◌+◌, ◌*◌, ◌≤◌, ◌<◌}
use native.Mathlib.Nat.{eq-zero-or-pos, mul-pos}
use native.Mathlib.Omega.{arith}
use lib.Dec.{leb, ltb, eqb, leb-suc-zero, leb-suc-suc, eqb-zero-suc, eqb-suc-zero, eqb-suc-suc}
use Rattle.laws.proofs.Tests.{le_or_lt}
use borrow.Author.Tests.{le-leb, lt-leb, lt-ltb, le-ltb, eq-eqb, ne_eqb}

-- two tests are equal if each answer of the first brings the same answer of the second
pub leb_same : (a b c d : ℕ) → (a ≤ b → c ≤ d) → (b < a → d < c) → leb a b ≡ leb c d
leb_same a b c d f g =
    ⊎_elim (λ (h : a ≤ b). le-leb a b h ∙ sym (le-leb c d (f h))) (λ (h : b < a). lt-leb a b h ∙ sym (lt-leb c d (g h))) (le_or_lt a b)

pub less_not_most : (a b : ℕ) → ltb a b ≡ not (leb b a)
less_not_most a b =
    ⊎_elim (λ (h : b ≤ a). rw (le-ltb a b h, le-leb b a h)) (λ (h : a < b). rw (lt-ltb a b h, lt-leb b a h)) (le_or_lt b a)

pub equal_both_ways : (a b : ℕ) → eqb a b ≡ (leb a b && leb b a)
equal_both_ways zero zero = refl
equal_both_ways zero (suc b) = rw (eqb-zero-suc, leb-suc-zero) (sym (and-false (leb 0 (suc b))))
equal_both_ways (suc a) zero = rw (eqb-suc-zero, leb-suc-zero)
equal_both_ways (suc a) (suc b) = rw (eqb-suc-suc, leb-suc-suc a b, leb-suc-suc b a) (equal_both_ways a b)

-- a product with a number above zero is zero exactly where the other factor is
pub zero_times : (n k : ℕ) → 0 < k → eqb (n * k) 0 ≡ eqb n 0
zero_times n k h =
    ⊎_elim
    (λ (e : n ≡ 0). rw e (eq-eqb (0 * k) 0 (omega arith)))
    (λ (p : 0 < n). let q = mul-pos p h in rw (ne_eqb (n * k) 0 (λ e. omega arith), ne_eqb n 0 (λ e. omega arith)))
    (eq-zero-or-pos n)

pub sum_not_zero : (m n : ℕ) → (n ≡ 0 → ⊥) → eqb (m + n) 0 ≡ false
sum_not_zero m n h = ne_eqb (m + n) 0 (λ e. omega (arith, h))

pub signs_same : (x y : Bool) → beq x y ≡ true → x ≡ y
signs_same true true e = refl
signs_same true false e = cc
signs_same false true e = cc
signs_same false false e = refl
