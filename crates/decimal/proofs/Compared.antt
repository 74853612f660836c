-- Sizes compared by their digits: as they stand where the scales are equal, and else with the digits that have more places divided.
-- Assumes nothing.
use mathlib.Core.Path.{◌≡◌, sym, ◌∙◌}
use Prim.Native.Nat.{ℕ, zero, suc, ◌+◌, ◌-◌, ◌*◌, ◌/◌, ◌^◌, ◌≤◌, ◌<◌}
use native.Mathlib.Nat.{mul_assoc, suc-mul, zero-mul, mul-le-mul_right, mul-lt-mul_of_pos_right, le-div_iff_mul-le, div-lt_iff_lt-mul}
use native.Mathlib.Omega.{arith}
use lib.Dec.{leb}
use lib.IntN.{nat_abs}
use Rattle.decimal.specs.declared.Decimal.{Decimal}
use Rattle.decimal.specs.Value.{scale_max, value}
use Rattle.decimal.proofs.Tests.{leb_same}
use Rattle.decimal.proofs.Powers.{ten_above, ten_split}
use Rattle.decimal.proofs.Sizes.{size_is}

-- a factor that both have does not matter
times_most : (m n k : ℕ) → 0 < k → leb m n ≡ leb (m * k) (n * k)
times_most m n k p = leb_same m n (m * k) (n * k) (λ (h : m ≤ n). mul-le-mul_right k h) (λ (h : n < m). mul-lt-mul_of_pos_right h p)

-- a factor of the one is a divisor of the other: rounded down on the right side, and up on the left
divided_right : (m n u : ℕ) → 0 < u → leb m (n / u) ≡ leb (m * u) n
divided_right m n u p = leb_same m (n / u) (m * u) n (λ (h : m ≤ n / u). (le-div_iff_mul-le p).0 h) (λ (h : n / u < m). (div-lt_iff_lt-mul p).0 h)

divided_left : (m n u : ℕ) → 0 < u → leb ((m + (u - 1)) / u) n ≡ leb m (n * u)
divided_left m n u p =
    leb_same ((m + (u - 1)) / u) n m (n * u)
    (λ (h : (m + (u - 1)) / u ≤ n). let g : m + (u - 1) < suc n * u = (div-lt_iff_lt-mul p).0 (omega arith) in omega (arith, suc-mul n u))
    (λ (h : n < (m + (u - 1)) / u). let g : suc n * u ≤ m + (u - 1) = (le-div_iff_mul-le p).0 h in omega (arith, suc-mul n u))

-- digits compare as they stand where their factors are the same, or the first are zero
alike : (m n j k : ℕ) → 0 < k → (0 < m → j ≡ k) → (leb m n ≡ leb (m * j) (n * k)) × (leb n m ≡ leb (n * k) (m * j))
alike zero n j k p e = (leb_same 0 n (0 * j) (n * k) (λ (h : 0 ≤ n). omega (arith, zero-mul j)) (λ (h : n < 0). absurd (omega arith)), leb_same n 0 (n * k) (0 * j) (λ (h : n ≤ 0). none n h) (λ (h : 0 < n). omega (arith, zero-mul j, mul-lt-mul_of_pos_right h p, zero-mul k)))
  where
    none : (n : ℕ) → n ≤ 0 → n * k ≤ 0 * j
    none zero h = omega (arith, zero-mul j, zero-mul k)
    none (suc n) h = absurd (omega arith)
alike (suc m) n j k p e = let z : j ≡ k = e (omega arith) in rw z (times_most (suc m) n k p, times_most n (suc m) k p)

module _ (a b : Decimal) where
  by_sizes : leb (nat_abs (value a)) (nat_abs (value b)) ≡ leb (a.digits * 10 ^ (scale_max - a.scale)) (b.digits * 10 ^ (scale_max - b.scale))
  by_sizes = rw (size_is a, size_is b)

  -- zero is as small at any scale
  pub at_one_scale : (0 < a.digits → a.scale ≡ b.scale) → leb a.digits b.digits ≡ leb (nat_abs (value a)) (nat_abs (value b))
  at_one_scale e = sym (by_sizes ∙ sym (alike a.digits b.digits (10 ^ (scale_max - a.scale)) (10 ^ (scale_max - b.scale)) (ten_above (scale_max - b.scale)) (λ h. rw (e h))).0)

  pub at_one_scale_back : (0 < a.digits → a.scale ≡ b.scale) → leb b.digits a.digits ≡ leb (nat_abs (value b)) (nat_abs (value a))
  at_one_scale_back e = rw (size_is a, size_is b) (alike a.digits b.digits (10 ^ (scale_max - a.scale)) (10 ^ (scale_max - b.scale)) (ten_above (scale_max - b.scale)) (λ h. rw (e h))).1

  -- u stands for 10 ^ the difference of the scales
  pub places_right : (u : ℕ) → u ≡ 10 ^ (b.scale - a.scale) → a.scale < b.scale → b.scale ≤ scale_max → leb a.digits (b.digits / u) ≡ leb (nat_abs (value a)) (nat_abs (value b))
  places_right u e h few =
      sym
      (by_sizes
      ∙ rw (ten_split (scale_max - a.scale) (b.scale - a.scale) (scale_max - b.scale) (omega arith), ← e, ← mul_assoc, ← times_most (a.digits * u) b.digits (10 ^ (scale_max - b.scale)) (ten_above (scale_max - b.scale)))
      (sym (divided_right a.digits b.digits u (rw e (ten_above (b.scale - a.scale))))))

  pub places_left : (u : ℕ) → u ≡ 10 ^ (a.scale - b.scale) → b.scale ≤ a.scale → a.scale ≤ scale_max → leb ((a.digits + (u - 1)) / u) b.digits ≡ leb (nat_abs (value a)) (nat_abs (value b))
  places_left u e h few =
      sym
      (by_sizes
      ∙ rw (ten_split (scale_max - b.scale) (a.scale - b.scale) (scale_max - a.scale) (omega arith), ← e, ← mul_assoc, ← times_most a.digits (b.digits * u) (10 ^ (scale_max - a.scale)) (ten_above (scale_max - a.scale)))
      (sym (divided_left a.digits b.digits u (rw e (ten_above (a.scale - b.scale))))))
