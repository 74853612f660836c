-- Multiples: what the test says of two numbers, and how digits and scales answer it. The power of ten that both have is left out, and
-- what a division leaves is found one place at a time.
-- Assumes nothing.
use mathlib.Core.Path.{◌≡◌, sym, ap, ◌∙◌}
use mathlib.Core.Bool.{true, false}
use Prim.Native.Nat.{ℕ, ◌+◌, ◌-◌, ◌*◌, ◌/◌, ◌%◌, ◌^◌, ◌≤◌, ◌<◌}
use native.Mathlib.Nat.{add-zero, zero-mul, mul_assoc, mul_comm, mul-pos, mul-div_cancel, mul-mod_left, mul-add-mod_self_right, div-add-mod', mod-zero, mod-one, pow-suc}
use native.Mathlib.Numerals.{add-one}
use native.Mathlib.Omega.{arith}
use lib.Arith.{mod-mul}
use lib.Dec.{eqb}
use lib.IntN.{ℤ, nat_abs}
use borrow.Author.Tests.{eq-eqb, eqb-true}
use Rattle.decimal.specs.declared.Decimal.{Decimal}
use Rattle.decimal.specs.Value.{scale_max, value, is_whole, is_multiple}
use Rattle.decimal.proofs.Tests.{zero_times, sum_not_zero}
use Rattle.decimal.proofs.Powers.{ten_above, ten_split}
use Rattle.decimal.proofs.Sizes.{size_is, zero_is}

-- the test answers true exactly where the size of z is a whole number of times that of m
pub multiple_times : (z m : ℤ) → is_multiple z m ≡ true → nat_abs z ≡ (nat_abs z / nat_abs m) * nat_abs m
unfolding is_multiple
multiple_times z m e = omega (arith, eqb-true (nat_abs z % nat_abs m) 0 e, div-add-mod' (nat_abs z) (nat_abs m))

pub times_multiple : (k : ℕ) (z m : ℤ) → nat_abs z ≡ k * nat_abs m → is_multiple z m ≡ true
unfolding is_multiple
times_multiple k z m e = eq-eqb (nat_abs z % nat_abs m) 0 (rw (e, mul-mod_left))

-- a factor that both have does not matter
common_factor : (x m k : ℕ) → 0 < m → 0 < k → eqb ((x * k) % (m * k)) 0 ≡ eqb (x % m) 0
common_factor x m k hm hk =
    rw (mod-mul (x * k) hm hk, mul-div_cancel x hk, mul-mod_left x k, add-zero) (zero_times (x % m) k hk)

-- whole exactly where the digits are a multiple of as many tens as the scale says
pub whole_is : (d : Decimal) → d.scale ≤ scale_max → eqb (d.digits % 10 ^ d.scale) 0 ≡ is_whole (value d)
unfolding is_whole
whole_is d few =
    sym
    (rw (size_is d, ten_split scale_max d.scale (scale_max - d.scale) (omega arith))
    (common_factor d.digits (10 ^ d.scale) (10 ^ (scale_max - d.scale)) (ten_above d.scale) (ten_above (scale_max - d.scale))))

pub whole_at_once : (d : Decimal) → d.scale ≡ 0 → true ≡ is_whole (value d)
whole_at_once d e = sym (eq-eqb (d.digits % 10 ^ d.scale) 0 (rw (e, mod-one))) ∙ whole_is d (omega arith)

-- what is left with one place more
step : (x m : ℕ) → ((x % m) * 10) % m ≡ (x * 10) % m
step x m =
    let e : (x / m * 10) * m + (x % m) * 10 ≡ x * 10 = omega (arith, ap (λ (n : ℕ). n * 10) (div-add-mod' x m)) in
    sym (ap (λ (n : ℕ). n % m) (sym e) ∙ mul-add-mod_self_right (x / m * 10) m ((x % m) * 10))

pub left_more : (x m r i : ℕ) → r ≡ (x * 10 ^ i) % m → (r * 10) % m ≡ (x * 10 ^ (i + 1)) % m
left_more x m r i e = rw e (step (x * 10 ^ i) m ∙ rw (add-one, pow-suc, ← mul_assoc))

module _ (a m : Decimal) where
  by_sizes : is_multiple (value a) (value m) ≡ eqb ((a.digits * 10 ^ (scale_max - a.scale)) % (m.digits * 10 ^ (scale_max - m.scale))) 0
  unfolding is_multiple
  by_sizes = rw (size_is a, size_is m)

  pub of_zero : m.digits ≡ 0 → eqb a.digits 0 ≡ is_multiple (value a) (value m)
  unfolding is_multiple
  of_zero e =
      let z : nat_abs (value m) ≡ 0 = size_is m ∙ rw (e, zero-mul) in
      sym (rw (z, mod-zero) (zero_is a))

  -- where m has as many places as a, or more
  pub of_finer : a.scale ≤ m.scale → m.scale ≤ scale_max → 0 < m.digits → eqb ((a.digits * 10 ^ (m.scale - a.scale)) % m.digits) 0 ≡ is_multiple (value a) (value m)
  of_finer h few p =
      sym
      (by_sizes
      ∙ rw (ten_split (scale_max - a.scale) (m.scale - a.scale) (scale_max - m.scale) (omega arith), ← mul_assoc)
      (common_factor (a.digits * 10 ^ (m.scale - a.scale)) m.digits (10 ^ (scale_max - m.scale)) p (ten_above (scale_max - m.scale))))

  -- where a has more places than m
  module _ (h : m.scale < a.scale) (few : a.scale ≤ scale_max) (p : 0 < m.digits) where
    coarser : is_multiple (value a) (value m) ≡ eqb ((a.digits / m.digits % 10 ^ (a.scale - m.scale)) * m.digits + a.digits % m.digits) 0
    coarser =
        by_sizes
        ∙ rw (ten_split (scale_max - m.scale) (a.scale - m.scale) (scale_max - a.scale) (omega arith), ← mul_assoc, mul_comm m.digits (10 ^ (a.scale - m.scale)))
        (common_factor a.digits (10 ^ (a.scale - m.scale) * m.digits) (10 ^ (scale_max - a.scale)) (mul-pos (ten_above (a.scale - m.scale)) p) (ten_above (scale_max - a.scale))
        ∙ rw (mod-mul a.digits (ten_above (a.scale - m.scale)) p))

    pub of_coarser : a.digits % m.digits ≡ 0 → eqb (a.digits / m.digits % 10 ^ (a.scale - m.scale)) 0 ≡ is_multiple (value a) (value m)
    of_coarser e = sym (coarser ∙ rw (e, add-zero) (zero_times (a.digits / m.digits % 10 ^ (a.scale - m.scale)) m.digits p))

    pub not_of_coarser : (a.digits % m.digits ≡ 0 → ⊥) → false ≡ is_multiple (value a) (value m)
    not_of_coarser n = sym (coarser ∙ sum_not_zero _ _ n)
