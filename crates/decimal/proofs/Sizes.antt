-- The size of a value, its sign left out; the value as a size with a sign; and that a value can be written with more places.
-- Assumes nothing.
use mathlib.Core.Path.{◌≡◌, refl, sym, ap, ◌∙◌}
use mathlib.Core.Bool.{Bool, true, false, ◌&&◌}
use Prim.Native.Nat.{ℕ, zero, suc, ◌-◌, ◌*◌, ◌^◌}
use native.Mathlib.Nat.{zero-mul}
use lib.Dec.{eqb}
use lib.IntN.{ℤ, pos, nat_abs, ◌*ℤ◌}
use lib.Signed.{le_z}
use borrow.Author.Tests.{eq-eqb, ne_eqb}
use Rattle.decimal.specs.declared.Decimal.{Decimal}
use Rattle.decimal.specs.Value.{scale_max, with_sign, signed_digits, billionths, value}
use Rattle.decimal.proofs.Tests.{zero_times}
use Rattle.decimal.proofs.Powers.{ten_above}
use Rattle.decimal.proofs.Order.{by_signs, most_by_signs}

times : (b : Bool) (n k : ℕ) → with_sign b n *ℤ pos k ≡ with_sign b (n * k)
times true zero k = rw zero-mul
times true (suc n) k = refl
times false n k = refl

pub sign_off : (b : Bool) (n : ℕ) → nat_abs (with_sign b n) ≡ n
sign_off true zero = refl
sign_off true (suc n) = refl
sign_off false n = refl

module _ (d : Decimal) where
  scaled : value d ≡ with_sign d.below (d.digits * 10 ^ (scale_max - d.scale))
  unfolding value billionths signed_digits
  scaled = times d.below d.digits (10 ^ (scale_max - d.scale))

  -- how many billionths the size is
  pub size_is : nat_abs (value d) ≡ d.digits * 10 ^ (scale_max - d.scale)
  size_is = ap nat_abs scaled ∙ sign_off d.below (d.digits * 10 ^ (scale_max - d.scale))

  -- the value is the size with the decimal's sign b
  pub value_is : {b : Bool} → d.below ≡ b → value d ≡ with_sign b (nat_abs (value d))
  value_is e = scaled ∙ ap (with_sign d.below) (sym size_is) ∙ ap (λ (s : Bool). with_sign s (nat_abs (value d))) e

  -- a decimal is zero exactly where its digits are
  pub zero_is : eqb (nat_abs (value d)) 0 ≡ eqb d.digits 0
  zero_is = ap (λ (n : ℕ). eqb n 0) size_is ∙ zero_times d.digits (10 ^ (scale_max - d.scale)) (ten_above (scale_max - d.scale))

module _ (a b : Decimal) where
  -- two decimals in order, by their signs p and q and their sizes
  pub most_is : {p q : Bool} → a.below ≡ p → b.below ≡ q → le_z (value a) (value b) ≡ by_signs p q (nat_abs (value a)) (nat_abs (value b))
  most_is {p} {q} ea eb =
      ap (λ (z : ℤ). le_z z (value b)) (value_is a ea)
      ∙ ap (λ (z : ℤ). le_z (with_sign p (nat_abs (value a))) z) (value_is b eb)
      ∙ most_by_signs p q (nat_abs (value a)) (nat_abs (value b))

  -- one not below zero is at most one below zero only where both are zero
  module _ (ea : a.below ≡ false) (eb : b.below ≡ true) where
    most_zeros : le_z (value a) (value b) ≡ (eqb a.digits 0 && eqb b.digits 0)
    most_zeros = most_is ea eb ∙ cc (zero_is a, zero_is b)

    pub zero_most : a.digits ≡ 0 → eqb b.digits 0 ≡ le_z (value a) (value b)
    zero_most e = sym (most_zeros ∙ rw (eq-eqb a.digits 0 e))

    pub above_not_most : (a.digits ≡ 0 → ⊥) → eqb a.digits 0 ≡ le_z (value a) (value b)
    above_not_most n = sym (most_zeros ∙ rw (ne_eqb a.digits 0 n))
