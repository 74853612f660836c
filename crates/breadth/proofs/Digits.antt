-- A number's two words give it back, and are within a row's bounds.
--     number_back    the value that the words stand for
--     number_ok_lem  the record check's question of them
--     smallest_scale, fewest_digits    what any other two words that give the number are
-- Assumes nothing.
use mathlib.Core.Bool.{Bool, true, false}
use mathlib.Core.Logic.{⊎_elim}
use mathlib.Core.Path.{◌≡◌, refl, sym, ap, ◌∙◌}
use Prim.Native.Nat.{ℕ, suc, ◌-◌, ◌*◌, ◌%◌, ◌^◌, ◌≤◌, ◌<◌}
use native.Mathlib.Nat.{div-add-mod', mod-one, zero-mul, mul-mod_left, one-le-pow, pow-le-pow_right, mul-le-mul_left, le_of_mul-le-mul_right}
use native.Mathlib.Omega.{arith}
use borrow.Author.Tests.{eq-eqb, eqb-true, le-leb}
use lib.Dec.{eqb, lit<}
use lib.IntN.{ℤ, pos, negsuc, nat_abs}
use Rattle.laws.proofs.Tests.{le_or_lt, both}
use Rattle.laws.proofs.Searches.{clear_below, holds_at, at_most_end}
use Rattle.decimal.specs.declared.Decimal.{Decimal}
use Rattle.decimal.specs.Value.{scale_max, signed, billionths, with_sign}
use Rattle.decimal.proofs.Sizes.{sign_off, size_is, value_is}
use Rattle.decimal.proofs.Words.{signed_low, signed_high, of_parts}
use Rattle.sheet.specs.Kinds.{number_max, number_ok}
use Rattle.breadth.specs.Number.{scale_of, size_of, digits_word, Narrow}

abbrev rest_none : ℤ → ℕ → Bool
rest_none z s = eqb (nat_abs z % 10 ^ (scale_max - s)) 0

pub scale_small : (z : ℤ) → scale_of z ≤ scale_max
unfolding scale_of
scale_small z = omega (arith, at_most_end (rest_none z) scale_max 0)

no_rest_inside : (z : ℤ) → scale_of z < scale_max → nat_abs z % 10 ^ (scale_max - scale_of z) ≡ 0
unfolding scale_of
no_rest_inside z l = eqb-true (nat_abs z % 10 ^ (scale_max - scale_of z)) 0 (holds_at (rest_none z) scale_max 0 l)

-- at that scale there is no rest
no_rest : (z : ℤ) → nat_abs z % 10 ^ (scale_max - scale_of z) ≡ 0
no_rest z =
    ⊎_elim
    (λ (l : scale_max ≤ scale_of z). last (omega (arith, scale_small z)))
    (λ (l : scale_of z < scale_max). no_rest_inside z l)
    (le_or_lt scale_max (scale_of z))
  where
    last : scale_of z ≡ scale_max → nat_abs z % 10 ^ (scale_max - scale_of z) ≡ 0
    last e = rw e (mod-one (nat_abs z))

pub size_back : (z : ℤ) → size_of z * 10 ^ (scale_max - scale_of z) ≡ nat_abs z
unfolding size_of
size_back z = omega (arith, no_rest z, div-add-mod' (nat_abs z) (10 ^ (scale_max - scale_of z)))

abbrev below : ℤ → Bool
below (pos n) = false
below (negsuc n) = true

sign_on : (z : ℤ) → with_sign (below z) (nat_abs z) ≡ z
sign_on (pos n) = refl
sign_on (negsuc n) = refl

pub some_digits : (n : ℕ) → 0 < size_of (negsuc n)
some_digits n =
    ⊎_elim
    (λ (l : 1 ≤ size_of (negsuc n)). l)
    (λ (l : size_of (negsuc n) < 1). absurd (nothing (omega arith)))
    (le_or_lt 1 (size_of (negsuc n)))
  where
    nothing : size_of (negsuc n) ≡ 0 → ⊥
    nothing e =
        let m : size_of (negsuc n) * 10 ^ (scale_max - scale_of (negsuc n)) ≡ 0 = rw e (zero-mul (10 ^ (scale_max - scale_of (negsuc n)))) in
        let b : size_of (negsuc n) * 10 ^ (scale_max - scale_of (negsuc n)) ≡ suc n = size_back (negsuc n) in
        omega arith

pub signed_word : (z : ℤ) → Narrow z → signed (digits_word z) ≡ with_sign (below z) (size_of z)
unfolding digits_word
signed_word (pos n) h = signed_low (size_of (pos n)) (omega arith)
signed_word (negsuc n) h =
    let s = some_digits n in
    let e : 2 ^ 32 - (2 ^ 32 - size_of (negsuc n)) ≡ size_of (negsuc n) = omega arith in
    signed_high (2 ^ 32 - size_of (negsuc n)) (omega arith) (omega arith) ∙ ap (with_sign true) e

pub number_back : (z : ℤ) → Narrow z → billionths (signed (digits_word z)) (scale_of z) ≡ z
number_back z h =
    let d : Decimal = record { below = below z; digits = size_of z; scale = scale_of z } in
    sym (of_parts (digits_word z) (scale_of z) (below z) (size_of z) (signed_word z h)).means
    ∙ value_is d refl
    ∙ ap (with_sign (below z)) (size_is d ∙ size_back z)
    ∙ sign_on z

pub number_ok_lem : (z : ℤ) → Narrow z → number_ok (digits_word z) (scale_of z) ≡ true
number_ok_lem z h =
    let e : nat_abs (signed (digits_word z)) ≡ size_of z = ap nat_abs (signed_word z h) ∙ sign_off (below z) (size_of z) in
    both (lib.Dec.leb (nat_abs (signed (digits_word z))) number_max) (lib.Dec.leb (scale_of z) scale_max)
    (le-leb (nat_abs (signed (digits_word z))) number_max (rw e h))
    (le-leb (scale_of z) scale_max (scale_small z))

-- ---- no other digits and scale give the number at a smaller scale, or with fewer digits

module _ (z : ℤ) (m s : ℕ) (few : s ≤ scale_max) (same : nat_abs z ≡ m * 10 ^ (scale_max - s)) where
  pub smallest_scale : scale_of z ≤ s
  unfolding scale_of
  smallest_scale =
      ⊎_elim
      (λ (l : scale_of z ≤ s). l)
      (λ (l : s < scale_of z).
      let none = clear_below (rest_none z) scale_max 0 s (omega arith) (omega (arith, scale_small z)) l in
      let e : nat_abs z % 10 ^ (scale_max - s) ≡ 0 = rw (same, mul-mod_left m (10 ^ (scale_max - s))) in
      let some = eq-eqb (nat_abs z % 10 ^ (scale_max - s)) 0 e in
      absurd (apart_tests none some))
      (le_or_lt (scale_of z) s)
    where
      apart_tests : {b : Bool} → b ≡ false → b ≡ true → ⊥
      apart_tests f t = let y : ◌≡◌ {A = ℕ} 0 1 = cc in omega arith

  pub fewest_digits : size_of z ≤ m
  fewest_digits =
      let k : ℕ = scale_max - scale_of z in
      let up : 10 ^ (scale_max - s) ≤ 10 ^ k = pow-le-pow_right (lit< tt) (omega (arith, smallest_scale)) in
      let more : m * 10 ^ (scale_max - s) ≤ m * 10 ^ k = mul-le-mul_left m up in
      let back : size_of z * 10 ^ k ≡ nat_abs z = size_back z in
      let less : size_of z * 10 ^ k ≤ m * 10 ^ k = omega arith in
      le_of_mul-le-mul_right less (one-le-pow k 10 (lit< tt))
