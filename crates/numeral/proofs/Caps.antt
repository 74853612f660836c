-- Digits that are held up to a bound, and how a number is written.
--     capped_low, capped_high, capped_same    a number up to the bound, over it, and one that is held
--     over_zeros                              digits with nine zeros and more before another digit are over the bound
--     kept_digit, kept_zero, kept_none        one digit more
--     written_zero, written_fits, written_wide, written_low     how a number is written
-- Assumes nothing.
use mathlib.Core.Bool.{Bool, true, false, and-false}
use mathlib.Core.Logic.{⊎_elim}
use mathlib.Core.Path.{◌≡◌, ap, ◌∙◌}
use Prim.Native.Nat.{ℕ, suc, ◌+◌, ◌-◌, ◌*◌, ◌^◌, ◌≤◌, ◌<◌}
use native.Mathlib.Nat.{eq-zero-or-pos, pow-le-pow_right, mul-le-mul, mul-le-mul_right, mul-one}
use native.Mathlib.Omega.{arith}
use borrow.Author.Tests.{eq-eqb, ne_eqb, le-leb, lt-leb}
use lib.Dec.{leb, lit<}
use Rattle.laws.proofs.Tests.{le_or_lt}
use Rattle.decimal.specs.Value.{scale_max}
use Rattle.sheet.specs.Kinds.{number_max}
use Rattle.jsontext.specs.Number.{digits_room}
use Rattle.jsontext.proofs.Trimming.{more_zero, more_tail, more_digit}
use Rattle.numeral.specs.declared.Kept.{Kept}
use Rattle.numeral.specs.Numeral.{Writing, capped, trimmed_of, kept_more, written_of, word_of}

module _ (most n : ℕ) where
  pub capped_low : n ≤ most → capped most n ≡ n
  capped_low h = rw (le-leb n most h)

  pub capped_high : most < n → capped most n ≡ suc most
  capped_high h = rw (lt-leb n most h)

  pub capped_same : n ≤ suc most → capped most n ≡ n
  capped_same h = ⊎_elim (λ (l : n ≤ most). capped_low l) (λ (l : most < n). capped_high l ∙ omega arith) (le_or_lt n most)

  pub capped_most : capped most n ≤ suc most
  capped_most = ⊎_elim (λ (l : n ≤ most). rw (capped_low l) (omega arith)) (λ (l : most < n). rw (capped_high l) (omega arith)) (le_or_lt n most)

-- a number above 0 times a power of ten
times_ten : (k a b : ℕ) → 0 < k → a ≤ b → 10 ^ a ≤ k * 10 ^ b
times_ten k a b p h =
    let grows : 10 ^ a ≤ 10 ^ b = pow-le-pow_right (lit< tt) h in
    let more : 1 * 10 ^ b ≤ k * 10 ^ b = mul-le-mul_right (10 ^ b) p in
    omega arith

pub over_zeros : (kept zeros digit : ℕ) → (kept ≡ 0 → zeros ≡ 0) → 9 ≤ zeros → number_max < kept * 10 ^ (zeros + 1) + digit
over_zeros kept zeros digit none h =
    let p : 0 < kept = ⊎_elim (λ (z : kept ≡ 0). absurd (clash (none z))) (λ (q : 0 < kept). q) (eq-zero-or-pos kept) in
    omega (arith, times_ten kept 10 (zeros + 1) p (omega arith))
  where
    clash : zeros ≡ 0 → ⊥
    clash z = omega arith

-- what is held times a power of ten up to 10 ^ 9 fits 64 bits with a digit more
pub room_64 : (kept k : ℕ) → kept ≤ suc number_max → k ≤ scale_max → kept * 10 ^ k ≤ 1_000_000_000_000_000_000
room_64 kept k h l = mul-le-mul h (pow-le-pow_right (lit< tt) l)

-- ---- one digit more

module _ (k : Kept) (d : ℕ) where
  pub kept_digit : (d ≡ 0 → ⊥) → kept_more k d ≡ record { kept = capped number_max (k.kept * 10 ^ (k.zeros + 1) + d); zeros = 0 }
  unfolding kept_more
  kept_digit e = rw (more_digit (trimmed_of k) d e)

  pub kept_zero : d ≡ 0 → (k.kept ≡ 0 → ⊥) → k.kept ≤ suc number_max → kept_more k d ≡ record { kept = k.kept; zeros = k.zeros + 1 }
  unfolding kept_more
  kept_zero e z h = rw (more_tail (trimmed_of k) d e z) (ap (λ (n : ℕ). record { kept = n; zeros = k.zeros + 1 }) (capped_same number_max k.kept h))

  pub kept_none : d ≡ 0 → k.kept ≡ 0 → kept_more k d ≡ record { kept = 0; zeros = 0 }
  unfolding kept_more
  kept_none e z = rw (more_zero (trimmed_of k) d e z, z)

-- ---- writing

abbrev too_wide : Writing
too_wide = record { wide = true; digits = 0; scale = 0 }

module _ (kept up down : ℕ) where
  pub written_zero : kept ≡ 0 → written_of kept up down ≡ record { wide = false; digits = 0; scale = 0 }
  unfolding written_of
  written_zero z = rw (eq-eqb kept 0 z)

  module _ (some : kept ≡ 0 → ⊥) where
    pub written_low : up + scale_max < down → written_of kept up down ≡ too_wide
    unfolding written_of
    written_low l = rw (ne_eqb kept 0 some, lt-leb down (up + scale_max) l)

    pub written_wide : number_max < kept * 10 ^ (up - down) → written_of kept up down ≡ too_wide
    unfolding written_of
    written_wide l = rw (ne_eqb kept 0 some, lt-leb (kept * 10 ^ (up - down)) number_max l, and-false (leb up (down + digits_room)), and-false (leb down (up + scale_max)))

    pub written_fits : down ≤ up + scale_max → up ≤ down + digits_room → kept * 10 ^ (up - down) ≤ number_max
        → written_of kept up down ≡ record { wide = false; digits = kept * 10 ^ (up - down); scale = down - up }
    unfolding written_of
    written_fits a b c =
        rw (ne_eqb kept 0 some, le-leb down (up + scale_max) a, le-leb up (down + digits_room) b, le-leb (kept * 10 ^ (up - down)) number_max c)

    pub high_wide : scale_max ≤ up - down → number_max < kept * 10 ^ (up - down)
    high_wide l =
        let p : 0 < kept = ⊎_elim (λ (z : kept ≡ 0). absurd (some z)) (λ (q : 0 < kept). q) (eq-zero-or-pos kept) in
        omega (arith, times_ten kept scale_max (up - down) p l)

    pub low_same : up < down → kept * 10 ^ (up - down) ≡ kept
    low_same l = let z : up - down ≡ 0 = omega arith in rw z (mul-one kept)

-- ---- words

module _ (below : Bool) (digits : ℕ) where
  pub word_zero : digits ≡ 0 → word_of below digits ≡ 0
  word_zero z = rw (eq-eqb digits 0 z, and-false below) z

  pub word_below : below ≡ true → (digits ≡ 0 → ⊥) → word_of below digits ≡ 2 ^ 32 - digits
  word_below b z = rw (b, ne_eqb digits 0 z)

  pub word_above : below ≡ false → word_of below digits ≡ digits
  word_above b = rw b
