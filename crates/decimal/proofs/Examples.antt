-- Worked examples, which antt computes.
-- Assumes nothing.
use mathlib.Core.Path.{◌≡◌, refl, sym}
use mathlib.Core.Bool.{true, false}
use Prim.Native.Nat.{ℕ}
use native.Mathlib.Nat.{zero-mul}
use lib.IntN.{ℤ, negsuc, nat_abs}
use lib.Signed.{le_z, lt_z}
use Rattle.decimal.specs.Value.{signed, value, is_whole, is_multiple, value_computes}
use Rattle.decimal.proofs.Multiples.{times_multiple}

-- n / 10 ^ s, and the same below zero
abbrev plus : ℕ → ℕ → ℤ
plus n s = value (record { below = false; digits = n; scale = s })

abbrev minus : ℕ → ℕ → ℤ
minus n s = value (record { below = true; digits = n; scale = s })

-- 1.0 is 1, and minus zero is zero
same : (plus 10 1 ≡ plus 1 0) × (minus 0 3 ≡ plus 0 0)
unfolding value_computes
same = (refl, refl)

-- 1.0 is whole, and 1.5 is not
wholes : (is_whole (plus 10 1) ≡ true) × (is_whole (plus 15 1) ≡ false)
unfolding value_computes
wholes = (refl, refl)

-- -0.5 ≤ -0.25, and not -0.25 < -0.5
ordered : (le_z (minus 5 1) (minus 25 2) ≡ true) × (lt_z (minus 25 2) (minus 5 1) ≡ false)
unfolding value_computes
ordered = (refl, refl)

-- 0.3 is a multiple of 0.1, and 10 ^ 15 of 10 ^ -9
multiples : (is_multiple (plus 3 1) (plus 1 1) ≡ true) × (is_multiple (plus 1_000_000_000_000_000 0) (plus 1 9) ≡ true)
unfolding value_computes
multiples = (refl, refl)

-- -6 is no multiple of 4, and 5 none of 0
no_multiples : (is_multiple (minus 6 0) (plus 4 0) ≡ false) × (is_multiple (plus 5 0) (plus 0 0) ≡ false)
unfolding value_computes
no_multiples = (refl, refl)

-- 0 is a multiple of anything
zero_multiple : (m : ℤ) → is_multiple (plus 0 0) m ≡ true
unfolding value_computes
zero_multiple m = times_multiple 0 (plus 0 0) m (sym (zero-mul (nat_abs m)))

-- to be whole is to be a multiple of 1
whole_multiple : (z : ℤ) → is_whole z ≡ is_multiple z (plus 1 0)
unfolding value_computes
whole_multiple z = refl

-- -999,999,999 as a word
word : signed 0xC4653601 ≡ negsuc 999_999_998
unfolding value_computes
word = refl
