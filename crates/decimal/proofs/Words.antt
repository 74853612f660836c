-- A word of 32 bits as a signed number, and the decimal that has its value.
-- Assumes nothing.
use mathlib.Core.Path.{◌≡◌, refl, sym, ◌∙◌}
use mathlib.Core.Bool.{Bool, true, false}
use Prim.Native.Nat.{ℕ, suc, ◌-◌, ◌^◌, ◌≤◌, ◌<◌}
use native.Mathlib.Omega.{arith}
use borrow.Author.Tests.{lt-ltb, le-ltb}
use Rattle.decimal.specs.Value.{signed, with_sign, signed_digits, value, OfWord}
use mir.Val.{to_z}
use mir.Syntax.{w32}
use lib.IntN.{ℤ, pos, negsuc, nat_abs}
use Rattle.std.proofs.lemmas.Int.{to_z_pos}
use Rattle.laws.proofs.Tests.{le_or_lt}
use mathlib.Core.Logic.{⊎_elim}
use lib.Signed.{lt_z}
use Rattle.decimal.proofs.Sizes.{sign_off}

pub signed_low : (w : ℕ) → w < 2 ^ 31 → signed w ≡ with_sign false w
unfolding signed
signed_low w h = rw (lt-ltb w (2 ^ 31) h)

pub signed_high : (w : ℕ) → 2 ^ 31 ≤ w → w < 2 ^ 32 → signed w ≡ with_sign true (2 ^ 32 - w)
unfolding signed
signed_high w h g =
    let e : 2 ^ 32 - w ≡ suc (2 ^ 32 - 1 - w) = omega arith in
    rw (le-ltb w (2 ^ 31) h, e)

-- a sign and a size that are the word's make the word's decimal
pub of_parts : (w s : ℕ) (b : Bool) (n : ℕ) → signed w ≡ with_sign b n → OfWord w s (record { below = b; digits = n; scale = s })
unfolding value signed_digits
of_parts w s b n e = record { means = rw e; size = rw e (sym (sign_off b n)); same = refl }

-- the same of the word as the machine reads it: z is that number, n its size
pub of_signed : (w s : ℕ) (z : ℤ) (n : ℕ) → w < 2 ^ 32 → z ≡ to_z w32 w → n ≡ nat_abs z → OfWord w s (record { below = lt_z z (pos 0); digits = n; scale = s })
of_signed w s z n h e f = ⊎_elim high low (le_or_lt (2 ^ 31) w)
  where
    low : w < 2 ^ 31 → OfWord w s (record { below = lt_z z (pos 0); digits = n; scale = s })
    low l =
        let r : z ≡ pos w = e ∙ to_z_pos w32 w l in
        let q : n ≡ w = rw r at f in
        rw (r, q, le-ltb w 0 (omega arith)) (of_parts w s false w (signed_low w l))

    high : 2 ^ 31 ≤ w → OfWord w s (record { below = lt_z z (pos 0); digits = n; scale = s })
    high l =
        let m : to_z w32 w ≡ negsuc (2 ^ 32 - suc w) = rw (le-ltb w (2 ^ 31) l) in
        let r : z ≡ negsuc (2 ^ 32 - suc w) = e ∙ m in
        let q : n ≡ suc (2 ^ 32 - suc w) = rw r at f in
        let k : suc (2 ^ 32 - suc w) ≡ 2 ^ 32 - w = omega arith in
        rw (r, q, k) (of_parts w s true (2 ^ 32 - w) (signed_high w l h))
