-- What is held of a number's digits and exponent is enough.
--     held_more      one digit more: what is held is what all the digits come to, up to the bound
--     power_held     the same of an exponent
--     kept_written, right_written, left_written    the number is written in the same way
-- Assumes nothing.
use mathlib.Core.Logic.{⊎_elim}
use mathlib.Core.Path.{◌≡◌, refl, sym, ap, ◌∙◌}
use Prim.Native.Nat.{ℕ, suc, ◌+◌, ◌-◌, ◌*◌, ◌^◌, ◌≤◌, ◌<◌}
use native.Mathlib.Nat.{one-le-pow, mul-le-mul_left, mul-one}
use native.Mathlib.Omega.{arith}
use lib.Dec.{lit<}
use Rattle.laws.proofs.Tests.{le_or_lt}
use Rattle.sheet.specs.Kinds.{number_max}
use Rattle.jsontext.specs.Number.{Trimmed, trim_more}
use Rattle.jsontext.proofs.Trimming.{by_zero, more_zero, more_tail, more_digit}
use Rattle.numeral.specs.declared.Kept.{Kept}
use Rattle.numeral.specs.Numeral.{power_max, capped, kept_more, written_of}
use Rattle.numeral.proofs.Caps.{capped_low, capped_high, kept_digit, kept_zero, kept_none, written_zero, written_low, written_wide, high_wide}

-- what is held of digits
pub record Held (t : Trimmed) (k : Kept) : Type 0 where
  pub kept_is : k.kept ≡ capped number_max t.kept
  pub zeros_are : k.zeros ≡ t.zeros

ten : (k : ℕ) → 0 < 10 ^ k
ten k = one-le-pow k 10 (lit< tt)

-- a number over the bound stays over it
grown : (most n p d : ℕ) → most < n → 0 < p → most < n * p + d
grown most n p d h q =
    let m : n * 1 ≤ n * p = mul-le-mul_left n q in
    omega (arith, mul-one n)

-- so it does not matter that only the bound was held
capped_again : (most n p d : ℕ) → 0 < p → capped most (capped most n * p + d) ≡ capped most (n * p + d)
capped_again most n p d q =
    ⊎_elim
    (λ (l : n ≤ most). ap (λ (x : ℕ). capped most (x * p + d)) (capped_low most n l))
    (λ (l : most < n).
    ap (λ (x : ℕ). capped most (x * p + d)) (capped_high most n l)
    ∙ capped_high most (suc most * p + d) (grown most (suc most) p d (omega arith) q)
    ∙ sym (capped_high most (n * p + d) (grown most n p d l q)))
    (le_or_lt n most)

capped_zero : (n : ℕ) → capped number_max n ≡ 0 → n ≡ 0
capped_zero n e =
    ⊎_elim (λ (l : n ≤ number_max). sym (capped_low number_max n l) ∙ e) (λ (l : number_max < n). absurd (omega (arith, capped_high number_max n l))) (le_or_lt n number_max)

pub power_held : (p d : ℕ) → capped power_max (capped power_max p * 10 + d) ≡ capped power_max (p * 10 + d)
power_held p d = capped_again power_max p 10 d (lit< tt)

pub held_more : (t : Trimmed) (k : Kept) (d : ℕ) → k.kept ≤ suc number_max → Held t k → Held (trim_more t d) (kept_more k d)
held_more t k d room h =
    ⊎_elim
    (λ (e : d ≡ 0).
    ⊎_elim
    (λ (z : t.kept ≡ 0).
    let none : k.kept ≡ 0 = h.kept_is ∙ ap (capped number_max) z in
    rw (more_zero t d e z, kept_none k d e none) (record { kept_is = sym (ap (capped number_max) z); zeros_are = refl }))
    (λ (z : t.kept ≡ 0 → ⊥).
    let some : k.kept ≡ 0 → ⊥ = λ y. z (capped_zero t.kept (sym h.kept_is ∙ y)) in
    rw (more_tail t d e z, kept_zero k d e some room) (record { kept_is = h.kept_is; zeros_are = ap (λ (n : ℕ). n + 1) h.zeros_are }))
    (by_zero t.kept))
    (λ (e : d ≡ 0 → ⊥).
    rw (more_digit t d e, kept_digit k d e)
    (record {
      kept_is = rw (h.kept_is, h.zeros_are) (capped_again number_max t.kept (10 ^ (t.zeros + 1)) d (ten (t.zeros + 1)));
      zeros_are = refl;
    }))
    (by_zero d)

-- ---- writing

-- a number with more digits than the bound is too wide, wherever its point is
over_wide : (kept up down : ℕ) → number_max < kept → number_max < kept * 10 ^ (up - down)
over_wide kept up down l = let m : kept * 1 ≤ kept * 10 ^ (up - down) = mul-le-mul_left kept (ten (up - down)) in omega (arith, mul-one kept)

abbrev not_zero : ℕ → Type 0
not_zero n = n ≡ 0 → ⊥

pub kept_written : (kept up down : ℕ) → written_of (capped number_max kept) up down ≡ written_of kept up down
kept_written kept up down =
    ⊎_elim
    (λ (l : kept ≤ number_max). ap (λ (n : ℕ). written_of n up down) (capped_low number_max kept l))
    (λ (l : number_max < kept).
    let c = capped_high number_max kept l in
    let some : not_zero (suc number_max) = λ z. omega arith in
    let some' : not_zero kept = λ z. omega arith in
    ap (λ (n : ℕ). written_of n up down) c
    ∙ written_wide (suc number_max) up down some (over_wide (suc number_max) up down (omega arith))
    ∙ sym (written_wide kept up down some' (over_wide kept up down l)))
    (le_or_lt kept number_max)

-- so is one whose exponent no other digits of the text make up for
module _ (kept zeros places : ℕ) (few : zeros ≤ 65_536) (short : places ≤ 65_536) where
  pub right_written : (r : ℕ) → written_of kept (capped power_max r + zeros) places ≡ written_of kept (r + zeros) places
  right_written r =
      ⊎_elim
      (λ (l : r ≤ power_max). ap (λ (n : ℕ). written_of kept (n + zeros) places) (capped_low power_max r l))
      (λ (l : power_max < r).
      ap (λ (n : ℕ). written_of kept (n + zeros) places) (capped_high power_max r l)
      ∙ ⊎_elim
      (λ (z : kept ≡ 0). written_zero kept (suc power_max + zeros) places z ∙ sym (written_zero kept (r + zeros) places z))
      (λ (z : not_zero kept).
      written_wide kept (suc power_max + zeros) places z (high_wide kept (suc power_max + zeros) places z (omega arith))
      ∙ sym (written_wide kept (r + zeros) places z (high_wide kept (r + zeros) places z (omega arith))))
      (by_zero kept))
      (le_or_lt r power_max)

  pub left_written : (r : ℕ) → written_of kept zeros (places + capped power_max r) ≡ written_of kept zeros (places + r)
  left_written r =
      ⊎_elim
      (λ (l : r ≤ power_max). ap (λ (n : ℕ). written_of kept zeros (places + n)) (capped_low power_max r l))
      (λ (l : power_max < r).
      ap (λ (n : ℕ). written_of kept zeros (places + n)) (capped_high power_max r l)
      ∙ ⊎_elim
      (λ (z : kept ≡ 0). written_zero kept zeros (places + suc power_max) z ∙ sym (written_zero kept zeros (places + r) z))
      (λ (z : not_zero kept). written_low kept zeros (places + suc power_max) z (omega arith) ∙ sym (written_low kept zeros (places + r) z (omega arith)))
      (by_zero kept))
      (le_or_lt r power_max)
