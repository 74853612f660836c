-- What is kept of a number stays within bounds as long as its text is short.
--     Kin            the bounds after at most n digits
--     kin_none, kin_whole, kin_part, kin_back, kin_power      before the first digit, and after one byte more
--     kin_fair       of a text that is not too long they are those that the code asks for
-- Assumes nothing.
use mathlib.Core.Logic.{⊎_elim}
use mathlib.Core.Path.{◌≡◌, refl}
use Prim.Native.Nat.{ℕ, suc, ◌+◌, ◌*◌, ◌^◌, ◌≤◌, ◌<◌}
use native.Mathlib.Omega.{arith}
use Rattle.sheet.specs.Kinds.{number_max}
use Rattle.jsontext.proofs.Trimming.{by_zero}
use Rattle.numeral.specs.declared.Kept.{Kept}
use Rattle.numeral.specs.Numeral.{power_max, capped, kept_more}
use Rattle.numeral.proofs.Caps.{capped_most, kept_digit, kept_zero, kept_none}
use Rattle.figure.specs.declared.Figure.{Figure}
use Rattle.figure.specs.Figure.{Fair, no_figure, kept_of, with_kept, whole_more, part_more, power_back, power_more}

pub record Kin (n : ℕ) (f : Figure) : Type 0 where
  pub bounded : f.kept ≤ suc number_max
  pub no_zeros : f.kept ≡ 0 → f.zeros ≡ 0
  pub few : f.zeros ≤ n
  pub short : f.places ≤ n
  pub held : f.power ≤ suc power_max

pub kin_none : (n : ℕ) → Kin n no_figure
kin_none n = record { bounded = omega arith; no_zeros = λ z. refl; few = omega arith; short = omega arith; held = omega arith }

digit_kin : (n places : ℕ) (f : Figure) (d : ℕ) → Kin n f → places ≤ suc n → Kin (suc n) (with_kept (kept_more (kept_of f) d) places f)
digit_kin n places f d h p =
    ⊎_elim
    (λ (e : d ≡ 0).
    ⊎_elim
    (λ (z : f.kept ≡ 0). rw (kept_none (kept_of f) d e z) (record { bounded = omega arith; no_zeros = λ y. refl; few = omega arith; short = p; held = h.held }))
    (λ (z : f.kept ≡ 0 → ⊥).
    rw (kept_zero (kept_of f) d e z h.bounded) (record { bounded = h.bounded; no_zeros = λ y. absurd (z y); few = omega (arith, h.few); short = p; held = h.held }))
    (by_zero f.kept))
    (λ (e : d ≡ 0 → ⊥).
    rw (kept_digit (kept_of f) d e)
    (record { bounded = capped_most number_max (f.kept * 10 ^ (f.zeros + 1) + d); no_zeros = λ y. refl; few = omega arith; short = p; held = h.held }))
    (by_zero d)

pub kin_whole : (n : ℕ) (f : Figure) (d : ℕ) → Kin n f → Kin (suc n) (whole_more f d)
kin_whole n f d h = digit_kin n f.places f d h (omega (arith, h.short))

pub kin_part : (n : ℕ) (f : Figure) (d : ℕ) → Kin n f → Kin (suc n) (part_more f d)
kin_part n f d h = digit_kin n (f.places + 1) f d h (omega (arith, h.short))

pub kin_back : (n : ℕ) (f : Figure) → Kin n f → Kin n (power_back f)
kin_back n f h = record { bounded = h.bounded; no_zeros = h.no_zeros; few = h.few; short = h.short; held = h.held }

pub kin_power : (n : ℕ) (f : Figure) (d : ℕ) → Kin n f → Kin n (power_more f d)
kin_power n f d h =
    record { bounded = h.bounded; no_zeros = h.no_zeros; few = h.few; short = h.short; held = capped_most power_max (f.power * 10 + d) }

pub kin_more : (n m : ℕ) (f : Figure) → n ≤ m → Kin n f → Kin m f
kin_more n m f l h = record { bounded = h.bounded; no_zeros = h.no_zeros; few = omega (arith, h.few); short = omega (arith, h.short); held = h.held }

pub kin_fair : (n : ℕ) (f : Figure) → n ≤ 65_536 → Kin n f → Fair f
kin_fair n f l h =
    record { bounded = h.bounded; no_zeros = h.no_zeros; few = omega (arith, h.few); short = omega (arith, h.short); held = h.held }
