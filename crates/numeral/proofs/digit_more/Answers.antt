-- `numeral::digit_more` meets its contract, by whether the digit, and what is kept, is 0.
-- Assumes nothing.
use mathlib.Core.Path.{refl, sym, ap, ◌∙◌}
use Prim.Native.Nat.{ℕ, ◌+◌, ◌*◌, ◌^◌}
use native.Mathlib.Omega.{arith}
use Rattle.sheet.specs.Kinds.{number_max}
use Rattle.numeral.proofs.Caps.{capped_most, kept_digit, kept_zero, kept_none}
use Rattle.numeral.proofs.digit_more.Goals as goal

pub longer-requires : goal.longer-requires
longer-requires c =
    let h = c.requires.0 in
    (h.bounded, h.no_zeros, c.requires.2)

pub returns-then-digit-ne0 : goal.returns-then-digit-ne0
returns-then-digit-ne0 c =
    let s = c.args in
    let e = c.longer.ensures in (
      sym (kept_digit s.k s.digit c.if-digit-ne0.true ∙ ap (λ (n : ℕ). record { kept = n; zeros = 0 }) (sym e)),
      record { bounded = rw e (capped_most number_max (s.k.kept * 10 ^ (s.k.zeros + 1) + s.digit)); no_zeros = λ z. refl; few = omega arith },
    )

pub returns-then-k-eq0 : goal.returns-then-k-eq0
returns-then-k-eq0 c =
    let s = c.args in
    (sym (kept_none s.k s.digit (omega arith) (omega arith)), record { bounded = omega arith; no_zeros = λ z. refl; few = omega arith })

pub returns : goal.returns
returns c =
    let s = c.args in
    let h = c.requires.0 in
    let some = c.if-k-eq0.false in (
      sym (kept_zero s.k s.digit (omega arith) some h.bounded),
      record { bounded = h.bounded; no_zeros = λ z. absurd (some z); few = omega (arith, c.requires.1) },
    )
