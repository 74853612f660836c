-- `numeral::lowered` meets its contract.
-- Assumes nothing.
use mathlib.Core.Path.{◌≡◌, sym, ap, ◌∙◌}
use Prim.Native.Nat.{ℕ, ◌-◌}
use native.Mathlib.Omega.{arith}
use Rattle.std.specs.Prelude.{Some}
use Rattle.numeral.specs.Numeral.{row_of}
use Rattle.numeral.proofs.Caps.{written_low, written_wide, written_fits, low_same}
use Rattle.numeral.proofs.lowered.Goals as goal

pub returns-then-by-gt-SCALE_MAX : goal.returns-then-by-gt-SCALE_MAX
returns-then-by-gt-SCALE_MAX c =
    let s = c.args in
    sym (ap row_of (written_low s.kept s.up s.down (λ (z : s.kept ≡ 0). omega (arith, c.requires.0)) (omega arith)))

pub returns-then-kept-gt-NUMBER_MAX : goal.returns-then-kept-gt-NUMBER_MAX
returns-then-kept-gt-NUMBER_MAX c =
    let s = c.args in
    let some : s.kept ≡ 0 → ⊥ = λ z. omega (arith, c.requires.0) in
    sym (ap row_of (written_wide s.kept s.up s.down some (omega (arith, low_same s.kept s.up s.down some c.requires.1))))

pub returns : goal.returns
returns c =
    let s = c.args in
    let some : s.kept ≡ 0 → ⊥ = λ z. omega (arith, c.requires.0) in
    let same = low_same s.kept s.up s.down some c.requires.1 in
    sym (ap row_of (written_fits s.kept s.up s.down some (omega arith) (omega (arith, c.requires.1)) (omega arith)) ∙ ap (λ (n : ℕ). Some (record { digits = n; scale = s.down - s.up })) same)
