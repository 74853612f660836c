-- `numeral::power_more` meets its contract.
-- Assumes nothing.
use mathlib.Core.Path.{sym}
use Prim.Native.Nat.{◌+◌, ◌*◌}
use native.Mathlib.Omega.{arith}
use Rattle.numeral.specs.Numeral.{power_max}
use Rattle.numeral.proofs.Caps.{capped_low, capped_high}
use Rattle.numeral.proofs.power_more.Goals as goal

pub returns-then-all-gt999999 : goal.returns-then-all-gt999999
returns-then-all-gt999999 c =
    let s = c.args in
    (sym (capped_high power_max (s.held * 10 + s.digit) (omega arith)), omega arith)

pub returns : goal.returns
returns c =
    let s = c.args in
    (sym (capped_low power_max (s.held * 10 + s.digit) (omega arith)), omega arith)
