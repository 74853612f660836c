-- `numeral::word_of` meets its contract.
-- Assumes nothing.
use mathlib.Core.Path.{sym}
use native.Mathlib.Omega.{arith}
use Rattle.numeral.proofs.Caps.{word_zero, word_below, word_above}
use Rattle.numeral.proofs.word_of.Goals as goal

pub returns-then-digits-eq0 : goal.returns-then-digits-eq0
returns-then-digits-eq0 c = let s = c.args in sym (word_zero s.below s.digits (omega arith))

pub returns-then-below : goal.returns-then-below
returns-then-below c =
    let s = c.args in
    omega (arith, word_below s.below s.digits c.if-below.true c.if-digits-eq0.false)

pub returns : goal.returns
returns c =
    let s = c.args in
    sym (word_above s.below s.digits c.if-below.false)
