-- `watching::move_on` meets its contract. Assumes nothing.
use mathlib.Core.Path.{sym}
use native.Mathlib.Omega.{arith}
use Rattle.survey.proofs.Ranges.{idle_low, idle_high}
use Rattle.watching.proofs.move_on.Goals as goal

pub returns-then-place-ge36 : goal.returns-then-place-ge36
returns-then-place-ge36 c =
    let a = c.args in
    sym (idle_high a.depth a.byte a.left a.s a.place c.if-place-ge36.true c.requires.0)

pub returns-then-place-ge5 : goal.returns-then-place-ge5
returns-then-place-ge5 c =
    let a = c.args in
    sym (idle_low a.depth a.byte a.left a.s a.place c.if-place-ge5.true (omega arith))
