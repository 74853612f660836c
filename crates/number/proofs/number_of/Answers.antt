use mathlib.Core.Path.{◌∙◌}
use native.Mathlib.Omega.{arith}
use Rattle.number.proofs.Calls.{counts, unmarked}
use Rattle.number.proofs.number_of.Goals as goal

pub number_of_judged-requires : goal.number_of_judged-requires
number_of_judged-requires c =
    let j = c.in-Ok.judged in
    omega (arith, counts j.valid j.pairs j.marked, rw c.in-Ok.is at c.requires)

pub returns-in-Ok : goal.returns-in-Ok
returns-in-Ok c =
    let j = c.in-Ok.judged in
    rw c.in-Ok.is (c.number_of_judged.ensures ∙ unmarked j.valid j.pairs j.marked)

pub returns-in-Err : goal.returns-in-Err
returns-in-Err c = rw (c.in-Err.is, c.number_of_refusal.ensures, c.number.ensures)
