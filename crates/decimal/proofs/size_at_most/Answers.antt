-- `decimal::size_at_most` meets its contract, by which of the two has more places.
-- Assumes nothing.
use native.Mathlib.Omega.{arith}
use Rattle.decimal.proofs.Powers.{ten_above}
use Rattle.decimal.proofs.Compared.{places_right, places_left}
use Rattle.decimal.proofs.size_at_most.Goals as goal

pub nonzero_div-result : goal.nonzero_div-result
nonzero_div-result c = rw c.power.ensures (ten_above _)

pub returns-then-a-b : goal.returns-then-a-b
returns-then-a-b c =
    let s = c.args in
    places_right s.a s.b c.power.result c.power.ensures (omega arith) (omega arith)

pub overflow_sub-result : goal.overflow_sub-result
overflow_sub-result c = rw c.power-unit.ensures (ten_above _)

pub nonzero_div-result-2 : goal.nonzero_div-result-2
nonzero_div-result-2 c = rw c.power-unit.ensures (ten_above _)

pub returns : goal.returns
returns c =
    let s = c.args in
    places_left s.a s.b c.power-unit.result c.power-unit.ensures (omega arith) (omega arith)
