-- `decimal::multiple_of` meets its contract, by three cases: m is zero, a has more places than m, or m has as many or more.
-- Assumes nothing.
use Prim.Native.Nat.{◌-◌}
use native.Mathlib.Omega.{arith}
use Rattle.decimal.proofs.Powers.{ten_above}
use Rattle.decimal.proofs.Multiples.{of_zero, of_coarser, not_of_coarser, of_finer}
use Rattle.decimal.proofs.multiple_of.Goals as goal

pub returns-then-by-eq0 : goal.returns-then-by-eq0
returns-then-by-eq0 c = of_zero c.args.a c.args.m c.if-by-eq0.true

pub nonzero_rem-result : goal.nonzero_rem-result
nonzero_rem-result c =
    let s = c.args in
    rw c.power.ensures (ten_above (s.a.scale - s.m.scale))

pub returns-then-digits-by-eq0 : goal.returns-then-digits-by-eq0
returns-then-digits-by-eq0 c =
    let s = c.args in
    rw c.power.ensures (of_coarser s.a s.m (omega arith) (omega arith) (omega arith) c.if-digits-by-eq0.true)

pub returns-then-m-a : goal.returns-then-m-a
returns-then-m-a c =
    let s = c.args in
    not_of_coarser s.a s.m (omega arith) (omega arith) (omega arith) c.if-digits-by-eq0.false

pub returns : goal.returns
returns c =
    let s = c.args in
    rw c.left_of.ensures (of_finer s.a s.m (omega arith) (omega arith) (omega arith))
