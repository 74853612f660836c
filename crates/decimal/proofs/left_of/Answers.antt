use native.Mathlib.Nat.{mod-lt}
use native.Mathlib.Omega.{arith}
use Rattle.decimal.proofs.Multiples.{left_more}
use Rattle.decimal.proofs.left_of.Goals as goal

pub loop-place-preserved : goal.loop-place-preserved
loop-place-preserved c =
    let s = c.args in
    let l = c.loop-place in
    (mod-lt _ (omega arith), left_more s.digits s.m l.left l._place l.invariant.1)
