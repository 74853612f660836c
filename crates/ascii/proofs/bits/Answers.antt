use Prim.Native.Nat.{◌+◌, ◌-◌, ◌<◌}
use native.Mathlib.Omega.{arith}
use lib.Seq.{get_or-drop, get_or-take}
use Rattle.ascii.proofs.Runs.{bits_one, joined}
use Rattle.ascii.proofs.bits.Goals as goal

pub loop-byte-preserved : goal.loop-byte-preserved
loop-byte-preserved g c =
    let i = c.loop-byte.byte-index in
    let short : i < c.args.at + g.row.N - c.args.at = omega arith in
    rw (get_or-take, get_or-drop) (joined _ _ i 1 c.loop-byte.invariant (bits_one _ _))
