-- `first_rows` meets its contract. Assumes nothing.
use mathlib.Core.Path.{refl}
use native.Mathlib.Omega.{arith}
use Rattle.rows.proofs.Firsts.{rows_more}
use Rattle.rows.proofs.first_rows.Goals as goal

pub loop-k-preserved : goal.loop-k-preserved
loop-k-preserved g c = rows_more _ _ _ _ c.loop-k.invariant (omega arith) (record { at = _; at_is = refl; passes = c.if-not-test.ensures })
