-- `putting::put` meets its contract. Assumes nothing.
use mathlib.Core.Path.{sym}
use native.Mathlib.Omega.{arith}
use lib.Seq.{set_out}
use Rattle.putting.proofs.put.Goals as goal

pub returns-else-at-area : goal.returns-else-at-area
returns-else-at-area g c =
    let a = c.args in sym (set_out a.area.now a.at a.word (omega arith))
