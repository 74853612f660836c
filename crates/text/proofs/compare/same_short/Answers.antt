use mathlib.Core.Path.{sym}
use native.Mathlib.Omega.{arith}
use Rattle.text.proofs.Comparing.{differ, done}
use Rattle.text.proofs.compare.same_short.Goals as goal

pub returns-then-a-k : goal.returns-then-a-k
returns-then-a-k c = sym (differ _ _ _ c.if-a-k.true)

pub returns : goal.returns
returns c = sym (done c.loop-k.invariant (omega arith))
