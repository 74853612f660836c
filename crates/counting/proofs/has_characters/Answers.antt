use native.Mathlib.Omega.{arith}
use Rattle.counting.proofs.Passing.{at_start, character, too_few}
use Rattle.counting.proofs.has_characters.Goals as goal

pub loop-many-init : goal.loop-many-init
loop-many-init c = at_start _ _ c.requires

pub returns-then-end-at : goal.returns-then-end-at
returns-then-end-at c = let e = c.end-end.ensures in too_few c.loop-many.invariant _ (omega arith) (omega arith)

pub loop-many-preserved : goal.loop-many-preserved
loop-many-preserved c = let e = c.end-end.ensures in character c.loop-many.invariant _ c.lead_length.ensures (omega arith)
