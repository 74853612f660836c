-- `figures::behind_minus` meets its contract.
-- Assumes nothing.
use native.Mathlib.Omega.{arith}
use Rattle.figures.proofs.behind_minus.Goals as goal

pub returns-then-below : goal.returns-then-below
returns-then-below c =
    rw c.if-below.true (omega arith)

pub returns-else-below : goal.returns-else-below
returns-else-below c =
    rw c.if-below.false (omega arith)
