-- `first_deep` meets its contract, way by way. Assumes nothing.
use borrow.Author.Tests.{lt-ltb, le-ltb, eq-eqb, ne_eqb}
use Rattle.recordlayout.proofs.first_deep.Goals as goal

pub returns-then-deep-n : goal.returns-then-deep-n
returns-then-deep-n c = simp (lt-ltb _ _ c.if-deep-n.true)

pub returns-then-level-eq-LEVEL_REFUSED : goal.returns-then-level-eq-LEVEL_REFUSED
returns-then-level-eq-LEVEL_REFUSED c = simp (le-ltb _ _ c.if-deep-n.false, eq-eqb _ _ c.if-level-eq-LEVEL_REFUSED.true)

pub returns-else-level-eq-LEVEL_REFUSED : goal.returns-else-level-eq-LEVEL_REFUSED
returns-else-level-eq-LEVEL_REFUSED c = simp (le-ltb _ _ c.if-deep-n.false, ne_eqb _ _ c.if-level-eq-LEVEL_REFUSED.false)
