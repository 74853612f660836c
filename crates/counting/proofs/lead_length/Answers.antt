-- `counting::lead_length` meets its contract. By the law over the 256 bytes.
-- Assumes nothing.
use borrow.Author.Tests.{eq-eqb, ne_eqb}
use Rattle.counting.proofs.Bytes.{lead_law}
use Rattle.counting.proofs.lead_length.Goals as goal

pub returns-then-n-eq0 : goal.returns-then-n-eq0
returns-then-n-eq0 c = rw (eq-eqb _ _ c.if-n-eq0.true) at (lead_law c.args.b c.ranges.b.fits)

pub returns-else-n-eq0 : goal.returns-else-n-eq0
returns-else-n-eq0 c = rw (ne_eqb _ _ c.if-n-eq0.false) at (lead_law c.args.b c.ranges.b.fits)
