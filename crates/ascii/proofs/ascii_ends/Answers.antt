-- `ascii::ascii_ends` meets its contract. The first bytes and the last are all of them.
-- Assumes nothing.
use native.Mathlib.Omega.{arith}
use borrow.Author.Tests.{ltb-true}
use Rattle.ascii.proofs.Runs.{both_ends}
use Rattle.ascii.proofs.ascii_ends.Goals as goal

pub returns : goal.returns
returns g c = λ t. both_ends c.args.text.now c.args.from c.args.to g.row.N (omega arith) (omega arith) c.bits.ensures c.bits-2.ensures (ltb-true _ _ t)
