-- `decimal::whole` meets its contract: without places at once, and else by what division by 10 ^ scale leaves of the digits.
-- Assumes nothing.
use native.Mathlib.Omega.{arith}
use Rattle.decimal.proofs.Powers.{ten_above}
use Rattle.decimal.proofs.Multiples.{whole_is, whole_at_once}
use Rattle.decimal.proofs.whole.Goals as goal

pub returns-then-a-eq0 : goal.returns-then-a-eq0
returns-then-a-eq0 c = whole_at_once c.args.a c.if-a-eq0.true

pub nonzero_rem-result : goal.nonzero_rem-result
nonzero_rem-result c = rw c.power.ensures (ten_above _)

pub returns : goal.returns
returns c = rw c.power.ensures (whole_is c.args.a (omega arith))
