-- `namesakes::first_repeated` meets its contract: a single name is not repeated. Assumes nothing.
use native.Mathlib.Omega.{arith}
use Rattle.names.proofs.Repeats.{repeats_alone}
use Rattle.namesakes.proofs.first_repeated.Goals as goal

pub returns-then-n-le1 : goal.returns-then-n-le1
returns-then-n-le1 c = repeats_alone _ _ c.if-n-le1.true

pub first_by_pairs-requires : goal.first_by_pairs-requires
first_by_pairs-requires c = omega arith
