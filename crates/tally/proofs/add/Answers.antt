-- `tally::add` meets its contract. Assumes nothing.
use mathlib.Core.Path.{refl, sym}
use Prim.Native.Nat.{◌+◌}
use native.Mathlib.Omega.{arith}
use lib.ListN.{get_or}
use lib.Seq.{set_out}
use Rattle.tally.specs.Tallying.{add_at}
use Rattle.tally.proofs.add.Goals as goal

pub overflow_add-counters : goal.overflow_add-counters
overflow_add-counters c =
    omega (arith, c.requires.0.each c.args.k)

pub returns-then-at-counters : goal.returns-then-at-counters
unfolding add_at
returns-then-at-counters c =
    refl

pub returns-else-at-counters : goal.returns-else-at-counters
unfolding add_at
returns-else-at-counters c =
    let a = c.args in sym (set_out a.counters.now a.k (get_or a.counters.now a.k 0 + a.n) (omega arith))
