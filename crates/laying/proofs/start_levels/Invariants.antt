-- `laying::start_levels` meets its contract.
-- Assumes nothing.
use mathlib.Core.Path.{◌≡◌}
use Rattle.laying.specs.Laying.{start_at, Started}
use Rattle.laying.proofs.start_levels.Given as goal

abbrev pub invariant-loop-k : goal.invariant-loop-k
invariant-loop-k l = (l.sum ≡ start_at l.counters l.k) × Started l.counters l.starts l.k
