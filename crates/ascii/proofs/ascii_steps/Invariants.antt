-- `ascii::ascii_steps` meets its contract. The loop's invariant: ASCII was passed so far.
-- Assumes nothing.
use Prim.Native.Nat.{◌+◌, ◌*◌}
use Rattle.ascii.specs.Runs.{Ascii}
use Rattle.ascii.proofs.ascii_steps.Given as goal

abbrev pub invariant-loop-step : goal.invariant-loop-step
invariant-loop-step g l = Ascii l.text l.from (l.from + g.row.N * l.step)
