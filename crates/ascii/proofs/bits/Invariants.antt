-- `ascii::bits` meets its contract. The loop's invariant: `all` has the bits of the bytes passed.
-- Assumes nothing.
use Rattle.ascii.specs.Runs.{Bits}
use Rattle.ascii.proofs.bits.Given as goal

abbrev pub invariant-loop-byte : goal.invariant-loop-byte
invariant-loop-byte g l = Bits l.text l.at l.byte-index l.all
