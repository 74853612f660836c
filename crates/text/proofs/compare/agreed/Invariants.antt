-- `text::compare::agreed` meets its contract. The loop's invariant: up to this block the bytes are alike. Assumes nothing.
use Prim.Native.Nat.{◌+◌, ◌*◌}
use Rattle.text.proofs.Alike.{Ahead}
use Rattle.text.proofs.compare.agreed.Given as goal

abbrev pub invariant-loop-block : goal.invariant-loop-block
invariant-loop-block l = Ahead l.a l.b l.from (l.from + 32 * l.block)
