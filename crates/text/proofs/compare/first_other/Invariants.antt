-- `text::compare::first_other` meets its contract. The loop's invariant: up to k the bytes are alike. Assumes nothing.
use Rattle.text.proofs.Alike.{Ahead}
use Rattle.text.proofs.compare.first_other.Given as goal

abbrev pub invariant-loop-k : goal.invariant-loop-k
invariant-loop-k l = Ahead l.a l.b l.from l.k
