-- `text::compare::same_short` meets its contract. The loop's invariant: from k on the bytes are alike. Assumes nothing.
use Rattle.text.proofs.Comparing.{Rest}
use Rattle.text.proofs.compare.same_short.Given as goal

abbrev pub invariant-loop-k : goal.invariant-loop-k
invariant-loop-k l = Rest l.a l.b l.k
