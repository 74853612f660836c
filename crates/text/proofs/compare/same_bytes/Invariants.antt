-- `text::compare::same_bytes` meets its contract. The loop's invariant: the last words, so many as were passed, are alike. Assumes nothing.
use Prim.Native.Nat.{◌-◌, ◌*◌}
use Rattle.text.proofs.Comparing.{Rest}
use Rattle.text.proofs.compare.same_bytes.Given as goal

abbrev pub invariant-loop-word : goal.invariant-loop-word
invariant-loop-word l = Rest l.a l.b (l.n - 8 * l.word)
