use mathlib.Core.Path.{◌≡◌, sym, ◌∙◌}
use Prim.Native.Nat.{◌-◌, ◌*◌, ◌%◌}
use native.Mathlib.Omega.{arith}
use lib.ListN.{length}
use Rattle.std.proofs.Common.{rules}
use Rattle.text.proofs.Comparing.{unlike, front}
use Rattle.text.proofs.compare.same_bytes.Goals as goal

pub returns-then-not-same_word : goal.returns-then-not-same_word
returns-then-not-same_word c = sym (unlike (c.same_word.ensures.unlike (search rules)))

pub returns : goal.returns
returns c =
    let n = length c.args.a.now in
    let left : n - 8 * c.loop-word.word ≡ n % 8 = omega arith in
    c.same_short.ensures ∙ rw left at (front c.loop-word.invariant)
