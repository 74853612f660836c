-- `watching::values::value_starts` meets its contract. Assumes nothing.
use mathlib.Core.Path.{◌∙◌}
use native.Mathlib.Omega.{arith}
use borrow.Author.Tests.{lt-ltb, le-ltb}
use Rattle.watching.proofs.values.value_starts.Goals as goal

pub returns-then-byte-gt32 : goal.returns-then-byte-gt32
returns-then-byte-gt32 c =
    let a = c.args in
    c.value_begins.ensures ∙ rw (lt-ltb 0x20 a.byte c.if-byte-gt32.true)

pub returns : goal.returns
returns c =
    let a = c.args in
    rw (le-ltb 0x20 a.byte (omega arith))
