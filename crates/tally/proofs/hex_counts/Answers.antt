-- `tally::hex_counts` meets its contract. Assumes nothing.
use mathlib.Core.List.{List}
use mathlib.Core.Path.{sym}
use Prim.Native.Nat.{ℕ}
use native.Mathlib.Omega.{arith}
use Rattle.tally.specs.Tallying.{tally_of}
use Rattle.tally.proofs.Counting.{last_hex, other_hex}
use Rattle.tally.proofs.hex_counts.Goals as goal

pub returns-then-place-lt30 : goal.returns-then-place-lt30
returns-then-place-lt30 c =
    let a = c.args in λ (values : List ℕ). rw (c.high.ensures, c.add.ensures, c.unit_size.ensures.0, c.hex_more-code.ensures.0) (sym (last_hex a.depth a.byte (tally_of a.s values a.texts.now) a.place (omega arith) (omega arith)))

pub returns : goal.returns
returns c =
    let a = c.args in λ (values : List ℕ). rw c.hex_more-code.ensures.0 (sym (other_hex a.depth a.byte (tally_of a.s values a.texts.now) a.place (omega arith) (omega arith)))
