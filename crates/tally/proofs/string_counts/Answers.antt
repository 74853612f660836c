-- `tally::string_counts` meets its contract. Assumes nothing.
use mathlib.Core.List.{List}
use mathlib.Core.Path.{sym}
use Prim.Native.Nat.{ℕ}
use native.Mathlib.Omega.{arith}
use Rattle.tally.specs.Tallying.{tally_of}
use Rattle.tally.proofs.Counting.{text_slash, text_quote, text_byte, escape_u, escape_short, in_char}
use Rattle.tally.proofs.string_counts.Goals as goal

pub returns-then-byte-eq92 : goal.returns-then-byte-eq92
returns-then-byte-eq92 c =
    let a = c.args in λ (values : List ℕ). sym (text_slash a.depth a.byte (tally_of a.s values a.texts.now) a.place (omega arith) (omega arith) c.if-byte-eq92.true)

pub returns-then-byte-eq34 : goal.returns-then-byte-eq34
returns-then-byte-eq34 c =
    let a = c.args in λ (values : List ℕ). sym (text_quote a.depth a.byte (tally_of a.s values a.texts.now) a.place (omega arith) (omega arith) c.if-byte-eq92.false c.if-byte-eq34.true)

pub returns-then-place-lt26 : goal.returns-then-place-lt26
returns-then-place-lt26 c =
    let a = c.args in λ (values : List ℕ). rw c.add.ensures (sym (text_byte a.depth a.byte (tally_of a.s values a.texts.now) a.place (omega arith) (omega arith) c.if-byte-eq92.false c.if-byte-eq34.false))

pub returns-then-place-ge36 : goal.returns-then-place-ge36
returns-then-place-ge36 c =
    let a = c.args in λ (values : List ℕ). rw c.add-then-place-ge36.ensures (sym (in_char a.depth a.byte (tally_of a.s values a.texts.now) a.place (omega arith) (omega arith)))

pub returns-then-byte-eq117 : goal.returns-then-byte-eq117
returns-then-byte-eq117 c =
    let a = c.args in λ (values : List ℕ). sym (escape_u a.depth a.byte (tally_of a.s values a.texts.now) a.place (omega arith) (omega arith) c.if-byte-eq117.true)

pub returns : goal.returns
returns c =
    let a = c.args in λ (values : List ℕ). rw c.add-2.ensures (sym (escape_short a.depth a.byte (tally_of a.s values a.texts.now) a.place (omega arith) (omega arith) c.if-byte-eq117.false))
