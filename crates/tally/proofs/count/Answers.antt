-- `tally::count` meets its contract. Assumes nothing.
use mathlib.Core.Path.{sym}
use native.Mathlib.Omega.{arith}
use Rattle.tally.specs.Tallying.{tally_of}
use Rattle.tally.proofs.Counting.{idle}
use Rattle.tally.proofs.count.Goals as goal

pub returns-then-place-ge24 : goal.returns-then-place-ge24
returns-then-place-ge24 c =
    let a = c.args in c.string_counts.ensures a.values.now

pub returns-then-place-ge5 : goal.returns-then-place-ge5
returns-then-place-ge5 c =
    let a = c.args in sym (idle a.depth a.byte (tally_of a.s a.values.now a.texts.now) a.place c.if-place-ge5.true (omega arith))

pub returns : goal.returns
returns c =
    let a = c.args in c.outer_counts.ensures a.texts.now
