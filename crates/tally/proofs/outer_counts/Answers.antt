-- `tally::outer_counts` meets its contract. Assumes nothing.
use mathlib.Core.List.{List}
use mathlib.Core.Path.{sym}
use Prim.Native.Nat.{ℕ}
use native.Mathlib.Omega.{arith}
use Rattle.tally.specs.Tallying.{tally_of}
use Rattle.tally.proofs.Counting.{outer_blank, behind_value, shut_array, shut_object, value_starts, name_starts}
use Rattle.tally.proofs.outer_counts.Goals as goal
use Rattle.tally.proofs.outer_counts.Goals.{then-place-lt2, else-place-lt2}

pub returns-then-byte-le32 : goal.returns-then-byte-le32
returns-then-byte-le32 c =
    let a = c.args in λ (texts : List ℕ). sym (outer_blank a.depth a.byte (tally_of a.s a.values.now texts) a.place c.requires.0 c.if-byte-le32.true)

pub returns-then-place-eq2 : goal.returns-then-place-eq2
returns-then-place-eq2 c =
    let a = c.args in λ (texts : List ℕ). sym (behind_value a.depth a.byte (tally_of a.s a.values.now texts) a.place c.if-place-eq2.true)

pub returns-then-place-byte : goal.returns-then-place-byte
returns-then-place-byte c =
    let a = c.args in λ (texts : List ℕ). sym (shut_array a.depth a.byte (tally_of a.s a.values.now texts) a.place c.if-place-byte.true)

pub returns-then-place-byte-2 : goal.returns-then-place-byte-2
returns-then-place-byte-2 c =
    let a = c.args in λ (texts : List ℕ). sym (shut_object a.depth a.byte (tally_of a.s a.values.now texts) a.place c.if-place-byte-2.true)

pub returns : goal.returns
returns c =
    let a = c.args in
    λ (texts : List ℕ). rw (c.default.ensures.0, c.default.ensures.1)
    (elim c.if-place-lt2.branch [
      | then-place-lt2 w ↦ rw (w.values-is, w.add.ensures) (sym (value_starts a.depth a.byte (tally_of a.s a.values.now texts) a.place (omega arith) (omega arith) c.if-place-byte.false))
      | else-place-lt2 w ↦ rw w.values-is (sym (name_starts a.depth a.byte (tally_of a.s a.values.now texts) a.place (omega (arith, c.if-place-eq2.false)) c.requires.0 (omega arith) c.if-place-byte-2.false))
    ])
