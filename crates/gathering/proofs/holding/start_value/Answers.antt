-- `gathering::holding::start_value` meets its contract. Assumes nothing.
use native.Mathlib.Numerals.{add-one}
use Rattle.gathering.proofs.Acts.{starts_object, starts_other}
use Rattle.gathering.proofs.holding.start_value.Goals as goal
use Rattle.gathering.proofs.holding.start_value.Goals.{then-byte-eq123, else-byte-eq123}

pub returns : goal.returns
returns c =
    let a = c.args in
    λ ks e text words.
    elim c.if-byte-eq123.branch [
      | then-byte-eq123 w ↦ rw (w.objects-is, w.put.ensures, add-one) (rw e at (starts_object text words a.objects.now a.n ks a.byte w.if-byte-eq123.true))
      | else-byte-eq123 w ↦ rw (w.objects-is, add-one) (starts_other text words a.objects.now a.n ks a.byte w.if-byte-eq123.false)
    ]
