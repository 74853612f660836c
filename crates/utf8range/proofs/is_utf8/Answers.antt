use native.Mathlib.Omega.{arith}
use Rattle.text.proofs.Ranges.{fits_le}
use Rattle.utf8range.proofs.Carrying.{begin, carry, done}
use Rattle.utf8range.proofs.is_utf8.Goals as goal

pub ascii_run-at-requires : goal.ascii_run-at-requires
ascii_run-at-requires c = omega (arith, c.end-end.ensures, fits_le _ _ c.requires)

pub loop-at-init : goal.loop-at-init
loop-at-init c = (c.end-end.ensures, rw c.waiting-s.ensures (begin _ _ _ c.requires (rw c.end-end.ensures at c.ascii_run-at.ensures)))

pub loop-at-preserved : goal.loop-at-preserved
loop-at-preserved c =
    let inv = c.loop-at.invariant in
    (inv.0, rw c.step-s.ensures (carry inv.1 _ (omega arith) (rw (inv.0, c.step-s.ensures) at c.onward-at.ensures)))

pub returns : goal.returns
returns c = done c.loop-at.invariant.1 (omega arith)
