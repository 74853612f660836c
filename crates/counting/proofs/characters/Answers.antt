use mathlib.Core.Path.{◌∙◌}
use native.Mathlib.Omega.{arith}
use Rattle.text.proofs.Ranges.{fits_le}
use Rattle.counting.proofs.Counted.{count_is}
use Rattle.counting.proofs.Passing.{begin, pass, done, lead_size}
use Rattle.counting.proofs.characters.Goals as goal

pub ascii_run-at-requires : goal.ascii_run-at-requires
ascii_run-at-requires c = omega (arith, c.end-end.ensures, fits_le _ _ c.requires)

pub loop-at-init : goal.loop-at-init
loop-at-init c = begin _ _ _ c.requires (rw c.end-end.ensures at c.ascii_run-at.ensures)

pub loop-at-smaller : goal.loop-at-smaller
loop-at-smaller c = let w = lead_size _ _ c.lead_length.ensures in omega arith

pub loop-at-preserved : goal.loop-at-preserved
loop-at-preserved c = pass c.loop-at.invariant _ _ c.lead_length.ensures (omega arith) (rw c.end-end.ensures at c.ascii_run-at-in-loop-at.ensures)

pub returns : goal.returns
returns c = let e = done c.loop-at.invariant (omega arith) in record {
  counted = e;
  meant = λ u. e ∙ count_is u;
}
