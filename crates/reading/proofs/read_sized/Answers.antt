-- `read_sized` meets its contract. Assumes nothing.
use mathlib.Core.Logic.{◌⊎◌, inl, inr, ⊎_elim}
use native.Mathlib.Omega.{arith}
use Rattle.reading.proofs.read_sized.Goals as goal

pub whole_as_slice-read_with : goal.whole_as_slice-read_with
whole_as_slice-read_with g c = omega arith

pub whole_as_slice-read_with-2 : goal.whole_as_slice-read_with-2
whole_as_slice-read_with-2 g c = ⊎_elim (λ e. omega arith) (λ e. omega arith) c.requires.ranges_long
