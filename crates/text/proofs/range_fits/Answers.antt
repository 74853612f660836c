-- `text::range_fits` meets its contract: in 64 bits the sum of two 32-bit numbers is exact.
-- Assumes nothing.
use mathlib.Core.Path.{refl}
use Rattle.text.specs.Part.{fits}
use Rattle.text.proofs.range_fits.Goals as goal

pub returns : goal.returns
unfolding fits
returns c = refl
