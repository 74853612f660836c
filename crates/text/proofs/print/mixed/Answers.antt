use mathlib.Core.Path.{refl}
use Rattle.text.specs.Fingerprint.{mixed_with}
use Rattle.text.proofs.print.mixed.Goals as goal

pub returns : goal.returns
unfolding mixed_with
returns c = refl
