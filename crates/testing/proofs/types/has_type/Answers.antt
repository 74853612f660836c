-- `has_type` meets its contract. Assumes nothing.
use mathlib.Core.Path.{refl}
use Rattle.meaning.specs.Tests.{has}
use Rattle.testing.proofs.types.has_type.Goals as goal

pub returns : goal.returns
unfolding has
returns c = refl
