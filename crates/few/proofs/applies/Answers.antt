-- `applies` meets its contract: by its code a clause applies schemas or is a test. Assumes nothing.
use mathlib.Core.Path.{refl}
use Rattle.few.proofs.Asking.{applies_by}
use Rattle.few.proofs.applies.Goals as goal

pub returns : goal.returns
returns c = applies_by refl
