-- `read` meets its contract. Assumes nothing.
use native.Mathlib.Omega.{arith}
use Rattle.reader.specs.Call.{too_long}
use Rattle.reading.proofs.read.Goals as goal

pub returns-in_default : goal.returns-in_default
returns-in_default c = too_long (omega arith)
