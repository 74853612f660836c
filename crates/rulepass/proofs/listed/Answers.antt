-- `listed` meets its contract. Assumes nothing.
use mathlib.Core.Path.{refl}
use Rattle.rulepass.proofs.listed.Goals as goal

pub returns : goal.returns
returns c = rw (c.wide.ensures, c.wide-2.ensures, c.wide-3.ensures) refl
