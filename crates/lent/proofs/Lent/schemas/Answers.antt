-- `schemas` meets its contract. Assumes nothing.
use mathlib.Core.Path.{◌∙◌}
use Rattle.lent.proofs.Reading.{schemas_are}
use Rattle.lent.proofs.Lent.schemas.Goals as goal

pub returns : goal.returns
returns c = c.wide.ensures ∙ schemas_are c.args.self.now.sheets
