-- `close_row` meets its contract. Assumes nothing.
use mathlib.Core.Path.{sym, ◌∙◌}
use native.Mathlib.Omega.{arith}
use Rattle.setting.proofs.Cells.{owner_above}
use Rattle.writing.proofs.Areas.close_row.Goals as goal

pub returns-clause-written : goal.returns-clause-written
returns-clause-written c = rw (← (c.owner-owner.ensures ∙ sym (owner_above c.args.spot.level c.args.self.now.rows.now (λ z. omega (arith, c.requires.0))))) c.shut_row.ensures
