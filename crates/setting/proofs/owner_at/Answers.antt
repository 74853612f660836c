-- `owner_at` meets its contract.
-- Assumes nothing.
use native.Mathlib.Omega.{arith}
use mathlib.Core.Path.{◌∙◌}
use Rattle.setting.proofs.Cells.{owner_root, owner_above}
use Rattle.setting.proofs.owner_at.Goals as goal

pub returns-then-k-eq0 : goal.returns-then-k-eq0
returns-then-k-eq0 c = let a = c.args in owner_root a.k a.rows.now (omega arith)

pub returns : goal.returns
returns c = let a = c.args in c.saturating_sub.ensures ∙ owner_above a.k a.rows.now c.if-k-eq0.false
