-- `verdict_of` meets its contract: the verdict of the pair's cell. Assumes nothing.
use mathlib.Core.Path.{ap, ◌∙◌}
use Prim.Native.Nat.{ℕ}
use lib.ListN.{get_or}
use Rattle.areas.specs.Cells.{verd}
use Rattle.areas.proofs.verdict_of.Goals as goal

pub returns : goal.returns
returns c = c.verdict_at.ensures ∙ ap (λ (k : ℕ). verd (get_or c.args.cells.now k 0)) c.cell_of.ensures
