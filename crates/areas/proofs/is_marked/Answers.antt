-- `is_marked` meets its contract: the mark of the pair's cell. Assumes nothing.
use mathlib.Core.Path.{ap, ◌∙◌}
use Prim.Native.Nat.{ℕ}
use lib.ListN.{get_or}
use Rattle.areas.specs.Cells.{bit}
use Rattle.areas.proofs.is_marked.Goals as goal

pub returns : goal.returns
returns c = c.bit_at.ensures ∙ ap (λ (k : ℕ). bit (get_or c.args.cells.now k 0)) c.cell_of.ensures
