-- `settle` meets its contract: whatever byte the cell was, it has room for a verdict, since it has none. Written into the list, the cell's number stays what it is. Assumes nothing.
use mathlib.Core.Path.{refl, ap, ◌∙◌}
use Prim.Native.Nat.{ℕ}
use native.Mathlib.Omega.{arith}
use lib.ListN.{get_or}
use Rattle.areas.specs.Cells.{verd}
use Rattle.areas.proofs.Cells.{settle_fits}
use Rattle.areas.proofs.settle.Goals as goal

pub overflow_add-cells : goal.overflow_add-cells
overflow_add-cells c =
    let e = c.cell_of-k.ensures in
    let free = ap (λ (k : ℕ). verd (get_or c.args.cells.now k 0)) e ∙ c.requires.unsettled in
    omega (arith, settle_fits _ c.args.ok free (omega (arith, c.slice_known-1.given c.cell_of-k.result)), c.settled_as.ensures)

pub returns : goal.returns
returns c =
    record {
      cell = rw (c.cell_of-k.ensures, c.settled_as.ensures);
      entry = c.enlist.ensures ∙ rw c.cell_of-k.ensures;
      one_more = refl;
    }
