use mathlib.Core.Path.{◌≡◌, refl}
use Prim.Native.Nat.{◌-◌}
use native.Mathlib.Omega.{arith}
use Rattle.areas.proofs.Writers.{marked_none, marked_more, merged_later, one_row, writes_one}
use Rattle.columns.proofs.add_marks.Goals as goal

pub loop-i-init : goal.loop-i-init
loop-i-init c = marked_none _ _ _ _ _

pub overflow_add-kids : goal.overflow_add-kids
overflow_add-kids c = omega (arith, c.requires.kids_end_fits)

pub add_mark-requires : goal.add_mark-requires
add_mark-requires c = writes_one c.requires.columns_in_cells c.loop-i.invariant.len (omega arith) (omega arith)

pub loop-i-preserved : goal.loop-i-preserved
loop-i-preserved c =
    let w = c.requires.columns_in_cells in
    let p = c.loop-i.invariant in
    (marked_more p w.rule_in refl (merged_later p w.rule_in w.from_in refl) (one_row c.add_mark.ensures))

pub shape_of-cells : goal.shape_of-cells
shape_of-cells c = c.loop-i.invariant.len

pub returns : goal.returns
returns c = let e : c.loop-i.i ≡ c.args.kids.count = omega arith in rw e at c.loop-i.invariant
