use mathlib.Core.Path.{◌≡◌, sym, ap, ◌∙◌}
use mathlib.Core.List.{List}
use Prim.Native.Nat.{ℕ, ◌*◌, ◌≤◌}
use native.Mathlib.Omega.{arith}
use lib.ListN.{length}
use Rattle.meaning.specs.Answer.{list_room}
use Rattle.lent.specs.Lent.{Case}
use Rattle.run.specs.Whole.{Roomy}
use lib.Seq.{length-take-le}
use Rattle.run.proofs.Whole.{part_exact, part_judged}
use Rattle.lent.proofs.Reading.{size_is, size_fits}
use Rattle.run.proofs.run.Goals as goal

-- the places that are taken of the list
part_room : {T : Case} {cells list : List ℕ} {k q : ℕ} → Roomy T cells list → k ≡ T.n * T.m → q ≡ list_room T.way k → q ≤ length list
part_room {T} R e f = omega (arith, R.list_long, f ∙ ap (list_room T.way) e)

pub overflow_mul-k : goal.overflow_mul-k
overflow_mul-k c =
    omega (arith, size_fits c.requires.sheets_read c.requires.roomy.fit c.wide.ensures c.wide-2.ensures)

pub slice_bounds-run_exact-end : goal.slice_bounds-run_exact-end
slice_bounds-run_exact-end c =
    let e = (size_is c.requires.sheets_read c.wide.ensures c.wide-2.ensures) in let h = c.requires.roomy.cells_long in omega arith

pub slice_bounds-run_exact-end-2 : goal.slice_bounds-run_exact-end-2
slice_bounds-run_exact-end-2 c =
    sym (length-take-le _ _ (let e = (size_is c.requires.sheets_read c.wide.ensures c.wide-2.ensures) in let h = c.requires.roomy.cells_long in omega arith))

pub slice_bounds-run_exact-end-3 : goal.slice_bounds-run_exact-end-3
slice_bounds-run_exact-end-3 c =
    part_room c.requires.roomy (size_is c.requires.sheets_read c.wide.ensures c.wide-2.ensures) c.list_room.ensures

pub slice_bounds-run_exact-end-4 : goal.slice_bounds-run_exact-end-4
slice_bounds-run_exact-end-4 c =
    sym (length-take-le _ _ (part_room c.requires.roomy (size_is c.requires.sheets_read c.wide.ensures c.wide-2.ensures) c.list_room.ensures))

pub run_exact-requires : goal.run_exact-requires
run_exact-requires c =
    part_exact (size_is c.requires.sheets_read c.wide.ensures c.wide-2.ensures) c.list_room.ensures c.requires.roomy

pub returns : goal.returns
returns c =
    part_judged c.run_exact.result (size_is c.requires.sheets_read c.wide.ensures c.wide-2.ensures) c.list_room.ensures c.requires.roomy c.run_exact.ensures
