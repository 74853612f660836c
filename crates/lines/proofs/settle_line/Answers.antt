use mathlib.Core.Path.{◌≡◌, refl, ap, subst}
use Prim.Native.Nat.{ℕ, ◌+◌, ◌<◌}
use native.Mathlib.Omega.{arith}
use Rattle.areas.specs.Cells.{pair_is, cell_at}
use Rattle.lent.specs.Reads.{lent_case}
use Rattle.lent.proofs.Reading.{clause_has, clauses_many}
use Rattle.progress.specs.Steps.{Standing}
use Rattle.progress.proofs.Turning.{standing_first, standing_cells, standing_list}
use Rattle.lines.proofs.Lines.{line_aim, line_open, line_hands, line_more, line_unsettled}
use Rattle.lines.proofs.settle_line.Goals as goal

pub loop-k-init : goal.loop-k-init
loop-k-init c =
    let rows = c.requires.rows_pass.0 in
    (omega arith, standing_first c.requires.ready c.requires.unsettled.0, λ j a b. rows.unsettled j b)

pub overflow_add-row : goal.overflow_add-row
overflow_add-row c =
    omega (arith, c.requires.rows_pass.1, c.requires.ready.fit.rows.few, c.loop-k-test.true)

pub settle-now-requires : goal.settle-now-requires
settle-now-requires c =
    let loop = c.loop-k in
    let T = lent_case c.args.lent.now in
    let p = pair_is c.args.p in
    let R = c.requires.ready in
    let L = c.requires.in_line in
    let rows = c.requires.rows_pass in
    let few : c.args.n < 4294967296 = omega (arith, rows.1, R.fit.rows.few) in
    let low = c.loop-k-test.true in
    let has = clause_has c.args.lent.now.sheets R.inside c.requires.unsettled.1 in
    let cell = ap (λ (m : ℕ). cell_at m (record { row = c.args.q.row.0 + loop.k; rule = c.args.q.rule.0 })) (c.schemas-m.ensures) in
    let unsettled = loop.invariant.2 loop.k (omega arith) low in
    line_open T p c.args.i L few low refl refl (loop.invariant.1 R.done R.areas) has unsettled (rows.0.passed loop.k low) cell

pub give-requires : goal.give-requires
give-requires c =
    let loop = c.loop-k in
    let T = lent_case c.args.lent.now in
    let p = pair_is c.args.p in
    let R = c.requires.ready in
    let L = c.requires.in_line in
    let rows = c.requires.rows_pass in
    let few : c.args.n < 4294967296 = omega (arith, rows.1, R.fit.rows.few) in
    let low = c.loop-k-test.true in
    let has = clause_has c.args.lent.now.sheets R.inside c.requires.unsettled.1 in
    let cell = ap (λ (m : ℕ). cell_at m (record { row = c.args.q.row.0 + loop.k; rule = c.args.q.rule.0 })) (c.schemas-m.ensures) in
    let unsettled = loop.invariant.2 loop.k (omega arith) low in
    let Z = loop.invariant.1 R.done R.areas in
    let inside = (line_aim T p c.args.i L few low refl refl Z has).inside in
    let all = clauses_many c.args.lent.now.sheets inside refl in record {
      inside = R.inside;
      hands = line_hands T p c.args.i L few low refl refl Z has unsettled (rows.0.passed loop.k low) cell all c.settle-now.ensures;
    }

pub loop-k-preserved : goal.loop-k-preserved
loop-k-preserved c =
    let loop = c.loop-k in
    let T = lent_case c.args.lent.now in
    let p = pair_is c.args.p in
    let R = c.requires.ready in
    let L = c.requires.in_line in
    let rows = c.requires.rows_pass in
    let few : c.args.n < 4294967296 = omega (arith, rows.1, R.fit.rows.few) in
    let low = c.loop-k-test.true in
    let has = clause_has c.args.lent.now.sheets R.inside c.requires.unsettled.1 in
    let cell = ap (λ (m : ℕ). cell_at m (record { row = c.args.q.row.0 + loop.k; rule = c.args.q.rule.0 })) (c.schemas-m.ensures) in
    let unsettled = loop.invariant.2 loop.k (omega arith) low in
    let settled = c.settle-now.ensures in
    let given = c.give.ensures in
    let passed = rows.0.passed loop.k low in
    let Z = loop.invariant.1 R.done R.areas in
    let inside = (line_aim T p c.args.i L few low refl refl Z has).inside in
    let all = clauses_many c.args.lent.now.sheets inside refl in (
      omega (arith, settled.one_more, loop.invariant.0),
      λ d A. line_more T p c.args.i L few low refl refl (loop.invariant.1 d A) has unsettled passed cell all settled given,
      λ j a b. line_unsettled T p c.args.i L few low refl refl Z has unsettled passed cell all settled given j (omega arith) (loop.invariant.2 j (omega arith) b),
    )

pub shape_of-cells : goal.shape_of-cells
shape_of-cells c =
    let R = c.requires.ready in
    standing_cells (c.loop-k.invariant.1 R.done R.areas) R.areas

pub shape_of-list : goal.shape_of-list
shape_of-list c =
    let R = c.requires.ready in
    standing_list (c.loop-k.invariant.1 R.done R.areas)

pub returns : goal.returns
returns c =
    let loop = c.loop-k in
    let past = c.loop-k-test.false in
    let end : loop.k ≡ c.args.n = omega (arith, loop.auto.k-end) in
    let now : loop.now ≡ c.args.count + c.args.n = omega (arith, loop.invariant.0) in
    let T = lent_case c.args.lent.now in
    λ d A.
    subst (λ (x : ℕ). Standing T (pair_is c.args.p) c.args.i d c.args.cells.now c.args.list.now c.args.n loop.cells loop.list x 0) now
    (subst (λ (k : ℕ). Standing T (pair_is c.args.p) c.args.i d c.args.cells.now c.args.list.now k loop.cells loop.list loop.now 0) end (loop.invariant.1 d A))
