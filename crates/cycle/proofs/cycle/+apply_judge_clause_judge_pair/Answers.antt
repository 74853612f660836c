use mathlib.Core.Path.{ap, ◌∙◌, sym, refl}
use Prim.Native.Nat.{ℕ}
use native.Mathlib.Omega.{arith}
use Rattle.areas.specs.Cells.{pair_is, cell_at}
use Rattle.lent.proofs.Reading.{clauses_many, reads_clause, lt_by, clause_has}
use Rattle.progress.proofs.Claused.{known, unsettled_by, cells_kept, list_kept, claused_more, claused_next, claused_shut, claused_end}
use Rattle.progress.proofs.Turning.{cell_asks, standing_asks, standing_turn, standing_count, standing_cells, standing_list, turning_low, turning_ahead, turning_aim, turning_ready, turning_cell, turning_hands, turning_more, turning_end, falls_by}
use Rattle.progress.proofs.Testing.{passes_many, told_open, told_end, claused_test, claused_first, applies_lent, applying_by, tries_by}
use Rattle.lent.specs.Lent.{clause_at}
use Rattle.lent.specs.Reads.{lent_case}
use Rattle.progress.proofs.Going.{going_open, going_ready, going_unsettled, going_writes}
use Rattle.progress.proofs.Named.{claused_named}
use Rattle.cycle.proofs.cycle.+apply_judge_clause_judge_pair.Goals.{judge_pair-then-applies, judge_pair-else-applies}
use Rattle.cycle.proofs.cycle.+apply_judge_clause_judge_pair.Goals as goal

pub apply-verdict_of-requires : goal.apply-verdict_of-requires
apply-verdict_of-requires t c =
    let R = c.requires.ready in
    cell_asks R.fit R.inside R.areas

pub apply-returns-then-verdict_of-ne0 : goal.apply-returns-then-verdict_of-ne0
apply-returns-then-verdict_of-ne0 t c =
    known c.requires.ready c.verdict_of.ensures (λ z. omega (arith, c.if-verdict_of-ne0.true))

pub apply-clauses_of-many-requires : goal.apply-clauses_of-many-requires
apply-clauses_of-many-requires t c =
    c.requires.ready.inside.rule_in

pub apply-plain-passed-requires : goal.apply-plain-passed-requires
apply-plain-passed-requires t c = record {
  reads_all_clauses = (c.requires.ready.inside, c.clauses_of-many.ensures);
  unsettled = (unsettled_by _ _ _ c.verdict_of.ensures c.if-verdict_of-ne0.false);
}

pub apply-settle-requires : goal.apply-settle-requires
apply-settle-requires t c =
    told_open c.requires.ready (unsettled_by _ _ _ c.verdict_of.ensures c.if-verdict_of-ne0.false) c.plain-passed.ensures (ap (λ (k : ℕ). cell_at k (pair_is c.args.p)) (c.schemas.ensures))

pub apply-shape_of-cells-then-passed-many : goal.apply-shape_of-cells-then-passed-many
apply-shape_of-cells-then-passed-many t c =
    c.settle.auto.cells

pub apply-shape_of-list-then-passed-many : goal.apply-shape_of-list-then-passed-many
apply-shape_of-list-then-passed-many t c =
    c.settle.auto.list

pub apply-returns-then-passed-many : goal.apply-returns-then-passed-many
apply-returns-then-passed-many t c =
    let R = c.requires.ready in
    told_end R (unsettled_by _ _ _ c.verdict_of.ensures c.if-verdict_of-ne0.false) c.plain-passed.ensures (clauses_many c.args.lent.now.sheets R.inside c.clauses_of-many.ensures) c.if-passed-many.true (ap (λ (k : ℕ). cell_at k (pair_is c.args.p)) (c.schemas.ensures)) c.settle.ensures

pub apply-judge_pair-requires : goal.apply-judge_pair-requires
apply-judge_pair-requires t c =
    (omega arith, (c.requires.ready, (unsettled_by _ _ _ c.verdict_of.ensures c.if-verdict_of-ne0.false, passes_many c.clauses_of-many.ensures c.plain-passed.ensures)))

pub apply-shape_of-cells : goal.apply-shape_of-cells
apply-shape_of-cells t c =
    let R = c.requires.ready in
    cells_kept R.areas (c.judge_pair.ensures.areas R.done R.areas)

pub apply-shape_of-list : goal.apply-shape_of-list
apply-shape_of-list t c =
    let R = c.requires.ready in
    list_kept R.areas (c.judge_pair.ensures.areas R.done R.areas)

pub apply-returns : goal.apply-returns
apply-returns t c =
    c.judge_pair.ensures

pub judge_pair-clauses_of-many-requires : goal.judge_pair-clauses_of-many-requires
judge_pair-clauses_of-many-requires t c =
    c.requires.ready.inside.rule_in

pub judge_pair-loop-i-init : goal.judge_pair-loop-i-init
judge_pair-loop-i-init t c =
    claused_first c.requires.ready c.requires.unsettled (passes_many (sym c.clauses_of-many.ensures) c.requires.passes_first)

pub judge_pair-clause_row-row-requires : goal.judge_pair-clause_row-row-requires
judge_pair-clause_row-row-requires t c =
    reads_clause c.requires.ready.inside (lt_by c.loop-i-test.true c.clauses_of-many.ensures)

pub judge_pair-judge_clause-d-requires : goal.judge_pair-judge_clause-d-requires
judge_pair-judge_clause-d-requires t c =
    let asked = c.requires in
    let R = asked.ready in
    let L = c.loop-i.invariant R.done R.areas in
    let many = c.clauses_of-many.ensures in
    let row = c.clause_row-row.ensures in
    let low = lt_by c.loop-i-test.true many in
    let applied = applying_by _ (sym (applies_lent c.args.lent.now R.inside low row c.applies.ensures) ∙ c.if-applies.true) in
    let named = claused_named L c.loop-i-test.true (clauses_many c.args.lent.now.sheets R.inside many) in
    (omega arith, (going_ready L.claused.going, (going_unsettled L.claused.going, ((low, applied, named), row))))

pub judge_pair-holds-ok-requires : goal.judge_pair-holds-ok-requires
judge_pair-holds-ok-requires t c =
    let R = c.requires.ready in record {
      reads_clause = reads_clause R.inside (lt_by c.loop-i-test.true c.clauses_of-many.ensures);
      unsettled = going_unsettled (c.loop-i.invariant R.done R.areas).claused.going;
    }

pub judge_pair-next_clause-i-requires : goal.judge_pair-next_clause-i-requires
judge_pair-next_clause-i-requires t c =
    c.loop-i-test.true

pub judge_pair-loop-i-smaller : goal.judge_pair-loop-i-smaller
judge_pair-loop-i-smaller t c =
    let h = c.loop-i-test.true in
    let next = c.next_clause-i.ensures.onward_within_many in
    omega (arith, next.0, next.1)

pub judge_pair-loop-i-preserved : goal.judge_pair-loop-i-preserved
judge_pair-loop-i-preserved t c =
    let T = lent_case c.args.lent.now in
    let h = c.loop-i-test.true in
    let told = applies_lent c.args.lent.now c.requires.ready.inside (lt_by h c.clauses_of-many.ensures) c.clause_row-row.ensures c.applies.ensures in
    λ d A.
    let L = c.loop-i.invariant d A in
    claused_next
    (elim c.if-applies.branch [
      | judge_pair-then-applies w ↦ rw (w.cells-is, w.list-is, w.now-is) (claused_more L.claused (L.unstopped h) w.judge_clause-d.ensures w.ok-is)
      | judge_pair-else-applies w ↦ rw (w.cells-is, w.list-is, w.now-is) (claused_test L.claused (L.unstopped h) (tries_by T.doc c.args.p.row.0 (clause_at T (pair_is c.args.p) c.loop-i.i) (sym told ∙ w.if-applies.false) w.holds-ok.ensures) w.ok-is)
    ])
    h c.next_clause-i.ensures.next_or_end

pub judge_pair-shut-requires : goal.judge_pair-shut-requires
judge_pair-shut-requires t c =
    let R = c.requires.ready in record {
      inside = R.inside;
      writes_marks = going_writes (c.loop-i.invariant R.done R.areas).claused.going _ R.inside.rule_in;
    }

pub judge_pair-settle-requires : goal.judge_pair-settle-requires
judge_pair-settle-requires t c =
    let R = c.requires.ready in
    going_open (claused_shut (c.loop-i.invariant R.done R.areas).claused c.shut.ensures) (ap (λ (k : ℕ). cell_at k (pair_is c.args.p)) (c.schemas.ensures))

pub judge_pair-shape_of-cells : goal.judge_pair-shape_of-cells
judge_pair-shape_of-cells t c =
    let R = c.requires.ready in
    c.settle.auto.cells ∙ c.shut.ensures.len ∙ cells_kept R.areas (c.loop-i.invariant R.done R.areas).claused.going.areas

pub judge_pair-shape_of-list : goal.judge_pair-shape_of-list
judge_pair-shape_of-list t c =
    let R = c.requires.ready in
    c.settle.auto.list ∙ list_kept R.areas (c.loop-i.invariant R.done R.areas).claused.going.areas

pub judge_pair-returns : goal.judge_pair-returns
judge_pair-returns t c =
    let R = c.requires.ready in
    claused_end (clauses_many c.args.lent.now.sheets R.inside c.clauses_of-many.ensures) c.loop-i-test.false R c.requires.unsettled c.shut.ensures (ap (λ (k : ℕ). cell_at k (pair_is c.args.p)) (c.schemas.ensures)) c.settle.ensures c.loop-i.invariant

pub judge_clause-start-from-requires : goal.judge_clause-start-from-requires
judge_clause-start-from-requires t c =
    reads_clause c.requires.ready.inside c.requires.i_bound.0

pub judge_clause-in_line-x-requires : goal.judge_clause-in_line-x-requires
judge_clause-in_line-x-requires t c =
    let asked = c.requires in record {
      ready = asked.ready;
      unsettled_at_clause = (asked.unsettled, asked.i_bound.0);
      row_read_and_started = (asked.row_value, c.start-from.ensures);
    }

pub judge_clause-overflow_add-now : goal.judge_clause-overflow_add-now
judge_clause-overflow_add-now t c =
    let R = c.requires.ready in
    omega (arith, c.wide.ensures, standing_count (c.in_line-x.ensures R.done R.areas))

pub judge_clause-loop-at-init : goal.judge_clause-loop-at-init
judge_clause-loop-at-init t c =
    λ began list_began stands d A. rw c.wide.ensures (stands d A)

pub judge_clause-turn-requires : goal.judge_clause-turn-requires
judge_clause-turn-requires t c =
    let asked = c.requires in record {
      reads_clause = (reads_clause asked.ready.inside asked.i_bound.0, asked.row_value);
      turns = standing_asks (c.loop-at.invariant _ _ c.in_line-x.ensures asked.ready.done asked.ready.areas) asked.i_bound.2 c.start-from.ensures;
    }

pub judge_clause-finish-requires : goal.judge_clause-finish-requires
judge_clause-finish-requires t c =
    (reads_clause c.requires.ready.inside c.requires.i_bound.0, c.requires.row_value, c.requires.i_bound.1)

pub judge_clause-shape_of-cells : goal.judge_clause-shape_of-cells
judge_clause-shape_of-cells t c =
    let R = c.requires.ready in
    standing_cells (c.loop-at.invariant _ _ c.in_line-x.ensures R.done R.areas) R.areas

pub judge_clause-shape_of-list : goal.judge_clause-shape_of-list
judge_clause-shape_of-list t c =
    let R = c.requires.ready in
    standing_list (c.loop-at.invariant _ _ c.in_line-x.ensures R.done R.areas)

pub judge_clause-returns : goal.judge_clause-returns
judge_clause-returns t c =
    turning_end c.requires.ready (λ d A. standing_turn (c.loop-at.invariant _ _ c.in_line-x.ensures d A) c.turn.ensures) c.in_default.is c.finish.ensures refl

pub judge_clause-apply-now-requires : goal.judge_clause-apply-now-requires
judge_clause-apply-now-requires t c =
    let R = c.requires.ready in
    let W = standing_turn (c.loop-at.invariant _ _ c.in_line-x.ensures R.done R.areas) c.turn.ensures in
    let go = c.in-Some.is in
    let has = clause_has c.args.lent.now.sheets R.inside c.requires.i_bound.0 in
    (falls_by c.decreases (turning_aim W go has), turning_ready W go has)

pub judge_clause-verdict_of-held-requires : goal.judge_clause-verdict_of-held-requires
judge_clause-verdict_of-held-requires t c =
    let R = c.requires.ready in
    let W = standing_turn (c.loop-at.invariant _ _ c.in_line-x.ensures R.done R.areas) c.turn.ensures in
    let go = c.in-Some.is in
    let has = clause_has c.args.lent.now.sheets R.inside c.requires.i_bound.0 in
    turning_cell W go has c.apply-now.ensures

pub judge_clause-moved-tally-requires : goal.judge_clause-moved-tally-requires
judge_clause-moved-tally-requires t c =
    let R = c.requires.ready in
    let W = standing_turn (c.loop-at.invariant _ _ c.in_line-x.ensures R.done R.areas) c.turn.ensures in
    let go = c.in-Some.is in
    let h = turning_low W go in
    omega (arith, h.0, h.1)

pub judge_clause-give-requires : goal.judge_clause-give-requires
judge_clause-give-requires t c =
    let R = c.requires.ready in
    let W = standing_turn (c.loop-at.invariant _ _ c.in_line-x.ensures R.done R.areas) c.turn.ensures in
    let go = c.in-Some.is in
    let has = clause_has c.args.lent.now.sheets R.inside c.requires.i_bound.0 in record {
      inside = R.inside;
      hands = turning_hands W go has c.apply-now.ensures;
    }

pub judge_clause-next_step-x-requires : goal.judge_clause-next_step-x-requires
judge_clause-next_step-x-requires t c =
    let R = c.requires.ready in
    let W = standing_turn (c.loop-at.invariant _ _ c.in_line-x.ensures R.done R.areas) c.turn.ensures in
    let go = c.in-Some.is in
    (reads_clause R.inside c.requires.i_bound.0, c.requires.row_value, (turning_low W go).0)

pub judge_clause-loop-at-smaller : goal.judge_clause-loop-at-smaller
judge_clause-loop-at-smaller t c =
    let R = c.requires.ready in
    let W = standing_turn (c.loop-at.invariant _ _ c.in_line-x.ensures R.done R.areas) c.turn.ensures in
    let go = c.in-Some.is in
    let ahead = (c.turn.ensures.goes go).ahead in
    let next = turning_ahead W go c.moved-tally.result c.next_step-x.ensures in
    omega (arith, next.0, next.1)

pub judge_clause-loop-at-preserved : goal.judge_clause-loop-at-preserved
judge_clause-loop-at-preserved t c =
    let R = c.requires.ready in
    let go = c.in-Some.is in
    let has = clause_has c.args.lent.now.sheets R.inside c.requires.i_bound.0 in
    λ began list_began stands d A.
    turning_more (standing_turn (c.loop-at.invariant began list_began stands d A) c.turn.ensures) go has c.apply-now.ensures c.verdict_of-held.ensures c.moved-tally.ensures (rw c.keeps.ensures at c.give.ensures) c.next_step-x.ensures
