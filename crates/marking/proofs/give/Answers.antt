-- `give` meets its contract. Assumes nothing.
use mathlib.Core.Path.{refl}
use native.Mathlib.Omega.{arith}
use borrow.Author.Tests.{not-true, not-false}
use Rattle.areas.specs.Cells.{pair_is}
use Rattle.areas.proofs.Writers.{marked_as, writes_row}
use Rattle.lent.specs.Lent.{first_kid, kid_count}
use Rattle.lent.specs.Reads.{lent_case}
use Rattle.lent.proofs.Reading.{row_low, kids_small}
use Rattle.lent.proofs.Marks.{merged_handed, marked_child, gives_all, gives_none}
use Rattle.marking.proofs.give.Goals as goal

pub returns-then-not-keeps : goal.returns-then-not-keeps
returns-then-not-keeps c =
    let T = lent_case c.args.lent.now in
    let p = pair_is c.args.p in
    let q = pair_is c.args.q in
    let cells = c.args.cells.now in
    gives_none T.m (first_kid T p) (kid_count T p) p.rule p.row q.row q.rule c.args.keeps cells (not-true _ c.if-not-keeps.true-raw)

pub children_of-kids-requires : goal.children_of-kids-requires
children_of-kids-requires c =
    let S = c.args.lent.now.sheets in (S.record_read.laid.formed, row_low S c.requires.inside)

pub add_marks-requires : goal.add_marks-requires
add_marks-requires c =
    let ts = c.args.lent.now.text.now in
    let K = c.children_of-kids.ensures in record {
      columns_in_cells = rw (c.schemas-m.ensures, K.first_is ts, K.count_is ts) c.requires.hands.writes;
      kids_end_fits = kids_small ts c.args.lent.now.sheets c.requires.inside K (omega arith);
    }

pub write_mark-requires : goal.write_mark-requires
write_mark-requires c =
    let z = c.requires.hands.child c.if-q-p.false in
    rw (c.schemas-m.ensures) (writes_row c.requires.hands.writes refl z.0 z.1)

pub returns-then-q-p : goal.returns-then-q-p
returns-then-q-p c =
    let T = lent_case c.args.lent.now in
    let p = pair_is c.args.p in
    let q = pair_is c.args.q in
    let cells = c.args.cells.now in
    let ts = c.args.lent.now.text.now in
    let K = c.children_of-kids.ensures in
    gives_all T.m (first_kid T p) (kid_count T p) p.rule p.row q.row q.rule c.args.keeps cells (not-false _ c.if-not-keeps.false-raw)
    (marked_as (rw (c.schemas-m.ensures, K.first_is ts, K.count_is ts) at c.add_marks.ensures) (λ k a b. merged_handed T.m p.row p.rule q.row q.rule cells k c.if-q-p.true))

pub returns-else-q-p : goal.returns-else-q-p
returns-else-q-p c =
    let T = lent_case c.args.lent.now in
    let p = pair_is c.args.p in
    let q = pair_is c.args.q in
    let cells = c.args.cells.now in
    let w = c.requires.hands in
    gives_all T.m (first_kid T p) (kid_count T p) p.rule p.row q.row q.rule c.args.keeps cells (not-false _ c.if-not-keeps.false-raw)
    (marked_child T.m p.row p.rule q.row q.rule (first_kid T p) (kid_count T p) w.writes.rule_in c.if-q-p.false (w.child c.if-q-p.false) (rw (c.schemas-m.ensures) at c.write_mark.ensures))
