-- `in_line` meets its contract. Assumes nothing.
use mathlib.Core.Path.{◌≡◌, refl}
use Prim.Native.Nat.{◌+◌, ◌<◌}
use native.Mathlib.Omega.{arith}
use Rattle.sheet.specs.declared.record.RecordRow.{RecordRow}
use Rattle.areas.specs.Cells.{pair_is}
use Rattle.lent.specs.Lent.{clause_at, before_of}
use Rattle.lent.specs.Reads.{lent_case}
use Rattle.lent.proofs.Reading.{clause_has}
use Rattle.progress.proofs.Turning.{standing_first}
use Rattle.lines.proofs.Lines.{line_aim, line_fewer, cells_room}
use Rattle.lines.proofs.in_line.Goals as goal

pub returns-then-at-eq0 : goal.returns-then-at-eq0
returns-then-at-eq0 c =
    let none : c.args.count + 0 ≡ c.args.count = omega arith in
    λ d A. rw none (standing_first c.requires.ready c.requires.unsettled_at_clause.0 d A)

pub plain_rows-n-requires : goal.plain_rows-n-requires
plain_rows-n-requires c =
    let R = c.requires.ready in
    let T = lent_case c.args.lent.now in
    let room = cells_room R in
    let some = c.if-at-eq0.false in
    let row : RecordRow = record { 0 = c.line-at.result.first } in
    let few : c.line-at.result.count < 4294967296 = omega (arith, c.line-at.ensures.rows_inside, R.fit.rows.few) in
    let Z = standing_first R c.requires.unsettled_at_clause.0 R.done R.areas in
    let has = clause_has c.args.lent.now.sheets R.inside c.requires.unsettled_at_clause.1 in
    let inside = (line_aim T (pair_is c.args.p) c.args.i c.line-at.ensures.in_line few {k = 0} (omega arith) {row = row} {rule = c.line-at.result.rule} (omega arith) refl Z has).inside in record {
      rows_inside = (c.line-at.ensures.rows_inside, inside.rule_in);
      table_in_cells = (room.0, room.1);
    }

pub settle_line-requires : goal.settle_line-requires
settle_line-requires c =
    let found = c.plain_rows-n.ensures in
    let T = lent_case c.args.lent.now in
    let p = pair_is c.args.p in
    let L = line_fewer {D = T.doc} {p = p} {before = before_of T p c.args.i} {c = clause_at T p c.args.i} found.0 c.line-at.ensures.in_line in record {
      ready = c.requires.ready;
      unsettled = c.requires.unsettled_at_clause;
      in_line = L;
      rows_pass = (found.1, omega (arith, found.0, c.line-at.ensures.rows_inside));
    }
