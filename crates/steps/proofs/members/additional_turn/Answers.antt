-- `additional_turn` meets its contract, by the marks and by the names. Assumes nothing.
use native.Mathlib.Omega.{arith}
use Rattle.sheet.specs.Record.{doc_of}
use Rattle.areas.specs.Cells.{column}
use Rattle.clause.specs.Read.{before_in}
use Rattle.steps.proofs.Turns.{marked_turned}
use Rattle.line.proofs.Counted.{members_some}
use Rattle.steps.proofs.members.additional_turn.Goals as goal

pub members_in-many-requires : goal.members_in-many-requires
members_in-many-requires c =
    (c.requires.record_read_table_in_cells.0.laid, c.requires.record_read_table_in_cells.1)

pub fresh_turn-requires : goal.fresh_turn-requires
fresh_turn-requires c = record {
  laid_many_children = (c.requires.record_read_table_in_cells.0.laid, c.requires.record_read_table_in_cells.1, λ ts. omega (arith, c.members_in-many.ensures ts, members_some ((doc_of c.args.«record».now ts).value c.args.p.row.0)));
  table_in_cells = (c.requires.record_read_table_in_cells.2, c.requires.rules_read.1);
}

pub returns-then-from-eq-BY_MARKS : goal.returns-then-from-eq-BY_MARKS
returns-then-from-eq-BY_MARKS c =
    let ts = c.args.text.now in
    λ t. marked_turned c.args.rule.0 (c.requires.names_marked c.if-from-eq-BY_MARKS.true) (c.fresh_turn.ensures.fresh_members ts (c.members_in-many.ensures ts) t (before_in c.args.rules.now c.args.rule_text.now c.args.p.rule.0 c.args.i))

pub other_turn-requires : goal.other_turn-requires
other_turn-requires c = record {
  record_read = (c.requires.record_read_table_in_cells.0, c.requires.record_read_table_in_cells.1);
  rules_read = c.requires.rules_read;
  names_from = c.requires.names_from c.if-from-eq-BY_MARKS.false;
}

pub returns : goal.returns
returns c =
    λ t. c.other_turn.ensures (column c.args.rule_form.m c.args.cells.now c.args.p.rule.0) t
