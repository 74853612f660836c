-- `turn` meets its contract. Assumes nothing.
use Rattle.lent.proofs.Reading.{row_low, rule_low, rows_are, schemas_are}
use Rattle.stepping.proofs.turn.Goals as goal

pub turn_of-requires : goal.turn_of-requires
turn_of-requires c =
    let A = c.requires.reads_clause.0 in
    let B = c.requires.turns in
    let S = c.args.lent.now.sheets in
    record {
      record_read = S.record_read;
      row_in = row_low S A.inside;
      rules_read = S.rules_read;
      rule_in = rule_low S A.inside;
      clause_inside = A.clause_inside;
      row_is = c.requires.reads_clause.1;
      started = B.started;
      marked = rw (schemas_are S) B.marked;
      room = rw (rows_are S, schemas_are S) B.room;
      unsettled = rw (schemas_are S) B.unsettled;
    }

pub returns : goal.returns
returns c =
    let A = c.requires.reads_clause.0 in
    let S = c.args.lent.now.sheets in
    rw (schemas_are S) at c.turn_of.ensures
