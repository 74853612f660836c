-- `plain` meets its contract. Assumes nothing.
use Rattle.lent.proofs.Reading.{row_low, rule_low, schemas_are}
use Rattle.trying.proofs.plain.Goals as goal

pub plainly_passed-requires : goal.plainly_passed-requires
plainly_passed-requires c =
    let A = c.requires.reads_all_clauses.0 in
    let S = c.args.lent.now.sheets in record {
      record_read = (S.record_read, row_low S A);
      rules_read = (S.rules_read, rule_low S A, c.requires.reads_all_clauses.1);
      unsettled = rw (schemas_are S) c.requires.unsettled;
    }
