-- `holds` meets its contract. Assumes nothing.
use Rattle.lent.proofs.Reading.{row_low, rule_low, schemas_are}
use Rattle.trying.proofs.holds.Goals as goal

pub passes_clause-requires : goal.passes_clause-requires
passes_clause-requires c =
    let A = c.requires.reads_clause in
    let S = c.args.lent.now.sheets in record {
      record_read = (S.record_read, row_low S A.inside);
      rules_read = (S.rules_read, rule_low S A.inside, A.clause_inside);
      unsettled = rw (schemas_are S) c.requires.unsettled;
    }
