-- `line_of` meets its contract. Assumes nothing.
use Rattle.clause.specs.Read.{clause_in}
use Rattle.clause.proofs.Reading.{words_read}
use Rattle.line.proofs.Lines.{applied_lined}
use Rattle.line.proofs.line_of.Goals as goal

pub returns : goal.returns
returns c =
    let r = c.line_in.result in record {
      lined_in = λ ts rs us form asked.
          let read = words_read asked.rules_read asked.rule_in asked.clause_inside asked.row_is c.applied_by-clause.ensures in
          applied_lined r.first r.count r.rule.0 (clause_in rs us c.args.p.rule.0 c.args.i) (rw (← read.means) (c.line_in.ensures.by_index ts rs us form (rw asked.row_is at asked) read));
      rows_inside = c.line_in.ensures.count_bound;
    }
