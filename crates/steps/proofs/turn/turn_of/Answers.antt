-- `turn_of` meets its contract. Assumes nothing.
use Rattle.clause.specs.Read.{clause_in}
use Rattle.clause.proofs.Reading.{words_read}
use Rattle.steps.proofs.Turns.{applied_turned}
use Rattle.steps.proofs.turn.turn_of.Goals as goal

pub turn_in-requires : goal.turn_in-requires
turn_in-requires c =
    let asked = c.requires in record {
      turn_asked = rw asked.row_is at asked;
      clause_read = words_read asked.rules_read asked.rule_in asked.clause_inside asked.row_is c.applied_by-clause.ensures;
    }

pub returns : goal.returns
returns c =
    let asked = c.requires in
    let read = words_read asked.rules_read asked.rule_in asked.clause_inside asked.row_is c.applied_by-clause.ensures in
    applied_turned (clause_in c.args.rules.now c.args.rule_text.now c.args.p.rule.0 c.args.i) (rw (← read.means) c.turn_in.ensures)
