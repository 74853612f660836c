-- `start` meets its contract. Assumes nothing.
use Rattle.lent.proofs.Reading.{rule_low}
use Rattle.stepping.proofs.start.Goals as goal

pub start_of-requires : goal.start_of-requires
start_of-requires c =
    let A = c.requires in
    let S = c.args.lent.now.sheets in
    (S.rules_read, rule_low S A.inside, A.clause_inside)
