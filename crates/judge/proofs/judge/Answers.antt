-- `judge` meets its contract. Assumes nothing.
use Rattle.judge.proofs.judge.Goals as goal

pub returns : goal.returns
returns c = c.judge_by_record.ensures
