-- `verdict` meets its contract. Assumes nothing.
use Rattle.judge.proofs.Calls.{verdict_left}
use Rattle.judge.proofs.verdict.Goals as goal

pub returns : goal.returns
returns c = verdict_left _ _ _ _ _ c.judge_by_record.result c.judge_by_record.ensures
