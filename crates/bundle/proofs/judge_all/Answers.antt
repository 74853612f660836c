-- `judge_all` replies as the judge answers, which never refuses here. Assumes nothing.
use native.Mathlib.Omega.{arith}
use Rattle.bundle.proofs.Replying.{judged_replies, never_refused}
use Rattle.bundle.proofs.judge_all.Goals as goal

pub returns-in_err-judged : goal.returns-in_err-judged
returns-in_err-judged c =
    absurd (never_refused _ _ _ _ _ _ _ _ c.requires _ _ c.in_err-judged.was c.judge.ensures)

pub returns : goal.returns
returns c =
    rw c.wide.ensures (judged_replies _ _ _ _ _ _ _ _ c.requires _ _ _ (record { cells_long = omega arith; list_long = omega arith }) c.in_ok-judged.ensures)
