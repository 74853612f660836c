-- `judge_by_record` meets its contract. Assumes nothing.
use mathlib.Core.Path.{sym, ap, ◌∙◌}
use Rattle.std.proofs.lemmas.Result.{err_from_is_err_and}
use Rattle.sheet.specs.Refusals.{outcome_of}
use Rattle.meaning.proofs.Answers.{record_refused}
use Rattle.judge.proofs.judge_by_record.Goals as goal

pub judge_checked-requires : goal.judge_checked-requires
judge_checked-requires c = record {
  record_accepted = sym c.check_record.ensures ∙ ap outcome_of c.in_ok-n.was;
  checked_is_rules_outcome = c.check_rules-checked.ensures;
}

pub returns-in_err-n : goal.returns-in_err-n
returns-in_err-n c =
    let p = err_from_is_err_and c.from_residual.result c.from_residual.ensures.1 in
    rw (p.1, p.2) (sym (record_refused _ _ _ _ _ _ _ _ _ (sym c.check_record.ensures ∙ ap outcome_of c.in_err-n.was)))
