-- `judge_checked` meets its contract. Assumes nothing.
use mathlib.Core.Path.{sym, ap, ◌∙◌}
use Rattle.std.proofs.lemmas.Result.{err_from_is_err_and}
use Rattle.sheet.specs.Refusals.{outcome_of}
use Rattle.meaning.proofs.Answers.{rules_refused}
use Rattle.judge.proofs.judge_checked.Goals as goal

pub judge_in_areas-requires : goal.judge_in_areas-requires
judge_in_areas-requires c = record {
  text_value = c.requires.record_accepted;
  rule_text_value = sym c.requires.checked_is_rules_outcome ∙ ap outcome_of c.in_ok-m.was;
}

pub returns-in_err-m : goal.returns-in_err-m
returns-in_err-m c =
    let p = err_from_is_err_and c.from_residual.result c.from_residual.ensures.1 in
    rw (p.1, p.2) (sym (rules_refused _ _ _ _ _ _ _ _ c.requires.record_accepted _ _ (sym c.requires.checked_is_rules_outcome ∙ ap outcome_of c.in_err-m.was)))
