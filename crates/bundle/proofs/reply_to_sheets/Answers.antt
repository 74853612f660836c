-- `reply_to_sheets` replies by the first of the tests that applies. Assumes nothing.
use mathlib.Core.Path.{sym, ap, ◌∙◌}
use Rattle.std.proofs.lemmas.Result.{err_from_is_err_and}
use Rattle.sheet.specs.Refusals.{outcome_of}
use Rattle.bundle.proofs.Replying.{record_refused, rules_refused, sides_large}
use Rattle.bundle.proofs.reply_to_sheets.Goals as goal

pub judge_all-requires : goal.judge_all-requires
judge_all-requires c =
    record { record_good = sym c.check_record.ensures ∙ ap outcome_of c.in_ok-n.was; rules_good = sym c.check_rules.ensures ∙ ap outcome_of c.in_ok-m.was; small = sym c.too_large.ensures ∙ c.if-too_large.false; room = c.requires }

pub returns-in_err-n : goal.returns-in_err-n
returns-in_err-n c =
    let p = err_from_is_err_and c.from_residual.result c.from_residual.ensures.1 in
    rw (p.1, p.2) (record_refused _ _ _ _ _ (sym c.check_record.ensures ∙ ap outcome_of c.in_err-n.was))

pub returns-in_err-m : goal.returns-in_err-m
returns-in_err-m c =
    let p = err_from_is_err_and c.from_residual-in_err-m.result c.from_residual-in_err-m.ensures.1 in
    rw (p.1, p.2) (rules_refused _ _ _ _ _ (sym c.check_record.ensures ∙ ap outcome_of c.in_ok-n.was) _ (sym c.check_rules.ensures ∙ ap outcome_of c.in_err-m.was))

pub returns-then-too_large : goal.returns-then-too_large
returns-then-too_large c =
    sides_large _ _ _ _ _ (sym c.check_record.ensures ∙ ap outcome_of c.in_ok-n.was) _ (sym c.check_rules.ensures ∙ ap outcome_of c.in_ok-m.was) (sym c.too_large.ensures ∙ c.if-too_large.true)
