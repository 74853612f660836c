-- `watching::numbers::take_digit` meets its contract. Assumes nothing.
use mathlib.Core.Path.{sym, ap, ◌∙◌}
use Rattle.figure.specs.declared.Figure.{Figure}
use Rattle.survey.specs.Watching.{with_figure}
use Rattle.survey.proofs.Branches.{digited_yes, digited_no}
use Rattle.watching.proofs.numbers.take_digit.Goals as goal

pub returns-then-digit : goal.returns-then-digit
returns-then-digit g c = λ op h.
    let a = c.args in
    ap (λ (f : Figure). with_figure f a.s) (h c.more-figure.result c.more-figure.ensures) ∙ sym (digited_yes op a.byte a.s (sym c.digit.ensures ∙ c.if-digit.true))

pub returns : goal.returns
returns g c = λ op h.
    let a = c.args in
    sym (digited_no op a.byte a.s (sym c.digit.ensures ∙ c.if-digit.false))
