-- `watching::numbers::in_exponent` meets its contract. Assumes nothing.
use mathlib.Core.Path.{ap, ◌∙◌}
use borrow.Author.Tests.{eq-eqb, ne_eqb}
use Rattle.figure.specs.declared.Figure.{Figure}
use Rattle.figure.specs.Figure.{power_more}
use Rattle.survey.specs.Watching.{with_figure}
use Rattle.watching.proofs.numbers.in_exponent.Goals as goal

pub returns-then-byte-eq45 : goal.returns-then-byte-eq45
returns-then-byte-eq45 c =
    let a = c.args in
    ap (λ (f : Figure). with_figure f a.s) c.power_back-figure.ensures ∙ rw (eq-eqb a.byte 0x2D c.if-byte-eq45.true)

pub returns : goal.returns
returns c =
    let a = c.args in
    c.take_digit.ensures power_more (λ f e. e.1) ∙ rw (ne_eqb a.byte 0x2D c.if-byte-eq45.false)
