-- `watching::number_moves` meets its contract. Assumes nothing.
use mathlib.Core.Path.{◌≡◌, sym, ◌∙◌}
use native.Mathlib.Omega.{arith}
use Rattle.figure.specs.Figure.{whole_more, part_more, power_more}
use Rattle.survey.proofs.Ranges.{in_whole, at_place}
use Rattle.watching.proofs.number_moves.Goals as goal

pub returns-then-place-eq16 : goal.returns-then-place-eq16
returns-then-place-eq16 c =
    let a = c.args in
    c.take_digit.ensures whole_more (λ f e. e.1) ∙ sym (at_place a.depth a.byte a.left a.s a.place 16 c.if-place-eq16.true)

pub returns-then-place-lt19 : goal.returns-then-place-lt19
returns-then-place-lt19 c =
    let a = c.args in
    c.take_digit_or_end.ensures whole_more (λ f e. e.1) ∙ sym (in_whole a.depth a.byte a.left a.s a.place (omega (arith, c.if-place-eq16.false)) (omega arith))

pub returns-then-place-eq19 : goal.returns-then-place-eq19
returns-then-place-eq19 c =
    let a = c.args in
    c.take_digit-then-place-eq19.ensures part_more (λ f e. e.1) ∙ sym (at_place a.depth a.byte a.left a.s a.place 19 c.if-place-eq19.true)

pub returns-then-place-eq20 : goal.returns-then-place-eq20
returns-then-place-eq20 c =
    let a = c.args in
    c.take_digit_or_end-then-place-eq20.ensures part_more (λ f e. e.1) ∙ sym (at_place a.depth a.byte a.left a.s a.place 20 c.if-place-eq20.true)

pub returns-then-place-eq21 : goal.returns-then-place-eq21
returns-then-place-eq21 c =
    let a = c.args in
    c.in_exponent.ensures ∙ sym (at_place a.depth a.byte a.left a.s a.place 21 c.if-place-eq21.true)

pub returns-then-place-eq22 : goal.returns-then-place-eq22
returns-then-place-eq22 c =
    let a = c.args in
    c.take_digit-then-place-eq22.ensures power_more (λ f e. e.1) ∙ sym (at_place a.depth a.byte a.left a.s a.place 22 c.if-place-eq22.true)

pub returns : goal.returns
returns c =
    let a = c.args in
    let last : a.place ≡ 23 = omega arith in
    c.take_digit_or_end-2.ensures power_more (λ f e. e.1) ∙ sym (at_place a.depth a.byte a.left a.s a.place 23 last)
