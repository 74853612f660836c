-- `watching::numbers::number_ends` meets its contract. Assumes nothing.
use mathlib.Core.Path.{sym, ◌∙◌}
use Rattle.figure.specs.Figure.{figured}
use Rattle.numeral.proofs.Rows.{wide_told}
use Rattle.survey.proofs.Branches.{ended_wide, ended_deep, ended_fine}
use Rattle.watching.proofs.numbers.number_ends.Goals as goal

pub returns-then-is_none : goal.returns-then-is_none
returns-then-is_none c =
    let a = c.args in
    let told = wide_told (figured a.s.figure) c.written.result c.is_none.result c.written.ensures c.is_none.ensures in
    c.at_fault.ensures ∙ sym (ended_wide a.depth a.s (told ∙ c.if-is_none.true))

pub returns-then-depth-eq33 : goal.returns-then-depth-eq33
returns-then-depth-eq33 c =
    let a = c.args in
    let told = wide_told (figured a.s.figure) c.written.result c.is_none.result c.written.ensures c.is_none.ensures in
    c.at_fault-then-depth-eq33.ensures ∙ sym (ended_deep a.depth a.s (told ∙ c.if-is_none.false) c.if-depth-eq33.true)

pub returns : goal.returns
returns c =
    let a = c.args in
    let told = wide_told (figured a.s.figure) c.written.result c.is_none.result c.written.ensures c.is_none.ensures in
    sym (ended_fine a.depth a.s (told ∙ c.if-is_none.false) c.if-depth-eq33.false)
