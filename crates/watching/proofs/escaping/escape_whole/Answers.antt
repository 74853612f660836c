-- `watching::escaping::escape_whole` meets its contract. Assumes nothing.
use mathlib.Core.Path.{◌≡◌, sym, ◌∙◌}
use native.Mathlib.Omega.{arith}
use Rattle.survey.proofs.Branches.{low_lone, low_paired, other_parts, high_waits, plain_code}
use Rattle.watching.proofs.escaping.escape_whole.Goals as goal

pub returns-then-e-eq0 : goal.returns-then-e-eq0
returns-then-e-eq0 c =
    let a = c.args in
    c.at_fault.ensures ∙ sym (low_lone a.s a.code (sym c.low.ensures ∙ c.if-low.true) c.if-e-eq0.true)

pub returns-then-low : goal.returns-then-low
returns-then-low c =
    let a = c.args in
    sym (low_paired a.s a.code (sym c.low.ensures ∙ c.if-low.true) c.if-e-eq0.false)

pub returns-then-e-ne0 : goal.returns-then-e-ne0
returns-then-e-ne0 c =
    let a = c.args in
    c.at_fault-then-e-ne0.ensures ∙ sym (other_parts a.s a.code (sym c.low.ensures ∙ c.if-low.false) c.if-e-ne0.true)

pub returns-then-high : goal.returns-then-high
returns-then-high c =
    let a = c.args in
    let none : a.s.escapes.waits ≡ 0 = omega (arith, c.if-e-ne0.false) in
    sym (high_waits a.s a.code (sym c.low.ensures ∙ c.if-low.false) none (sym c.high.ensures ∙ c.if-high.true))

pub returns : goal.returns
returns c =
    let a = c.args in
    let none : a.s.escapes.waits ≡ 0 = omega (arith, c.if-e-ne0.false) in
    sym (plain_code a.s a.code (sym c.low.ensures ∙ c.if-low.false) none (sym c.high.ensures ∙ c.if-high.false))
