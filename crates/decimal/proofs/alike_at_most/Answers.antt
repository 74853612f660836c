-- `decimal::alike_at_most` meets its contract, by the four cases of the two signs.
-- Assumes nothing.
use mathlib.Core.Path.{sym, ◌∙◌}
use Rattle.decimal.proofs.Sizes.{most_is, zero_most, above_not_most}
use Rattle.decimal.proofs.Compared.{at_one_scale, at_one_scale_back}
use Rattle.decimal.proofs.alike_at_most.Goals as goal

pub returns-then-b : goal.returns-then-b
returns-then-b c =
    let s = c.args in
    at_one_scale_back s.a s.b (c.requires.2 (c.if-a.true ∙ sym c.if-b.true)) ∙ sym (most_is s.a s.b c.if-a.true c.if-b.true)

pub returns-then-a : goal.returns-then-a
returns-then-a c =
    let s = c.args in
    sym (most_is s.a s.b c.if-a.true c.if-b.false)

pub returns-then-a-eq0 : goal.returns-then-a-eq0
returns-then-a-eq0 c =
    let s = c.args in
    zero_most s.a s.b c.if-a.false c.if-b-2.true c.if-a-eq0.true

pub returns-else-a-eq0 : goal.returns-else-a-eq0
returns-else-a-eq0 c =
    let s = c.args in
    above_not_most s.a s.b c.if-a.false c.if-b-2.true c.if-a-eq0.false

pub returns : goal.returns
returns c =
    let s = c.args in
    at_one_scale s.a s.b (c.requires.2 (c.if-a.false ∙ sym c.if-b-2.false)) ∙ sym (most_is s.a s.b c.if-a.false c.if-b-2.false)
