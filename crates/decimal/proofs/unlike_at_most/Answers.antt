-- `decimal::unlike_at_most` meets its contract: by the sizes where the signs are the same, and by the signs where they differ.
-- Assumes nothing.
use mathlib.Core.Path.{sym, ◌∙◌}
use Rattle.decimal.proofs.Tests.{signs_same}
use Rattle.decimal.proofs.Sizes.{most_is}
use Rattle.decimal.proofs.unlike_at_most.Goals as goal

pub returns-then-a : goal.returns-then-a
returns-then-a c =
    let s = c.args in
    c.size_at_most.ensures ∙ sym (most_is s.a s.b c.if-a.true (sym (signs_same _ _ c.if-a-b.true) ∙ c.if-a.true))

pub returns-then-a-b : goal.returns-then-a-b
returns-then-a-b c =
    let s = c.args in
    c.size_at_most-then-a-b.ensures ∙ sym (most_is s.a s.b c.if-a.false (sym (signs_same _ _ c.if-a-b.true) ∙ c.if-a.false))
