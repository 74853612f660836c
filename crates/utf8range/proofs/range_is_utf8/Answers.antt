-- `utf8range::range_is_utf8` meets its contract. By the law on parts of a text that is UTF-8.
-- Assumes nothing.
use mathlib.Core.Path.{sym, ◌∙◌}
use Rattle.utf8range.proofs.Cuts.{empty_part, start_inside, end_inside, outside}
use Rattle.utf8range.proofs.range_is_utf8.Goals as goal

pub returns-then-range-eq0 : goal.returns-then-range-eq0
returns-then-range-eq0 c = sym (empty_part _ _ c.requires.text_is_utf8 c.requires.range_fits c.if-range-eq0.true)

pub returns-then-inside : goal.returns-then-inside
returns-then-inside c = sym (start_inside _ _ c.requires.text_is_utf8 c.requires.range_fits c.if-range-eq0.false (sym c.inside.ensures ∙ c.if-inside.true))

pub returns-then-inside-2 : goal.returns-then-inside-2
returns-then-inside-2 c = sym (end_inside _ _ c.requires.text_is_utf8 c.requires.range_fits (sym c.inside.ensures ∙ c.if-inside.false) (rw c.end-end.ensures at (sym c.inside-2.ensures ∙ c.if-inside-2.true)))

pub returns : goal.returns
returns c = sym (outside _ _ c.requires.text_is_utf8 c.requires.range_fits (sym c.inside.ensures ∙ c.if-inside.false) (rw c.end-end.ensures at (sym c.inside-2.ensures ∙ c.if-inside-2.false)))
