-- `children_of` meets its contract, for a row that can have children and for one that cannot. Assumes nothing.
use mathlib.Core.Path.{sym, ap, ◌∙◌}
use Rattle.sheet.specs.Kinds.{holds_children}
use Rattle.sheet.proofs.Values.{with_children, no_children}
use Rattle.sheet.proofs.record.children_of.Goals as goal

pub returns-then-holds_children : goal.returns-then-holds_children
returns-then-holds_children c = with_children c.args.words.now c.args.form c.args.row.0 c.row_at-kind.result c.requires.0 c.requires.1 c.row_at-kind.ensures (sym (c.holds_children.ensures ∙ ap holds_children c.of.ensures) ∙ c.if-holds_children.true)

pub returns-else-holds_children : goal.returns-else-holds_children
returns-else-holds_children c = no_children c.args.words.now c.args.form c.args.row.0 c.row_at-kind.result c.requires.0 c.requires.1 c.row_at-kind.ensures (sym (c.holds_children.ensures ∙ ap holds_children c.of.ensures) ∙ c.if-holds_children.false)
