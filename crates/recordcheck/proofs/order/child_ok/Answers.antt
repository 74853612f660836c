-- `child_ok` meets its contract, by the row that was read. Assumes nothing.
use mathlib.Core.Path.{◌∙◌}
use Rattle.recordcheck.proofs.Children.{not_child, by_label}
use Rattle.recordcheck.proofs.order.child_ok.Goals as goal

pub returns-then-row-j : goal.returns-then-row-j
returns-then-row-j c =
    not_child c.args.rows.words.now c.args.kind c.args.j c.args.c c.row-row.result c.row-row.ensures c.if-row-j.true

pub returns : goal.returns
returns c =
    c.label_ok.ensures
    ∙ by_label c.args.rows.words.now c.args.kind c.args.j c.args.c c.row-row.result c.row-row.ensures c.if-row-j.false c.args.rows.size c.args.rows.sized
