-- `row_ok` meets its contract: of a row without children at once, of the others by what their children tell. Assumes nothing.
use mathlib.Core.Path.{sym, ◌∙◌}
use native.Mathlib.Omega.{arith}
use Rattle.utf8.proofs.Tests.{clash}
use Rattle.recordcheck.proofs.Ordering.{met_at, leaf, empty, holding, full}
use Rattle.recordcheck.proofs.order.row_ok.Goals as goal
use Rattle.recordcheck.proofs.order.row_ok.Goals.{then-not-holds_children-via-then-not-holds_children, then-not-holds_children-via-else-not-holds_children+then-count-eq0}

pub returns-then-not-holds_children : goal.returns-then-not-holds_children
returns-then-not-holds_children c t =
    let rows = c.args.sheet.rows in
    let met = met_at c.requires.1 c.wide.ensures c.requires.0 (omega (arith, c.if-level-eq0.false)) in
    let fields = sym c.fields_ok.ensures ∙ c.if-not-fields_ok.false in
    elim c.then-not-holds_children.branch [
      | then-not-holds_children-via-then-not-holds_children w ↦
          (leaf rows.words.now c.args.sheet.text.now rows.form rows.formed c.args.j c.requires.0 c.row-row.result c.row-row.ensures _ rows.sized fields _ met c.of-kind.result c.of-kind.ensures (sym c.holds_children.ensures ∙ w.if-not-holds_children.true), c.requires.1)
      | then-not-holds_children-via-else-not-holds_children+then-count-eq0 w ↦
          (empty rows.words.now c.args.sheet.text.now rows.form rows.formed c.args.j c.requires.0 c.row-row.result c.row-row.ensures _ rows.sized fields _ met w.if-count-eq0.true, c.requires.1)
    ]

pub returns-then-not-is_object : goal.returns-then-not-is_object
returns-then-not-is_object c t =
    let rows = c.args.sheet.rows in
    let met = met_at c.requires.1 c.wide.ensures c.requires.0 (omega (arith, c.if-level-eq0.false)) in
    let fields = sym c.fields_ok.ensures ∙ c.if-not-fields_ok.false in
    let held = holding rows.words.now c.args.sheet.text.now rows.form rows.formed c.args.j c.requires.0 c.row-row.result c.row-row.ensures _ rows.sized fields _ met c.of-kind.result (sym c.of-kind.ensures) (sym c.holds_children.ensures ∙ c.if-not-holds_children.false) c.if-count-eq0.false (omega (arith, c.if-level-gt-LEVEL_LAST.false)) in
    let done = c.children_ok.ensures c.if-children_ok.true in
    (full rows.words.now c.args.sheet.text.now rows.form rows.formed c.args.j c.requires.0 c.row-row.result c.row-row.ensures _ rows.sized fields _ met c.of-kind.result held done.0 (λ o. absurd (clash o (sym c.is_object-then-children_ok.ensures ∙ c.if-not-is_object.true))), done.1)

pub returns-else-not-is_object : goal.returns-else-not-is_object
returns-else-not-is_object c t =
    let rows = c.args.sheet.rows in
    let met = met_at c.requires.1 c.wide.ensures c.requires.0 (omega (arith, c.if-level-eq0.false)) in
    let fields = sym c.fields_ok.ensures ∙ c.if-not-fields_ok.false in
    let held = holding rows.words.now c.args.sheet.text.now rows.form rows.formed c.args.j c.requires.0 c.row-row.result c.row-row.ensures _ rows.sized fields _ met c.of-kind.result (sym c.of-kind.ensures) (sym c.holds_children.ensures ∙ c.if-not-holds_children.false) c.if-count-eq0.false (omega (arith, c.if-level-gt-LEVEL_LAST.false)) in
    let done = c.children_ok.ensures c.if-children_ok.true in
    (full rows.words.now c.args.sheet.text.now rows.form rows.formed c.args.j c.requires.0 c.row-row.result c.row-row.ensures _ rows.sized fields _ met c.of-kind.result held done.0 (λ o. c.apart.ensures t), done.1)

pub returns-then-count-le-FEW : goal.returns-then-count-le-FEW
returns-then-count-le-FEW c t =
    let rows = c.args.sheet.rows in
    let met = met_at c.requires.1 c.wide.ensures c.requires.0 (omega (arith, c.if-level-eq0.false)) in
    let fields = sym c.fields_ok.ensures ∙ c.if-not-fields_ok.false in
    let held = holding rows.words.now c.args.sheet.text.now rows.form rows.formed c.args.j c.requires.0 c.row-row.result c.row-row.ensures _ rows.sized fields _ met c.of-kind.result (sym c.of-kind.ensures) (sym c.holds_children.ensures ∙ c.if-not-holds_children.false) c.if-count-eq0.false (omega (arith, c.if-level-gt-LEVEL_LAST.false)) in
    (full rows.words.now c.args.sheet.text.now rows.form rows.formed c.args.j c.requires.0 c.row-row.result c.row-row.ensures _ rows.sized fields _ met c.of-kind.result held (c.few_ok.ensures.held t) (λ o. c.few_ok.ensures.apart t), c.few_ok.ensures.levelled t)
