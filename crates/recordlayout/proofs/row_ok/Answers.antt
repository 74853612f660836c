-- `row_ok` meets its contract: the three tests in turn. Assumes nothing.
use mathlib.Core.Path.{sym, ◌∙◌}
use Rattle.sheet.proofs.Rows.{row_test}
use Rattle.recordlayout.proofs.row_ok.Goals as goal
use Rattle.recordlayout.proofs.row_ok.Goals.{then-fields_ok, else-fields_ok}

pub returns-then-place_ok : goal.returns-then-place_ok
returns-then-place_ok c =
    elim c.if-fields_ok.branch [
      | then-fields_ok w ↦ sym (row_test c.args.rows.now.words.now c.args.rows.now.form c.args.rows.now.size c.args.j c.row-row.result c.args.rows.now.formed c.args.rows.now.sized c.row-row.ensures ∙ rw (← c.fields_ok.ensures, w.if-fields_ok.true, ← w.place_ok.ensures, sym w.value-is ∙ c.if-place_ok.true, ← c.owns_ok.ensures))
      | else-fields_ok w ↦ cc
    ]

pub returns-else-place_ok : goal.returns-else-place_ok
returns-else-place_ok c =
    elim c.if-fields_ok.branch [
      | then-fields_ok w ↦ sym (row_test c.args.rows.now.words.now c.args.rows.now.form c.args.rows.now.size c.args.j c.row-row.result c.args.rows.now.formed c.args.rows.now.sized c.row-row.ensures ∙ rw (← c.fields_ok.ensures, w.if-fields_ok.true, ← w.place_ok.ensures, sym w.value-is ∙ c.if-place_ok.false) (sym c.if-place_ok.false))
      | else-fields_ok w ↦ sym (row_test c.args.rows.now.words.now c.args.rows.now.form c.args.rows.now.size c.args.j c.row-row.result c.args.rows.now.formed c.args.rows.now.sized c.row-row.ensures ∙ rw (← c.fields_ok.ensures, w.if-fields_ok.false) (sym c.if-place_ok.false))
    ]
