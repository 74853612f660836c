-- `rows_ok` meets its contract: the root is met first, and each row before its turn comes. Assumes nothing.
use mathlib.Core.Path.{sym, ap, ◌∙◌}
use native.Mathlib.Omega.{arith}
use Rattle.sheet.specs.Faults.{root_ok}
use Rattle.sheet.proofs.Trailers.{trailer_facts, form_rows}
use Rattle.recordcheck.proofs.Children.{nothing}
use Rattle.recordcheck.proofs.Ordering.{root_told}
use Rattle.recordcheck.proofs.order.rows_ok.Goals as goal

pub row-requires : goal.row-requires
row-requires c =
    let rows = c.args.sheet.rows in
    omega (arith, (trailer_facts rows.words.now rows.formed.trailer).some, form_rows rows.words.now rows.form rows.formed)

pub bounds-levels-0 : goal.bounds-levels-0
bounds-levels-0 c =
    let rows = c.args.sheet.rows in
    omega (arith, c.requires.room, (trailer_facts rows.words.now rows.formed.trailer).some, form_rows rows.words.now rows.form rows.formed)

pub loop-j-init : goal.loop-j-init
loop-j-init c =
    let rows = c.args.sheet.rows in (
      λ k h. nothing k h,
      root_told rows.words.now rows.form.rows c.args.levels.now
          (ap root_ok (sym c.row.ensures) ∙ sym c.root_ok.ensures ∙ c.if-not-root_ok.false)
          c.requires.room c.requires.by_index
          (omega (arith, (trailer_facts rows.words.now rows.formed.trailer).some, form_rows rows.words.now rows.form rows.formed)),
    )
