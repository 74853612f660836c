-- `pass_rows` meets its contract: the search, the table and the lowest row too deep, row by row. Assumes nothing.
use native.Mathlib.Omega.{arith}
use mathlib.Core.Bool.{true, not}
use mathlib.Core.List.{List}
use mathlib.Core.Path.{◌≡◌, refl, sym, ap, ◌∙◌}
use Prim.Native.Nat.{ℕ, ◌≤◌, ◌<◌}
use native.Mathlib.Nat.{sub-zero}
use Rattle.sheet.specs.declared.record.Row.{Row}
use Rattle.sheet.specs.declared.record.RecordForm.{RecordForm}
use Rattle.sheet.specs.Doc.{levels}
use Rattle.sheet.specs.Record.{rows_max, rows_word, owner_at}
use Rattle.sheet.specs.Faults.{row_ok, at_fault, too_deep}
use Rattle.sheet.specs.Accepted.{Formed}
use Rattle.laws.proofs.Searches.{found, passed, ended, seen_none, seen_more, seen_end}
use Rattle.sheet.proofs.Levels.{table_small, table_level, table_more}
use Rattle.sheet.proofs.Trailers.{form_rows, form_few}
use Rattle.sheet.proofs.Rows.{owner_inside}
use Rattle.recordlayout.proofs.pass_rows.Goals as goal

-- a row that is not at fault, and its owner, have their places in the table
module _ (ws : List ℕ) (form : RecordForm) (formed : Formed ws form) (j : ℕ) (h : j < form.rows) (ok : row_ok ws j ≡ true) where
  row_few : j < rows_max
  row_few = omega (arith, form_few ws form formed)

  owner_few : owner_at ws j < rows_max
  owner_few = omega (arith, owner_inside ws j (omega (arith, form_rows ws form formed)) ok, form_few ws form formed, form_rows ws form formed)

pub loop-j-init : goal.loop-j-init
unfolding levels
loop-j-init c = (rw sub-zero, refl, seen_none (too_deep c.args.words.now) c.args.form.rows)

pub returns-then-not-row_ok : goal.returns-then-not-row_ok
returns-then-not-row_ok c = record { fault_is = rw (← form_rows c.args.words.now c.args.form c.requires.0) (sym (c.loop-j.invariant.0 ∙ found (at_fault c.args.words.now) c.args.form.rows c.loop-j.j (omega arith) (ap not (sym c.row_ok.ensures ∙ c.if-not-row_ok.true)))); deep_is = λ (h : rows_word c.args.words.now ≤ c.loop-j.j). absurd (omega (arith, form_rows c.args.words.now c.args.form c.requires.0)) }

pub bounds-levels-wide : goal.bounds-levels-wide
bounds-levels-wide c = rw (c.wide.ensures, c.row.ensures) (owner_few c.args.words.now c.args.form c.requires.0 c.loop-j.j c.loop-j-test.true (sym c.row_ok.ensures ∙ c.if-not-row_ok.false))

pub overflow_add-level : goal.overflow_add-level
overflow_add-level c =
    let few = row_few c.args.words.now c.args.form c.requires.0 c.loop-j.j c.loop-j-test.true (sym c.row_ok.ensures ∙ c.if-not-row_ok.false) in
    omega (arith, table_small (owner_at c.args.words.now) rows_max c.loop-j.j c.wide.result c.loop-j.j c.loop-j.levels c.loop-j.invariant.1 few (owner_few c.args.words.now c.args.form c.requires.0 c.loop-j.j c.loop-j-test.true (sym c.row_ok.ensures ∙ c.if-not-row_ok.false)) (c.wide.ensures ∙ ap (λ (r : Row). r.owner) c.row.ensures) refl)

pub bounds-levels-wide-in-loop-j : goal.bounds-levels-wide-in-loop-j
bounds-levels-wide-in-loop-j c = omega (arith, c.wide-in-loop-j.ensures, form_few c.args.words.now c.args.form c.requires.0)

pub loop-j-preserved : goal.loop-j-preserved
loop-j-preserved c =
    let ok = sym c.row_ok.ensures ∙ c.if-not-row_ok.false in
    let few = row_few c.args.words.now c.args.form c.requires.0 c.loop-j.j c.loop-j-test.true ok in
    let owner = owner_few c.args.words.now c.args.form c.requires.0 c.loop-j.j c.loop-j-test.true ok in
    let read = c.wide.ensures ∙ ap (λ (r : Row). r.owner) c.row.ensures in (
      c.loop-j.invariant.0 ∙ passed (at_fault c.args.words.now) c.args.form.rows c.loop-j.j c.loop-j-test.true (ap not ok),
      table_more (owner_at c.args.words.now) rows_max c.loop-j.j c.wide.result c.wide-in-loop-j.result c.loop-j.levels c.loop-j.invariant.1 few owner read c.wide-in-loop-j.ensures,
      rw (c.first_deep-deep.ensures, table_level (owner_at c.args.words.now) rows_max c.loop-j.j c.wide.result c.loop-j.j c.loop-j.levels c.loop-j.invariant.1 few owner read refl) (seen_more (too_deep c.args.words.now) c.args.form.rows c.loop-j.j c.loop-j.deep c.loop-j-test.true c.loop-j.invariant.2),
    )

pub returns : goal.returns
returns c =
    let same : c.loop-j.j ≡ c.args.form.rows = omega arith in
    record {
      fault_is = rw (← form_rows c.args.words.now c.args.form c.requires.0) (sym (c.loop-j.invariant.0 ∙ ended (at_fault c.args.words.now) c.args.form.rows c.loop-j.j (omega arith) ∙ same));
      deep_is = λ (h : rows_word c.args.words.now ≤ c.args.form.rows). rw (← form_rows c.args.words.now c.args.form c.requires.0) (seen_end (too_deep c.args.words.now) c.args.form.rows c.loop-j.j c.loop-j.deep (omega arith) (omega arith) c.loop-j.invariant.2);
    }
