-- `plain_rows` meets its contract. Assumes nothing.
use mathlib.Core.Path.{sym, ◌∙◌, subst}
use Prim.Native.Nat.{ℕ, ◌+◌}
use native.Mathlib.Omega.{arith}
use Rattle.sheet.proofs.Trailers.{form_few}
use Rattle.meaning.proofs.Words.{row_inside}
use Rattle.areas.specs.Cells.{Unsettled}
use Rattle.lent.specs.Lent.{pair}
use Rattle.lent.specs.Reads.{lent_case}
use Rattle.lent.proofs.Reading.{rows_are, schemas_are}
use Rattle.trying.proofs.plain_rows.Goals as goal

pub clauses_of-many-requires : goal.clauses_of-many-requires
clauses_of-many-requires c = c.requires.rows_inside.1

pub unsettled_rows-open-requires : goal.unsettled_rows-open-requires
unsettled_rows-open-requires c =
    let S = c.args.lent.now.sheets in
    let T = lent_case c.args.lent.now in record {
      n_bound = (omega (arith, rows_are S, c.requires.rows_inside.0, form_few c.args.lent.now.«record».now c.args.lent.now.form S.record_read.laid.formed), c.requires.table_in_cells.1);
      by_index = λ k h. rw c.schemas.ensures (omega (arith, row_inside T.n T.m (c.args.q.row.0 + k) (omega (arith, c.requires.rows_inside.0)), c.requires.rows_inside.1, c.requires.table_in_cells.0));
    }

pub rows_passed-requires : goal.rows_passed-requires
rows_passed-requires c =
    let S = c.args.lent.now.sheets in
    let m_is = c.schemas.ensures ∙ sym (schemas_are S) in
    let fresh = c.unsettled_rows-open.ensures in record {
      record_read = (S.record_read, omega (arith, rows_are S, fresh.within, c.requires.rows_inside.0));
      rules_read = (S.rules_read, omega (arith, schemas_are S, c.requires.rows_inside.1), c.clauses_of-many.ensures);
      rows_unsettled = λ k h. subst (λ (m : ℕ). Unsettled m (pair (c.args.q.row.0 + k) c.args.q.rule.0) c.args.cells.now) m_is (fresh.each k h);
    }

pub returns : goal.returns
returns c =
    let fresh = c.unsettled_rows-open.ensures in
    let passed = c.rows_passed.ensures in
    (omega (arith, fresh.within, passed.within), record { unsettled = λ k h. subst (λ (m : ℕ). Unsettled m (pair (c.args.q.row.0 + k) c.args.q.rule.0) c.args.cells.now) c.schemas.ensures (fresh.each k (omega (arith, passed.within))); passed = λ k h. rw (← c.clauses_of-many.ensures) (passed.each k h) })
