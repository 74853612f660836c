-- `row_at` meets its contract: the row lies among the words. Assumes nothing.
use native.Mathlib.Omega.{arith}
use Rattle.sheet.proofs.Trailers.{row_inside, row_read}
use Rattle.sheet.proofs.record.row_at.Goals as goal

pub overflow_add-at : goal.overflow_add-at
overflow_add-at c = omega (arith, c.wide.ensures, row_inside c.args.words.now c.args.form c.requires.0 c.args.row.0 c.requires.1)

pub offset_bounds-words-at : goal.offset_bounds-words-at
offset_bounds-words-at c = omega (arith, c.wide.ensures, row_inside c.args.words.now c.args.form c.requires.0 c.args.row.0 c.requires.1)

pub bounds-words-at : goal.bounds-words-at
bounds-words-at c = omega (arith, c.wide.ensures, row_inside c.args.words.now c.args.form c.requires.0 c.args.row.0 c.requires.1)

pub overflow_add-result : goal.overflow_add-result
overflow_add-result c = omega (arith, c.wide.ensures, row_inside c.args.words.now c.args.form c.requires.0 c.args.row.0 c.requires.1)

pub offset_bounds-words-at-2 : goal.offset_bounds-words-at-2
offset_bounds-words-at-2 c = omega (arith, c.wide.ensures, row_inside c.args.words.now c.args.form c.requires.0 c.args.row.0 c.requires.1)

pub bounds-words-at-2 : goal.bounds-words-at-2
bounds-words-at-2 c = omega (arith, c.wide.ensures, row_inside c.args.words.now c.args.form c.requires.0 c.args.row.0 c.requires.1)

pub overflow_add-result-2 : goal.overflow_add-result-2
overflow_add-result-2 c = omega (arith, c.wide.ensures, row_inside c.args.words.now c.args.form c.requires.0 c.args.row.0 c.requires.1)

pub offset_bounds-words-at-3 : goal.offset_bounds-words-at-3
offset_bounds-words-at-3 c = omega (arith, c.wide.ensures, row_inside c.args.words.now c.args.form c.requires.0 c.args.row.0 c.requires.1)

pub bounds-words-at-3 : goal.bounds-words-at-3
bounds-words-at-3 c = omega (arith, c.wide.ensures, row_inside c.args.words.now c.args.form c.requires.0 c.args.row.0 c.requires.1)

pub overflow_add-result-3 : goal.overflow_add-result-3
overflow_add-result-3 c = omega (arith, c.wide.ensures, row_inside c.args.words.now c.args.form c.requires.0 c.args.row.0 c.requires.1)

pub offset_bounds-words-at-4 : goal.offset_bounds-words-at-4
offset_bounds-words-at-4 c = omega (arith, c.wide.ensures, row_inside c.args.words.now c.args.form c.requires.0 c.args.row.0 c.requires.1)

pub bounds-words-at-4 : goal.bounds-words-at-4
bounds-words-at-4 c = omega (arith, c.wide.ensures, row_inside c.args.words.now c.args.form c.requires.0 c.args.row.0 c.requires.1)

pub overflow_add-result-4 : goal.overflow_add-result-4
overflow_add-result-4 c = omega (arith, c.wide.ensures, row_inside c.args.words.now c.args.form c.requires.0 c.args.row.0 c.requires.1)

pub offset_bounds-words-at-5 : goal.offset_bounds-words-at-5
offset_bounds-words-at-5 c = omega (arith, c.wide.ensures, row_inside c.args.words.now c.args.form c.requires.0 c.args.row.0 c.requires.1)

pub bounds-words-at-5 : goal.bounds-words-at-5
bounds-words-at-5 c = omega (arith, c.wide.ensures, row_inside c.args.words.now c.args.form c.requires.0 c.args.row.0 c.requires.1)

pub overflow_add-result-5 : goal.overflow_add-result-5
overflow_add-result-5 c = omega (arith, c.wide.ensures, row_inside c.args.words.now c.args.form c.requires.0 c.args.row.0 c.requires.1)

pub offset_bounds-words-at-6 : goal.offset_bounds-words-at-6
offset_bounds-words-at-6 c = omega (arith, c.wide.ensures, row_inside c.args.words.now c.args.form c.requires.0 c.args.row.0 c.requires.1)

pub bounds-words-at-6 : goal.bounds-words-at-6
bounds-words-at-6 c = omega (arith, c.wide.ensures, row_inside c.args.words.now c.args.form c.requires.0 c.args.row.0 c.requires.1)

pub returns : goal.returns
returns c = row_read c.args.words.now c.args.form c.requires.0 _ c.args.row.0 (omega (arith, c.wide.ensures))
