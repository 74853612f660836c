-- `entry_at` meets its contract: its words lie among the words. Assumes nothing.
use native.Mathlib.Omega.{arith}
use Rattle.rulesheet.proofs.Trailers.{entry_inside, entry_read}
use Rattle.rulesheet.proofs.form.entry_at.Goals as goal

pub overflow_add-at : goal.overflow_add-at
overflow_add-at c = omega (arith, c.wide.ensures, entry_inside c.args.words.now c.args.form c.requires.0 c.args.x c.requires.1)

pub offset_bounds-words-at : goal.offset_bounds-words-at
offset_bounds-words-at c = omega (arith, c.wide.ensures, entry_inside c.args.words.now c.args.form c.requires.0 c.args.x c.requires.1)

pub bounds-words-at : goal.bounds-words-at
bounds-words-at c = omega (arith, c.wide.ensures, entry_inside c.args.words.now c.args.form c.requires.0 c.args.x c.requires.1)

pub overflow_add-result : goal.overflow_add-result
overflow_add-result c = omega (arith, c.wide.ensures, entry_inside c.args.words.now c.args.form c.requires.0 c.args.x c.requires.1)

pub offset_bounds-words-at-2 : goal.offset_bounds-words-at-2
offset_bounds-words-at-2 c = omega (arith, c.wide.ensures, entry_inside c.args.words.now c.args.form c.requires.0 c.args.x c.requires.1)

pub bounds-words-at-2 : goal.bounds-words-at-2
bounds-words-at-2 c = omega (arith, c.wide.ensures, entry_inside c.args.words.now c.args.form c.requires.0 c.args.x c.requires.1)

pub overflow_add-result-2 : goal.overflow_add-result-2
overflow_add-result-2 c = omega (arith, c.wide.ensures, entry_inside c.args.words.now c.args.form c.requires.0 c.args.x c.requires.1)

pub offset_bounds-words-at-3 : goal.offset_bounds-words-at-3
offset_bounds-words-at-3 c = omega (arith, c.wide.ensures, entry_inside c.args.words.now c.args.form c.requires.0 c.args.x c.requires.1)

pub bounds-words-at-3 : goal.bounds-words-at-3
bounds-words-at-3 c = omega (arith, c.wide.ensures, entry_inside c.args.words.now c.args.form c.requires.0 c.args.x c.requires.1)

pub returns : goal.returns
returns c = entry_read c.args.words.now c.args.form c.requires.0 _ c.args.x (omega (arith, c.wide.ensures))
