-- `first_repeated` meets its contract, owner by owner. Assumes nothing.
use native.Mathlib.Omega.{arith}
use Rattle.sheet.proofs.Trailers.{form_rows}
use Rattle.sheet.proofs.Siblings.{least_none, least_more, least_end}
use Rattle.recordnames.proofs.first_repeated.Goals as goal

pub loop-o-init : goal.loop-o-init
loop-o-init c = rw (form_rows c.args.words.now c.args.form c.requires.0.formed) (least_none c.args.words.now c.args.text.now c.args.form c.requires.0)

pub lowest_under-least-requires : goal.lowest_under-least-requires
lowest_under-least-requires c = rw (c.new-sheet.ensures.words, c.new-sheet.ensures.form) (c.requires.0, c.loop-o-test.true, omega (arith, c.loop-o.invariant.within, form_rows c.args.words.now c.args.form c.requires.0.formed))

pub loop-o-preserved : goal.loop-o-preserved
loop-o-preserved c = least_more c.args.words.now c.args.text.now c.args.form c.requires.0 c.loop-o.o c.loop-o.least c.lowest_under-least.result (omega (arith, form_rows c.args.words.now c.args.form c.requires.0.formed)) c.loop-o.invariant (rw (c.new-sheet.ensures.words, c.new-sheet.ensures.text) at c.lowest_under-least.ensures)

pub returns : goal.returns
returns c = least_end c.args.words.now c.args.text.now c.args.form c.requires.0 c.loop-o.o c.loop-o.least (omega (arith, form_rows c.args.words.now c.args.form c.requires.0.formed)) c.loop-o.invariant
