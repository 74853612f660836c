-- `first_not_utf8` meets its contract: an empty table tells nothing, and the rows are asked in turn. Assumes nothing.
use mathlib.Core.Path.{◌≡◌, sym, ◌∙◌}
use native.Mathlib.Omega.{arith}
use Rattle.laws.proofs.Passing.{here, further, nowhere}
use Rattle.reach.proofs.Reaching.{blank}
use Rattle.sheet.proofs.Trailers.{form_rows}
use Rattle.recordtexts.proofs.first_not_utf8.Goals as goal

pub know-whole-requires : goal.know-whole-requires
know-whole-requires c = blank c.args.text.now c.requires.2

pub returns-then-not_utf8 : goal.returns-then-not_utf8
returns-then-not_utf8 c = here c.loop-j.invariant (omega (arith, form_rows c.args.words.now c.args.form c.requires.0.formed)) (rw (← c.new-sheet.ensures.words, ← c.new-sheet.ensures.text) (sym c.not_utf8.ensures ∙ c.if-not_utf8.true))

pub loop-j-preserved : goal.loop-j-preserved
loop-j-preserved c = further c.loop-j.invariant (omega (arith, form_rows c.args.words.now c.args.form c.requires.0.formed)) (rw (← c.new-sheet.ensures.words, ← c.new-sheet.ensures.text) (sym c.not_utf8.ensures ∙ c.if-not_utf8.false))

pub returns : goal.returns
returns c =
    let same : c.args.form.rows ≡ c.loop-j.j = omega arith in
    same ∙ nowhere c.loop-j.invariant (omega (arith, form_rows c.args.words.now c.args.form c.requires.0.formed))
