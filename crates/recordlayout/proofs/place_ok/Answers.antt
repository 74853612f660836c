-- `place_ok` meets its contract, way by way. Assumes nothing.
use native.Mathlib.Omega.{arith}
use borrow.Author.Tests.{eq-eqb, ne_eqb, le-ltb, lt-ltb}
use Rattle.sheet.specs.Record.{rows_word}
use Rattle.sheet.specs.Faults.{place_ok}
use Rattle.sheet.proofs.Trailers.{form_rows}
use Rattle.recordlayout.proofs.place_ok.Goals as goal

pub returns-then-j-eq0 : goal.returns-then-j-eq0
unfolding place_ok
returns-then-j-eq0 c = simp (eq-eqb _ _ c.if-j-eq0.true, c.root_ok.ensures)

pub returns-then-rows-row : goal.returns-then-rows-row
unfolding place_ok
returns-then-rows-row c = simp (ne_eqb _ _ c.if-j-eq0.false, le-ltb c.args.row.owner (rows_word c.args.rows.now.words.now) (omega (arith, form_rows c.args.rows.now.words.now c.args.rows.now.form c.args.rows.now.formed)))

pub returns : goal.returns
unfolding place_ok
returns c = simp (ne_eqb _ _ c.if-j-eq0.false, lt-ltb c.args.row.owner (rows_word c.args.rows.now.words.now) (omega (arith, form_rows c.args.rows.now.words.now c.args.rows.now.form c.args.rows.now.formed)), c.placed_under.ensures, c.row.ensures, c.args.rows.now.sized)
