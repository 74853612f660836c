-- `check_texts` meets its contract: where all rows are in order, no line of the table but 13 can apply. Assumes nothing.
use native.Mathlib.Omega.{arith}
use Rattle.sheet.proofs.Tables.{line_told}
use Rattle.sheet.proofs.Checks.{at_text}
use Rattle.recordcheck.proofs.Beginning.{formed, rows_are, text_is, text_fits, ascii_fine, all_passed}
use Rattle.recordcheck.proofs.Ordering.{laid, no_fault, no_name, no_level}
use Rattle.recordcheck.proofs.check_texts.Goals as goal

pub is_ascii-requires : goal.is_ascii-requires
is_ascii-requires c = text_fits c.requires.0

pub returns-then-is_ascii : goal.returns-then-is_ascii
returns-then-is_ascii c =
    let b = c.requires.0 in
    let ws = c.args.words.now in
    let ts = c.args.text.now in
    let form = c.args.form in
    all_passed b (no_fault ws ts form (formed b) c.requires.1) (no_name ws ts form (formed b) c.requires.1)
    (ascii_fine b (laid ws ts form (formed b) c.requires.1) (c.is_ascii.ensures c.if-is_ascii.true)) (no_level ws ts form (formed b) c.requires.1)

pub first_not_utf8-bad-requires : goal.first_not_utf8-bad-requires
first_not_utf8-bad-requires c =
    let b = c.requires.0 in
    (laid c.args.words.now c.args.text.now c.args.form (formed b) c.requires.1, text_is b, text_fits b)

pub returns-in_err-line : goal.returns-in_err-line
returns-in_err-line c =
    let b = c.requires.0 in
    let ws = c.args.words.now in
    let ts = c.args.text.now in
    let form = c.args.form in
    let h = c.in_err-line.ensures in
    line_told h _ (omega arith)
    (at_text ws ts b.good (no_fault ws ts form (formed b) c.requires.1) (no_name ws ts form (formed b) c.requires.1) _ c.first_not_utf8-bad.ensures (omega (arith, rows_are b))) _ c.from_residual.ensures.1

pub returns : goal.returns
returns c =
    let b = c.requires.0 in
    let ws = c.args.words.now in
    let ts = c.args.text.now in
    let form = c.args.form in
    all_passed b (no_fault ws ts form (formed b) c.requires.1) (no_name ws ts form (formed b) c.requires.1)
    (omega (arith, c.in_ok-line.ensures, c.first_not_utf8-bad.ensures, rows_are b)) (no_level ws ts form (formed b) c.requires.1)
