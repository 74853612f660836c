-- `check_lines` meets its contract: each answer is the line of the table that it names, since those before it do not apply. Assumes nothing.
use native.Mathlib.Omega.{arith}
use Rattle.sheet.proofs.Tables.{line_told}
use Rattle.sheet.proofs.Checks.{laid_out, at_row, at_name, at_text, at_level}
use Rattle.recordcheck.proofs.Beginning.{formed, rows_are, text_is, text_fits, all_passed}
use Rattle.recordcheck.proofs.check_lines.Goals as goal

pub pass_rows-pass-requires : goal.pass_rows-pass-requires
pass_rows-pass-requires c = let b = c.requires in (formed b, text_is b)

pub returns-in_err-line : goal.returns-in_err-line
returns-in_err-line c =
    let h = c.in_err-line.ensures in
    line_told h _ (omega arith)
    (at_row c.args.words.now c.args.text.now c.requires.good _ c.pass_rows-pass.ensures.fault_is (omega (arith, rows_are c.requires))) _ c.from_residual.ensures.1

pub first_repeated-again-requires : goal.first_repeated-again-requires
first_repeated-again-requires c =
    (laid_out c.args.words.now c.args.form (formed c.requires) (omega (arith, c.in_ok-line.ensures, c.pass_rows-pass.ensures.fault_is, rows_are c.requires)), text_is c.requires)

pub returns-in_err-line-2 : goal.returns-in_err-line-2
returns-in_err-line-2 c =
    let h = c.in_err-line-2.ensures in
    line_told h _ (omega arith)
    (at_name c.args.words.now c.args.text.now c.requires.good (omega (arith, c.in_ok-line.ensures, c.pass_rows-pass.ensures.fault_is, rows_are c.requires))
    _ c.first_repeated-again.ensures (omega (arith, rows_are c.requires))) _ c.from_residual-in_err-line-2.ensures.1

pub first_not_utf8-bad-requires : goal.first_not_utf8-bad-requires
first_not_utf8-bad-requires c = (
  laid_out c.args.words.now c.args.form (formed c.requires) (omega (arith, c.in_ok-line.ensures, c.pass_rows-pass.ensures.fault_is, rows_are c.requires)),
  text_is c.requires,
  text_fits c.requires,
)

pub returns-in_err-line-3 : goal.returns-in_err-line-3
returns-in_err-line-3 c =
    let h = c.in_err-line-3.ensures in
    line_told h _ (omega arith)
    (at_text c.args.words.now c.args.text.now c.requires.good (omega (arith, c.in_ok-line.ensures, c.pass_rows-pass.ensures.fault_is, rows_are c.requires))
    (omega (arith, c.in_ok-line-2.ensures, c.first_repeated-again.ensures, rows_are c.requires))
    _ c.first_not_utf8-bad.ensures (omega (arith, rows_are c.requires))) _ c.from_residual-in_err-line-3.ensures.1

pub returns-in_err-line-4 : goal.returns-in_err-line-4
returns-in_err-line-4 c =
    let h = c.in_err-line-4.ensures in
    line_told h _ (omega arith)
    (at_level c.args.words.now c.args.text.now c.requires.good (omega (arith, c.in_ok-line.ensures, c.pass_rows-pass.ensures.fault_is, rows_are c.requires))
    (omega (arith, c.in_ok-line-2.ensures, c.first_repeated-again.ensures, rows_are c.requires))
    (omega (arith, c.in_ok-line-3.ensures, c.first_not_utf8-bad.ensures, rows_are c.requires))
    _ (c.pass_rows-pass.ensures.deep_is (omega (arith, c.in_ok-line.ensures, rows_are c.requires))) (omega (arith, rows_are c.requires))) _ c.from_residual-in_err-line-4.ensures.1

pub returns : goal.returns
returns c =
    let deep_is = c.pass_rows-pass.ensures.deep_is (omega (arith, c.in_ok-line.ensures, rows_are c.requires)) in
    all_passed c.requires (omega (arith, c.in_ok-line.ensures, c.pass_rows-pass.ensures.fault_is, rows_are c.requires))
    (omega (arith, c.in_ok-line-2.ensures, c.first_repeated-again.ensures, rows_are c.requires))
    (omega (arith, c.in_ok-line-3.ensures, c.first_not_utf8-bad.ensures, rows_are c.requires))
    (omega (arith, c.in_ok-line-4.ensures, deep_is, rows_are c.requires))
