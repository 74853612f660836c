-- `line` meets its contract. Assumes nothing.
use native.Mathlib.Omega.{arith}
use Rattle.line.specs.Lines.{LineAsked}
use Rattle.lent.proofs.Reading.{row_low, rule_low, rows_are}
use Rattle.stepping.proofs.line.Goals as goal

pub line_of-requires : goal.line_of-requires
line_of-requires c =
    let A = c.requires.reads_clause.0 in
    let S = c.args.lent.now.sheets in
    (S.record_read.laid, row_low S A.inside)

pub returns : goal.returns
returns c =
    let A = c.requires.reads_clause.0 in
    let S = c.args.lent.now.sheets in
    let asked : LineAsked c.args.lent.now.rules.now c.args.lent.now.rule_text.now _ c.args.p c.args.i c.args.row c.args.from =
    record { rules_read = S.rules_read; rule_in = rule_low S A.inside; clause_inside = A.clause_inside; row_is = c.requires.reads_clause.1; started = c.requires.started } in record {
      in_line = c.line_of.ensures.lined_in c.args.lent.now.text.now c.args.lent.now.rules.now c.args.lent.now.rule_text.now _ asked;
      rows_inside = omega (arith, rows_are S, c.line_of.ensures.rows_inside);
    }
