-- `check_rest` meets its contract: each answer is the line of the table that it names, since those before it do not apply. Assumes nothing.
use native.Mathlib.Omega.{arith}
use mathlib.Core.Path.{sym, ap, ◌∙◌}
use Rattle.sheet.specs.Refusals.{accepted}
use Rattle.sheet.proofs.Tables.{line_told}
use Rattle.rulesheet.proofs.Trailers.{form_m}
use Rattle.rulecheck.proofs.Rest.{trailer_formed, rest_loop, rest_chain, rest_none}
use Rattle.rulecheck.proofs.check_rest.Goals as goal

pub check_unguarded-found-requires : goal.check_unguarded-found-requires
check_unguarded-found-requires c = c.requires.1.rules_laid

pub returns-in_err-line : goal.returns-in_err-line
returns-in_err-line c =
    let ws = c.args.words.now in
    let ts = c.args.text.now in
    let form = c.args.form in
    let f = trailer_formed ws ts form c.requires.0 in
    let h = c.in_err-line.ensures in
    line_told h _ (omega arith)
    (rest_loop ws ts form c.requires.0 c.requires.1 c.in_ok-check_texts.ensures _ c.check_unguarded-found.ensures.looped_is (omega (arith, form_m ws form f))) _ c.from_residual-in_err-line.ensures.1

pub returns-in_err-line-2 : goal.returns-in_err-line-2
returns-in_err-line-2 c =
    let ws = c.args.words.now in
    let ts = c.args.text.now in
    let form = c.args.form in
    let f = trailer_formed ws ts form c.requires.0 in
    let h = c.in_err-line-2.ensures in
    line_told h _ (omega arith)
    (rest_chain ws ts form c.requires.0 c.requires.1 c.in_ok-check_texts.ensures (omega (arith, c.in_ok-line.ensures, c.check_unguarded-found.ensures.looped_is, form_m ws form f))
    _ c.check_unguarded-found.ensures.long_is (omega (arith, form_m ws form f))) _ c.from_residual-in_err-line-2.ensures.1

pub returns : goal.returns
returns c =
    let ws = c.args.words.now in
    let ts = c.args.text.now in
    let form = c.args.form in
    let f = trailer_formed ws ts form c.requires.0 in
    sym (rest_none ws ts form c.requires.0 c.requires.1 c.in_ok-check_texts.ensures (omega (arith, c.in_ok-line.ensures, c.check_unguarded-found.ensures.looped_is, form_m ws form f))
    (omega (arith, c.in_ok-line-2.ensures, c.check_unguarded-found.ensures.long_is, form_m ws form f))
    ∙ ap accepted (sym (form_m ws form f)))
