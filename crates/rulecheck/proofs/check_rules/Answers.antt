-- `check_rules` meets its contract. Where one pass tells that the sheet is in order, the lines up to 7 do not apply, and where its text is ASCII none does. Assumes nothing.
use mathlib.Core.Path.{sym, ap, ◌∙◌}
use native.Mathlib.Omega.{arith}
use borrow.Author.Tests.{not-true, not-false}
use Rattle.sheet.specs.Refusals.{accepted}
use Rattle.rulesheet.proofs.Trailers.{form_m}
use Rattle.rules.specs.Accepted.{TrailerFine}
use Rattle.rules.proofs.Checks.{at_trailer, words_in_order, text_length, text_short}
use Rattle.rulecheck.proofs.Rest.{trailer_formed, rest_plain, rest_short}
use Rattle.rulecheck.proofs.check_rules.Goals as goal

pub returns-then-not-trailer_ok : goal.returns-then-not-trailer_ok
returns-then-not-trailer_ok c = sym (at_trailer c.args.words.now c.args.text.now (sym c.trailer_ok.ensures ∙ not-true _ c.if-not-trailer_ok.true-raw))

pub of-form-requires : goal.of-form-requires
of-form-requires c = words_in_order c.args.words.now c.args.text.now (sym c.trailer_ok.ensures ∙ not-false _ c.if-not-trailer_ok.false-raw)

pub told-order-requires : goal.told-order-requires
told-order-requires c = (record { trailer = words_in_order c.args.words.now c.args.text.now (sym c.trailer_ok.ensures ∙ not-false _ c.if-not-trailer_ok.false-raw); same_form = c.of-form.ensures }, text_length c.args.words.now c.args.text.now (sym c.trailer_ok.ensures ∙ not-false _ c.if-not-trailer_ok.false-raw))

pub check_lines-requires : goal.check_lines-requires
check_lines-requires c = (record { good = (sym c.trailer_ok.ensures ∙ not-false _ c.if-not-trailer_ok.false-raw); same_form = c.of-form.ensures })

pub check_rest-requires : goal.check_rest-requires
check_rest-requires c =
    ((record { good = (sym c.trailer_ok.ensures ∙ not-false _ c.if-not-trailer_ok.false-raw); same_form = c.of-form.ensures }), c.told-order.ensures.laid (not-false _ c.if-not-order.false))

pub is_ascii-requires : goal.is_ascii-requires
is_ascii-requires c =
    omega (arith, text_short c.args.words.now c.args.text.now (sym c.trailer_ok.ensures ∙ not-false _ c.if-not-trailer_ok.false-raw))

pub returns-then-is_ascii : goal.returns-then-is_ascii
returns-then-is_ascii c =
    let fine : TrailerFine c.args.words.now c.args.text.now c.of-form.result = (record { good = (sym c.trailer_ok.ensures ∙ not-false _ c.if-not-trailer_ok.false-raw); same_form = c.of-form.ensures }) in
    let told = c.told-order.ensures in
    sym (rest_plain c.args.words.now c.args.text.now c.of-form.result fine (told.laid (not-false _ c.if-not-order.false)) (c.is_ascii.ensures c.if-is_ascii.true) (told.short (not-false _ c.if-not-order-2.false))
    ∙ ap accepted (sym (form_m c.args.words.now c.of-form.result (trailer_formed c.args.words.now c.args.text.now c.of-form.result fine))))

pub check_texts-requires : goal.check_texts-requires
check_texts-requires c = ((record { good = (sym c.trailer_ok.ensures ∙ not-false _ c.if-not-trailer_ok.false-raw); same_form = c.of-form.ensures }), c.told-order.ensures.laid (not-false _ c.if-not-order.false))

pub returns : goal.returns
returns c =
    let fine : TrailerFine c.args.words.now c.args.text.now c.of-form.result = (record { good = (sym c.trailer_ok.ensures ∙ not-false _ c.if-not-trailer_ok.false-raw); same_form = c.of-form.ensures }) in
    let told = c.told-order.ensures in
    sym (rest_short c.args.words.now c.args.text.now c.of-form.result fine (told.laid (not-false _ c.if-not-order.false)) c.in_ok-check_texts.ensures (told.short (not-false _ c.if-not-order-2.false))
    ∙ ap accepted (sym (form_m c.args.words.now c.of-form.result (trailer_formed c.args.words.now c.args.text.now c.of-form.result fine))))
