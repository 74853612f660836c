-- `check_record` meets its contract: a trailer at fault is the table's first line, and the rest is asked of rows in order or line by line.
-- Assumes nothing.
use mathlib.Core.Path.{sym, ◌∙◌}
use borrow.Author.Tests.{not-true, not-false}
use Rattle.sheet.proofs.Checks.{words_in_order, at_trailer}
use Rattle.recordcheck.proofs.Beginning.{formed, text_is}
use Rattle.recordcheck.specs.Order.{Begun}
use Rattle.recordcheck.proofs.check_record.Goals as goal

pub returns-then-not-trailer_ok : goal.returns-then-not-trailer_ok
returns-then-not-trailer_ok c =
    sym (at_trailer c.args.words.now c.args.text.now (sym c.trailer_ok.ensures ∙ not-true _ c.if-not-trailer_ok.true-raw))

pub of-form-requires : goal.of-form-requires
of-form-requires c =
    words_in_order c.args.words.now c.args.text.now (sym c.trailer_ok.ensures ∙ not-false _ c.if-not-trailer_ok.false-raw)

pub in_order-requires : goal.in_order-requires
in_order-requires c =
    let good = sym c.trailer_ok.ensures ∙ not-false _ c.if-not-trailer_ok.false-raw in
    let b : Begun c.args.words.now c.args.text.now c.of-form.result = record { good = good; same_form = c.of-form.ensures } in
    (formed b, text_is b)

pub check_texts-requires : goal.check_texts-requires
check_texts-requires c =
    let good = sym c.trailer_ok.ensures ∙ not-false _ c.if-not-trailer_ok.false-raw in
    (record { good = good; same_form = c.of-form.ensures }, c.in_order.ensures c.if-in_order.true)

pub returns-then-in_order : goal.returns-then-in_order
returns-then-in_order c = c.check_texts.ensures

pub check_lines-requires : goal.check_lines-requires
check_lines-requires c =
    record { good = sym c.trailer_ok.ensures ∙ not-false _ c.if-not-trailer_ok.false-raw; same_form = c.of-form.ensures }

pub returns : goal.returns
returns c = c.check_lines.ensures
