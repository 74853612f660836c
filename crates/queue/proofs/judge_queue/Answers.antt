use mathlib.Core.Path.{sym, ap, ◌∙◌}
use Rattle.std.proofs.lemmas.Result.{err_from_is_err_and}
use Rattle.listing.specs.Listing.{queued_outcome}
use Rattle.queue.proofs.Tables.{refused_left, tested, all_left}
use Rattle.queue.proofs.judge_queue.Goals as goal

pub returns-in_err-many : goal.returns-in_err-many
returns-in_err-many c =
    let p = err_from_is_err_and c.from_residual.result c.from_residual.ensures.1 in
    rw (p.1, p.2) (refused_left c.args.words.now c.args.bytes.now c.args.listing.now c.args.rules.now c.args.rule_text.now c.args.cells.now c.args.list.now c.args.answers.now _ c.in_err-many.ensures)

pub judge_all-requires : goal.judge_all-requires
judge_all-requires c = record {
  tested = tested c.args.words.now c.args.bytes.now c.args.listing.now c.args.rules.now c.args.rule_text.now c.args.cells.now c.args.list.now c.args.answers.now _ c.in_ok-many.ensures;
  rules_checked = c.check_rules-checked.ensures;
}

pub returns : goal.returns
returns c = all_left c.args.words.now c.args.bytes.now c.args.listing.now c.args.rules.now c.args.rule_text.now c.args.cells.now c.args.list.now c.args.answers.now _ c.in_ok-many.ensures c.judge_all.ensures
