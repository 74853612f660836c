-- `judge_in_areas` meets its contract. Assumes nothing.
use mathlib.Core.Path.{sym, ap, ◌∙◌}
use native.Mathlib.Omega.{arith}
use borrow.Author.Rules.{rules}
use Rattle.meaning.specs.Answer.{list_room}
use Rattle.lent.specs.Lent.{way_by}
use Rattle.meaning.proofs.Answers.{cells_short, list_short, size_small}
use Rattle.lent.proofs.Reading.{lt_by, le_by}
use Rattle.judge.proofs.Calls.{record_trailer, rules_trailer, sheets_read, call_roomy, run_left}
use borrow.Author.Rules.{rules}
use Rattle.judge.proofs.judge_in_areas.Goals as goal

pub overflow_mul-pairs : goal.overflow_mul-pairs
overflow_mul-pairs c = omega (arith, size_small c.args.«record».now c.args.text.now c.args.rules.now c.args.rule_text.now c.args.n c.args.m c.requires.text_value c.requires.rule_text_value)

pub returns-then-cells-size : goal.returns-then-cells-size
returns-then-cells-size c =
    sym (cells_short (way_by c.args.cut) c.args.«record».now c.args.text.now c.args.rules.now c.args.rule_text.now c.args.cells.now c.args.list.now c.args.n c.requires.text_value c.args.m c.requires.rule_text_value (lt_by c.if-cells-size.true c.wide-size.ensures))

pub returns-then-list-list_room : goal.returns-then-list-list_room
returns-then-list-list_room c =
    let w = way_by c.args.cut in
    sym (list_short w c.args.«record».now c.args.text.now c.args.rules.now c.args.rule_text.now c.args.cells.now c.args.list.now c.args.n c.requires.text_value c.args.m c.requires.rule_text_value (le_by c.wide-size.ensures c.if-cells-size.false) (lt_by c.if-list-list_room.true (c.list_room.ensures ∙ ap (list_room w) c.wide-size.ensures)))

pub of-form-requires : goal.of-form-requires
of-form-requires c = record_trailer c.args.«record».now c.args.text.now c.args.rules.now c.args.rule_text.now c.args.n c.args.m c.requires.text_value c.requires.rule_text_value

pub of-rule_form-requires : goal.of-rule_form-requires
of-rule_form-requires c = rules_trailer c.args.«record».now c.args.text.now c.args.rules.now c.args.rule_text.now c.args.n c.args.m c.requires.text_value c.requires.rule_text_value

pub run-v-requires : goal.run-v-requires
run-v-requires c = record {
  sheets_read = sheets_read c.args.«record».now c.args.text.now c.args.rules.now c.args.rule_text.now c.args.n c.args.m c.requires.text_value c.requires.rule_text_value c.of-form.ensures c.of-rule_form.ensures;
  roomy = call_roomy c.args.«record».now c.args.text.now c.args.rules.now c.args.rule_text.now c.args.n c.args.m c.requires.text_value c.requires.rule_text_value (way_by c.args.cut) c.wide-size.ensures c.list_room.ensures c.if-cells-size.false c.if-list-list_room.false;
}

pub returns : goal.returns
returns c =
    run_left c.args.«record».now c.args.text.now c.args.rules.now c.args.rule_text.now c.args.n c.args.m c.requires.text_value c.requires.rule_text_value (way_by c.args.cut) c.args.cells.now c.args.list.now c.wide-size.ensures c.list_room.ensures c.if-cells-size.false c.if-list-list_room.false c.run-v.result c.run-v.ensures
