use mathlib.Core.Path.{refl}
use native.Mathlib.Omega.{arith}
use borrow.Author.Rules.{rules}
use Rattle.listing.specs.Listing.{records_in}
use Rattle.queue.proofs.Turns.{going_begun, going_on, going_end}
use Rattle.queue.proofs.judge_all.Goals as goal

pub loop-i-init : goal.loop-i-init
loop-i-init c =
    (refl, refl, going_begun c.args.words.now c.args.bytes.now c.args.listing.now c.args.rules.now c.args.rule_text.now c.args.cells.now c.args.list.now c.args.answers.now (records_in c.args.listing.now))

pub judge_listed-requires : goal.judge_listed-requires
judge_listed-requires c = record {
  record_listed = record { listed = omega (arith, c.records_in-many.ensures); within = c.requires.tested.all_within c.loop-i.i (omega (arith, c.records_in-many.ensures)) };
  rules_checked = c.requires.rules_checked;
}

pub bounds-answers-i : goal.bounds-answers-i
bounds-answers-i c =
    omega (arith, c.records_in-many.ensures, c.loop-i.invariant.2.long, c.requires.tested.answers_enough)

pub loop-i-preserved : goal.loop-i-preserved
loop-i-preserved c =
    (search rules, search rules, going_on c.args.words.now c.args.bytes.now c.args.listing.now c.args.rules.now c.args.rule_text.now c.args.cells.now c.args.list.now c.args.answers.now (records_in c.args.listing.now) c.loop-i.invariant.2 (omega (arith, c.records_in-many.ensures)) (omega (arith, c.records_in-many.ensures, c.loop-i.invariant.2.long, c.requires.tested.answers_enough)) c.judge_listed.ensures)

pub returns : goal.returns
returns c =
    going_end c.args.words.now c.args.bytes.now c.args.listing.now c.args.rules.now c.args.rule_text.now c.args.cells.now c.args.list.now c.args.answers.now (records_in c.args.listing.now) c.loop-i.invariant.2 (omega (arith, c.records_in-many.ensures)) refl
