use mathlib.Core.Path.{refl, sym, ap, ◌∙◌}
use native.Mathlib.Omega.{arith}
use Rattle.sheet.specs.Record.{doc_of}
use Rattle.rulesheet.specs.declared.form.SchemaRow.{SchemaRow}
use Rattle.areas.specs.Cells.{pair_is}
use Rattle.clause.specs.Read.{before_in}
use Rattle.looking.proofs.Naming.{child_inside}
use Rattle.steps.proofs.Turns.{skipped_none}
use Rattle.told.proofs.Earlier.{before_long}
use Rattle.line.proofs.Counted.{members_some}
use Rattle.steps.proofs.Aiming.{other_turn, other_more, other_end}
use Rattle.steps.proofs.members.other_turn.Goals as goal

pub schema_at-start-requires : goal.schema_at-start-requires
schema_at-start-requires c = (c.requires.rules_read.0.laid.clauses_laid.schemas_laid.formed, c.requires.rules_read.1)

pub members_in-many-requires : goal.members_in-many-requires
members_in-many-requires c = (c.requires.record_read.0.laid, c.requires.record_read.1)

pub children_of-first-requires : goal.children_of-first-requires
children_of-first-requires c = (c.requires.record_read.0.laid.formed, c.requires.record_read.1)

pub loop-at-init : goal.loop-at-init
loop-at-init c = λ κ t. skipped_none (omega arith)

pub overflow_add-row : goal.overflow_add-row
overflow_add-row c =
    omega (arith, child_inside c.args.«record».now c.args.text.now c.args.form c.requires.record_read.0.laid c.args.p.row.0 c.children_of-first.result.first c.children_of-first.result.count c.loop-at.at c.requires.record_read.1 (c.children_of-first.ensures.first_is c.args.text.now) (c.children_of-first.ensures.count_is c.args.text.now) (omega (arith, members_some ((doc_of c.args.«record».now c.args.text.now).value c.args.p.row.0), c.members_in-many.ensures c.args.text.now, c.children_of-first.ensures.count_is c.args.text.now, c.loop-at-test.true)))

pub unnamed_in-requires : goal.unnamed_in-requires
unnamed_in-requires c =
    let rules = c.requires.rules_read in
    let told = c.requires.names_from in
    let at = ap (λ (row : SchemaRow). row.first) c.schema_at-start.ensures in
    let low = rules.2 in
    let long = before_long c.args.p.rule.0 _ c.args.i (rules.0.laid, rules.1, at, omega arith) c.args.rule_text.now in record {
      record_read = (c.requires.record_read.0, (child_inside c.args.«record».now c.args.text.now c.args.form c.requires.record_read.0.laid c.args.p.row.0 c.children_of-first.result.first c.children_of-first.result.count c.loop-at.at c.requires.record_read.1 (c.children_of-first.ensures.first_is c.args.text.now) (c.children_of-first.ensures.count_is c.args.text.now) (omega (arith, members_some ((doc_of c.args.«record».now c.args.text.now).value c.args.p.row.0), c.members_in-many.ensures c.args.text.now, c.children_of-first.ensures.count_is c.args.text.now, c.loop-at-test.true))).0);
      rules_read = (rules.0, rules.1, at, omega arith);
      none_named_before_from = (omega (arith, told.within, long), told.none);
    }

pub returns-then-unnamed_in : goal.returns-then-unnamed_in
returns-then-unnamed_in c =
    let inv = c.loop-at.invariant in
    let below = c.loop-at-test.true in
    λ κ t.
    other_turn t (doc_of c.args.«record».now c.args.text.now) (pair_is c.args.p) (before_in c.args.rules.now c.args.rule_text.now c.args.p.rule.0 c.args.i) κ c.args.x c.loop-at.at _ c.args.rule.0 (c.children_of-first.ensures.first_is c.args.text.now) _ c.args.rule _ (inv κ t) c.loop-at.auto.at (rw (← c.members_in-many.ensures c.args.text.now) below) (omega arith) refl refl (sym (c.unnamed_in.ensures (pair_is c.args.p)) ∙ c.if-unnamed_in.true) c.at_step.ensures

pub loop-at-preserved : goal.loop-at-preserved
loop-at-preserved c =
    let inv = c.loop-at.invariant in
    λ κ t.
    other_more t (doc_of c.args.«record».now c.args.text.now) (pair_is c.args.p) (before_in c.args.rules.now c.args.rule_text.now c.args.p.rule.0 c.args.i) κ c.args.x c.loop-at.at _ c.args.rule.0 (c.children_of-first.ensures.first_is c.args.text.now) (inv κ t) (sym (c.unnamed_in.ensures (pair_is c.args.p)) ∙ c.if-unnamed_in.false)

pub returns : goal.returns
returns c =
    let inv = c.loop-at.invariant in
    let past = c.loop-at-test.false in
    λ κ t.
    other_end t (doc_of c.args.«record».now c.args.text.now) (pair_is c.args.p) (before_in c.args.rules.now c.args.rule_text.now c.args.p.rule.0 c.args.i) κ c.args.x c.loop-at.at _ c.args.rule.0 (c.children_of-first.ensures.first_is c.args.text.now) _ (inv κ t) (rw (← c.members_in-many.ensures c.args.text.now) (omega arith)) refl
