-- `named_turn` meets its contract. Assumes nothing.
use mathlib.Core.Path.{refl}
use native.Mathlib.Omega.{arith}
use Rattle.sheet.specs.Record.{doc_of}
use Rattle.looking.proofs.Naming.{child_inside}
use Rattle.line.proofs.Counted.{members_some}
use Rattle.steps.proofs.Aiming.{named_turn, named_end}
use Rattle.steps.proofs.members.named_turn.Goals as goal

pub returns-in_err-at : goal.returns-in_err-at
returns-in_err-at c =
    λ t p before κ same. named_end t (doc_of c.args.«record».now c.args.text.now) p before κ c.args.rules.now c.args.rule_text.now c.args.list c.args.x _ ((c.first_named.ensures p same).past c.in_err-at.was) c.from_residual.ensures

pub children_of-requires : goal.children_of-requires
children_of-requires c = (c.requires.record_read.0.laid.formed, c.requires.record_read.1)

pub overflow_add-child : goal.overflow_add-child
overflow_add-child c =
    let ts = c.args.text.now in
    let here = ((c.first_named.ensures (record { row = c.args.row.0; rule = 0 }) refl).found c.in_ok-at.was).member in
    omega (arith, child_inside c.args.«record».now ts c.args.form c.requires.record_read.0.laid c.args.row.0 c.children_of.result.first c.children_of.result.count c.in_ok-at.n c.requires.record_read.1 (c.children_of.ensures.first_is ts) (c.children_of.ensures.count_is ts) (omega (arith, here, members_some ((doc_of c.args.«record».now ts).value c.args.row.0), c.children_of.ensures.count_is ts)))

pub member_schema-requires : goal.member_schema-requires
member_schema-requires c =
    (c.requires.rules_read.0.laid.clauses_laid.schemas_laid.formed, c.requires.rules_read.1.within, ((c.first_named.ensures (record { row = c.args.row.0; rule = 0 }) refl).found c.in_ok-at.was).within)

pub returns : goal.returns
returns c =
    λ t p before κ same.
    named_turn t (doc_of c.args.«record».now c.args.text.now) p before κ c.args.rules.now c.args.rule_text.now c.args.list c.args.x _ _ _ _ ((c.first_named.ensures p same).found c.in_ok-at.was) (rw same (c.children_of.ensures.first_is c.args.text.now)) refl (c.member_schema.ensures c.args.rule_text.now) c.at_step.ensures
