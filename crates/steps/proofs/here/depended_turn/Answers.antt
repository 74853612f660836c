-- `depended_turn` meets its contract. Assumes nothing.
use mathlib.Core.Path.{refl}
use Rattle.sheet.specs.Record.{doc_of}
use Rattle.steps.proofs.Choosing.{depended_turn, depended_end}
use Rattle.steps.proofs.here.depended_turn.Goals as goal

pub returns-in_err-at : goal.returns-in_err-at
returns-in_err-at c =
    λ t p before κ same. depended_end t (doc_of c.args.«record».now c.args.text.now) p before κ c.args.rules.now c.args.rule_text.now c.args.list c.args.x _ ((c.first_named.ensures p same).past c.in_err-at.was) c.from_residual.ensures

pub member_schema-requires : goal.member_schema-requires
member_schema-requires c =
    (c.requires.rules_read.0.laid.clauses_laid.schemas_laid.formed, c.requires.rules_read.1.within, ((c.first_named.ensures (record { row = c.args.row.0; rule = 0 }) refl).found c.in_ok-at.was).within)

pub returns : goal.returns
returns c =
    λ t p before κ same.
    depended_turn t (doc_of c.args.«record».now c.args.text.now) p before κ c.args.rules.now c.args.rule_text.now c.args.list c.args.x c.args.row _ _ same ((c.first_named.ensures p same).found c.in_ok-at.was) (c.member_schema.ensures c.args.rule_text.now) c.at_step.ensures
