-- `turn_in` meets its contract, keyword by keyword. Assumes nothing.
use native.Mathlib.Omega.{arith}
use mathlib.Core.Path.{refl, sym, ap, ◌∙◌}
use Rattle.sheet.specs.Record.{doc_of}
use Rattle.rulesheet.specs.declared.code.Fields.TheVariants.{Schemas, Members, Branches, Counted}
use Rattle.rulesheet.specs.declared.clause.Clause.TheVariants.{AllOf, AnyOf, OneOf as Exactly, IfThenElse, DependentSchemas, Contains, Properties, PrefixItems}
use Rattle.rulesheet.specs.Clauses.{clause_means}
use Rattle.rulesheet.specs.Ruleset.{all_of, any_of, one_of, not_of, ref}
use Rattle.areas.specs.Cells.{pair_is, column}
use Rattle.clause.specs.Read.{before_in}
use Rattle.clause.proofs.Asserting.{sizes, list_read}
use borrow.Enum.Refused.{opened}
use Rattle.steps.proofs.Reading.{no_steps}
use Rattle.told.proofs.Earlier.{started_as}
use Rattle.line.proofs.Counted.{members_some, elements_some}
use Rattle.steps.proofs.Turns.{applied_child, turned_as, stops, skipped_none}
use Rattle.steps.proofs.turn.turn_in.Goals as goal

pub listed_turn-requires : goal.listed_turn-requires
listed_turn-requires c =
    (c.requires.turn_asked.rules_read.laid.clauses_laid.schemas_laid.formed, (list_read c.requires.clause_read.tested c.requires.turn_asked.rules_read (AllOf c.in-AllOf.es) c.in-AllOf.is Schemas c.in-AllOf.es refl).within)

pub listed_turn-requires-in-AnyOf : goal.listed_turn-requires-in-AnyOf
listed_turn-requires-in-AnyOf c =
    (c.requires.turn_asked.rules_read.laid.clauses_laid.schemas_laid.formed, (list_read c.requires.clause_read.tested c.requires.turn_asked.rules_read (AnyOf c.in-AnyOf.es) c.in-AnyOf.is Schemas c.in-AnyOf.es refl).within)

pub listed_turn-requires-in-OneOf : goal.listed_turn-requires-in-OneOf
listed_turn-requires-in-OneOf c =
    (c.requires.turn_asked.rules_read.laid.clauses_laid.schemas_laid.formed, (list_read c.requires.clause_read.tested c.requires.turn_asked.rules_read (Exactly c.in-OneOf.es) c.in-OneOf.is Schemas c.in-OneOf.es refl).within)

pub branch_turn-requires : goal.branch_turn-requires
branch_turn-requires c =
    (c.requires.turn_asked.rules_read.laid.clauses_laid.schemas_laid.formed, (list_read c.requires.clause_read.tested c.requires.turn_asked.rules_read (IfThenElse c.in-IfThenElse.es) c.in-IfThenElse.is Branches c.in-IfThenElse.es refl).within, sizes c.requires.clause_read.tested c.requires.turn_asked.rules_read (IfThenElse c.in-IfThenElse.es) c.in-IfThenElse.is)

pub depended_turn-requires : goal.depended_turn-requires
depended_turn-requires c = record {
  record_read = (c.requires.turn_asked.record_read, c.requires.turn_asked.row_in);
  rules_read = (c.requires.turn_asked.rules_read, list_read c.requires.clause_read.tested c.requires.turn_asked.rules_read (DependentSchemas c.in-DependentSchemas.es) c.in-DependentSchemas.is Members c.in-DependentSchemas.es refl);
}

pub counted_turn-requires : goal.counted_turn-requires
counted_turn-requires c = record {
  laid = (c.requires.turn_asked.record_read.laid, c.requires.turn_asked.row_in);
  one_entry_inside = (c.requires.turn_asked.rules_read.laid.clauses_laid.schemas_laid.formed, (list_read c.requires.clause_read.tested c.requires.turn_asked.rules_read (Contains c.in-Contains.es) c.in-Contains.is Counted c.in-Contains.es refl).within, sizes c.requires.clause_read.tested c.requires.turn_asked.rules_read (Contains c.in-Contains.es) c.in-Contains.is);
}

pub named_turn-requires : goal.named_turn-requires
named_turn-requires c = record {
  record_read = (c.requires.turn_asked.record_read, c.requires.turn_asked.row_in);
  rules_read = (c.requires.turn_asked.rules_read, list_read c.requires.clause_read.tested c.requires.turn_asked.rules_read (Properties c.in-Properties.es) c.in-Properties.is Members c.in-Properties.es refl);
}

pub additional_turn-requires : goal.additional_turn-requires
additional_turn-requires c =
    let asked = c.requires.turn_asked in
    let started = started_as c.args.rules.now c.args.rule_text.now _ c.args.clause _ c.in-AdditionalProperties.is c.requires.clause_read.means asked.started in
    let is = applied_child _ _ (sym (ap (clause_means c.args.rules.now c.args.rule_text.now) c.in-AdditionalProperties.is) ∙ c.requires.clause_read.means) in record {
      record_read_table_in_cells = (asked.record_read, asked.row_in, asked.room);
      rules_read = (asked.rules_read, asked.rule_in, asked.clause_inside);
      names_from = started.names_from _ refl;
      names_marked = asked.marked _ is;
    }

pub placed_turn-requires : goal.placed_turn-requires
placed_turn-requires c = record {
  laid = (c.requires.turn_asked.record_read.laid, c.requires.turn_asked.row_in);
  list_inside = (c.requires.turn_asked.rules_read.laid.clauses_laid.schemas_laid.formed, (list_read c.requires.clause_read.tested c.requires.turn_asked.rules_read (PrefixItems c.in-PrefixItems.es) c.in-PrefixItems.is Schemas c.in-PrefixItems.es refl).within);
}

pub rest_turn-requires : goal.rest_turn-requires
rest_turn-requires c =
    (c.requires.turn_asked.record_read.laid, c.requires.turn_asked.row_in)

pub members_in-many-requires : goal.members_in-many-requires
members_in-many-requires c =
    (c.requires.turn_asked.record_read.laid, c.requires.turn_asked.row_in)

pub fresh_turn-requires : goal.fresh_turn-requires
fresh_turn-requires c = record {
  laid_many_children = (c.requires.turn_asked.record_read.laid, c.requires.turn_asked.row_in, λ ts. omega (arith, c.members_in-many.ensures ts, members_some ((doc_of c.args.«record».now ts).value c.args.p.row.0)));
  table_in_cells = (c.requires.turn_asked.room, c.requires.turn_asked.rule_in);
}

pub elements_in-many-requires : goal.elements_in-many-requires
elements_in-many-requires c =
    (c.requires.turn_asked.record_read.laid, c.requires.turn_asked.row_in)

pub fresh_turn-requires-in-UnevaluatedItems : goal.fresh_turn-requires-in-UnevaluatedItems
fresh_turn-requires-in-UnevaluatedItems c = record {
  laid_many_children = (c.requires.turn_asked.record_read.laid, c.requires.turn_asked.row_in, λ ts. omega (arith, c.elements_in-many.ensures ts, elements_some ((doc_of c.args.«record».now ts).value c.args.p.row.0)));
  table_in_cells = (c.requires.turn_asked.room, c.requires.turn_asked.rule_in);
}

pub returns-in-AllOf : goal.returns-in-AllOf
returns-in-AllOf c =
    turned_as c.args.rules.now c.args.rule_text.now c.args.clause _ c.in-AllOf.is (c.listed_turn.ensures (doc_of c.args.«record».now c.args.text.now) all_of c.args.tally (pair_is c.args.p) (before_in c.args.rules.now c.args.rule_text.now c.args.p.rule.0 c.args.i) (column c.args.rule_form.m c.args.cells.now c.args.p.rule.0) refl)

pub returns-in-AnyOf : goal.returns-in-AnyOf
returns-in-AnyOf c =
    turned_as c.args.rules.now c.args.rule_text.now c.args.clause _ c.in-AnyOf.is (c.listed_turn-in-AnyOf.ensures (doc_of c.args.«record».now c.args.text.now) any_of c.args.tally (pair_is c.args.p) (before_in c.args.rules.now c.args.rule_text.now c.args.p.rule.0 c.args.i) (column c.args.rule_form.m c.args.cells.now c.args.p.rule.0) refl)

pub returns-in-OneOf : goal.returns-in-OneOf
returns-in-OneOf c =
    turned_as c.args.rules.now c.args.rule_text.now c.args.clause _ c.in-OneOf.is (c.listed_turn-in-OneOf.ensures (doc_of c.args.«record».now c.args.text.now) one_of c.args.tally (pair_is c.args.p) (before_in c.args.rules.now c.args.rule_text.now c.args.p.rule.0 c.args.i) (column c.args.rule_form.m c.args.cells.now c.args.p.rule.0) refl)

pub returns-in-Not : goal.returns-in-Not
returns-in-Not c =
    turned_as c.args.rules.now c.args.rule_text.now c.args.clause _ c.in-Not.is (c.single_turn.ensures (doc_of c.args.«record».now c.args.text.now) not_of c.args.tally (pair_is c.args.p) (before_in c.args.rules.now c.args.rule_text.now c.args.p.rule.0 c.args.i) (column c.args.rule_form.m c.args.cells.now c.args.p.rule.0) refl)

pub returns-in-Ref : goal.returns-in-Ref
returns-in-Ref c =
    turned_as c.args.rules.now c.args.rule_text.now c.args.clause _ c.in-Ref.is (c.single_turn-in-Ref.ensures (doc_of c.args.«record».now c.args.text.now) ref c.args.tally (pair_is c.args.p) (before_in c.args.rules.now c.args.rule_text.now c.args.p.rule.0 c.args.i) (column c.args.rule_form.m c.args.cells.now c.args.p.rule.0) refl)

pub returns-in-IfThenElse : goal.returns-in-IfThenElse
returns-in-IfThenElse c =
    turned_as c.args.rules.now c.args.rule_text.now c.args.clause _ c.in-IfThenElse.is (c.branch_turn.ensures (doc_of c.args.«record».now c.args.text.now) (pair_is c.args.p) (before_in c.args.rules.now c.args.rule_text.now c.args.p.rule.0 c.args.i) (column c.args.rule_form.m c.args.cells.now c.args.p.rule.0) refl)

pub returns-in-DependentSchemas : goal.returns-in-DependentSchemas
returns-in-DependentSchemas c =
    turned_as c.args.rules.now c.args.rule_text.now c.args.clause _ c.in-DependentSchemas.is (c.depended_turn.ensures c.args.tally (pair_is c.args.p) (before_in c.args.rules.now c.args.rule_text.now c.args.p.rule.0 c.args.i) (column c.args.rule_form.m c.args.cells.now c.args.p.rule.0) refl)

pub returns-in-Contains : goal.returns-in-Contains
returns-in-Contains c =
    turned_as c.args.rules.now c.args.rule_text.now c.args.clause _ c.in-Contains.is (c.counted_turn.ensures c.args.text.now _ _ c.args.tally (pair_is c.args.p) (before_in c.args.rules.now c.args.rule_text.now c.args.p.rule.0 c.args.i) (column c.args.rule_form.m c.args.cells.now c.args.p.rule.0) refl)

pub returns-in-Properties : goal.returns-in-Properties
returns-in-Properties c =
    turned_as c.args.rules.now c.args.rule_text.now c.args.clause _ c.in-Properties.is (c.named_turn.ensures c.args.tally (pair_is c.args.p) (before_in c.args.rules.now c.args.rule_text.now c.args.p.rule.0 c.args.i) (column c.args.rule_form.m c.args.cells.now c.args.p.rule.0) refl)

pub returns-in-AdditionalProperties : goal.returns-in-AdditionalProperties
returns-in-AdditionalProperties c =
    turned_as c.args.rules.now c.args.rule_text.now c.args.clause _ c.in-AdditionalProperties.is (c.additional_turn.ensures c.args.tally)

pub returns-in-PrefixItems : goal.returns-in-PrefixItems
returns-in-PrefixItems c =
    turned_as c.args.rules.now c.args.rule_text.now c.args.clause _ c.in-PrefixItems.is (c.placed_turn.ensures c.args.text.now c.args.tally (pair_is c.args.p) (before_in c.args.rules.now c.args.rule_text.now c.args.p.rule.0 c.args.i) (column c.args.rule_form.m c.args.cells.now c.args.p.rule.0) refl)

pub returns-in-Items : goal.returns-in-Items
returns-in-Items c =
    turned_as c.args.rules.now c.args.rule_text.now c.args.clause _ c.in-Items.is (c.rest_turn.ensures c.args.text.now (pair_is c.args.p) (before_in c.args.rules.now c.args.rule_text.now c.args.p.rule.0 c.args.i) (column c.args.rule_form.m c.args.cells.now c.args.p.rule.0) refl (started_as c.args.rules.now c.args.rule_text.now _ c.args.clause _ c.in-Items.is c.requires.clause_read.means c.requires.turn_asked.started) c.args.tally)

pub returns-in-UnevaluatedProperties : goal.returns-in-UnevaluatedProperties
returns-in-UnevaluatedProperties c =
    turned_as c.args.rules.now c.args.rule_text.now c.args.clause _ c.in-UnevaluatedProperties.is (c.fresh_turn.ensures.fresh_members c.args.text.now (c.members_in-many.ensures c.args.text.now) c.args.tally (before_in c.args.rules.now c.args.rule_text.now c.args.p.rule.0 c.args.i))

pub returns-in-UnevaluatedItems : goal.returns-in-UnevaluatedItems
returns-in-UnevaluatedItems c =
    turned_as c.args.rules.now c.args.rule_text.now c.args.clause _ c.in-UnevaluatedItems.is (c.fresh_turn-in-UnevaluatedItems.ensures.fresh_elements c.args.text.now (c.elements_in-many.ensures c.args.text.now) c.args.tally (before_in c.args.rules.now c.args.rule_text.now c.args.p.rule.0 c.args.i))

pub returns-in_default : goal.returns-in_default
returns-in_default c =
    let none = no_steps (doc_of c.args.«record».now c.args.text.now) (pair_is c.args.p) (before_in c.args.rules.now c.args.rule_text.now c.args.p.rule.0 c.args.i) c.args.rules.now c.args.rule_text.now c.args.clause (opened c.in_default.in_default-own.keys15) in stops {y = c.args.x} refl (skipped_none (omega arith)) (omega arith)
