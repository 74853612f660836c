-- `passes_test` meets its contract, keyword by keyword. Assumes nothing.
use mathlib.Core.Path.{refl}
use lib.ListN.{length}
use Rattle.sheet.specs.Record.{doc_of}
use Rattle.meaning.specs.Rules.{passes}
use Rattle.clause.proofs.Asserting.{answered}
use Rattle.clause.proofs.test.passes_test.Goals as goal

pub returns-in-Never : goal.returns-in-Never
unfolding passes
returns-in-Never c =
    answered c.args.rules.now c.args.rule_text.now (doc_of c.args.«record».now c.args.text.now) c.args.row.0 _ _ _ _ c.in-Never.is refl refl

pub returns-in-Types : goal.returns-in-Types
unfolding passes
returns-in-Types c =
    answered c.args.rules.now c.args.rule_text.now (doc_of c.args.«record».now c.args.text.now) c.args.row.0 _ _ _ _ c.in-Types.is refl (c.typed.ensures _ (c.number_in.ensures c.args.text.now) (c.kind_of.ensures c.args.text.now))

pub returns-in-Enum : goal.returns-in-Enum
unfolding passes
returns-in-Enum c =
    answered c.args.rules.now c.args.rule_text.now (doc_of c.args.«record».now c.args.text.now) c.args.row.0 _ _ _ _ c.in-Enum.is refl c.enum_holds.ensures

pub returns-in-Minimum : goal.returns-in-Minimum
unfolding passes
returns-in-Minimum c =
    answered c.args.rules.now c.args.rule_text.now (doc_of c.args.«record».now c.args.text.now) c.args.row.0 _ _ _ _ c.in-Minimum.is refl (c.minimum.ensures _ (c.number_in-in-Minimum.ensures c.args.text.now))

pub returns-in-Maximum : goal.returns-in-Maximum
unfolding passes
returns-in-Maximum c =
    answered c.args.rules.now c.args.rule_text.now (doc_of c.args.«record».now c.args.text.now) c.args.row.0 _ _ _ _ c.in-Maximum.is refl (c.maximum.ensures _ (c.number_in-in-Maximum.ensures c.args.text.now))

pub returns-in-ExclusiveMinimum : goal.returns-in-ExclusiveMinimum
unfolding passes
returns-in-ExclusiveMinimum c =
    answered c.args.rules.now c.args.rule_text.now (doc_of c.args.«record».now c.args.text.now) c.args.row.0 _ _ _ _ c.in-ExclusiveMinimum.is refl (c.exclusive_minimum.ensures _ (c.number_in-in-ExclusiveMinimum.ensures c.args.text.now))

pub returns-in-ExclusiveMaximum : goal.returns-in-ExclusiveMaximum
unfolding passes
returns-in-ExclusiveMaximum c =
    answered c.args.rules.now c.args.rule_text.now (doc_of c.args.«record».now c.args.text.now) c.args.row.0 _ _ _ _ c.in-ExclusiveMaximum.is refl (c.exclusive_maximum.ensures _ (c.number_in-in-ExclusiveMaximum.ensures c.args.text.now))

pub returns-in-MultipleOf : goal.returns-in-MultipleOf
unfolding passes
returns-in-MultipleOf c =
    answered c.args.rules.now c.args.rule_text.now (doc_of c.args.«record».now c.args.text.now) c.args.row.0 _ _ _ _ c.in-MultipleOf.is refl (c.multiple_of.ensures _ (c.number_in-in-MultipleOf.ensures c.args.text.now))

pub returns-in-MinLength : goal.returns-in-MinLength
unfolding passes
returns-in-MinLength c =
    answered c.args.rules.now c.args.rule_text.now (doc_of c.args.«record».now c.args.text.now) c.args.row.0 _ _ _ _ c.in-MinLength.is refl c.min_length.ensures

pub returns-in-MaxLength : goal.returns-in-MaxLength
unfolding passes
returns-in-MaxLength c =
    answered c.args.rules.now c.args.rule_text.now (doc_of c.args.«record».now c.args.text.now) c.args.row.0 _ _ _ _ c.in-MaxLength.is refl c.max_length.ensures

pub returns-in-MinItems : goal.returns-in-MinItems
unfolding passes
returns-in-MinItems c =
    answered c.args.rules.now c.args.rule_text.now (doc_of c.args.«record».now c.args.text.now) c.args.row.0 _ _ _ _ c.in-MinItems.is refl (c.at_least.ensures length _ (c.elements_of.ensures c.args.text.now))

pub returns-in-MaxItems : goal.returns-in-MaxItems
unfolding passes
returns-in-MaxItems c =
    answered c.args.rules.now c.args.rule_text.now (doc_of c.args.«record».now c.args.text.now) c.args.row.0 _ _ _ _ c.in-MaxItems.is refl (c.at_most.ensures length _ (c.elements_of-in-MaxItems.ensures c.args.text.now))

pub returns-in-MinProperties : goal.returns-in-MinProperties
unfolding passes
returns-in-MinProperties c =
    answered c.args.rules.now c.args.rule_text.now (doc_of c.args.«record».now c.args.text.now) c.args.row.0 _ _ _ _ c.in-MinProperties.is refl (c.at_least-in-MinProperties.ensures length _ (c.members_of.ensures c.args.text.now))

pub returns-in-MaxProperties : goal.returns-in-MaxProperties
unfolding passes
returns-in-MaxProperties c =
    answered c.args.rules.now c.args.rule_text.now (doc_of c.args.«record».now c.args.text.now) c.args.row.0 _ _ _ _ c.in-MaxProperties.is refl (c.at_most-in-MaxProperties.ensures length _ (c.members_of-in-MaxProperties.ensures c.args.text.now))

pub returns-in-Required : goal.returns-in-Required
unfolding passes
returns-in-Required c =
    answered c.args.rules.now c.args.rule_text.now (doc_of c.args.«record».now c.args.text.now) c.args.row.0 _ _ _ _ c.in-Required.is refl c.required.ensures
