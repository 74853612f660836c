-- `plainly` meets its contract, keyword by keyword: a yes is the exact test's. Assumes nothing.
use mathlib.Core.List.{[]}
use mathlib.Core.Path.{refl, sym, ap, ◌∙◌}
use lib.ListN.{length}
use Rattle.sheet.specs.Record.{doc_of}
use Rattle.rulesheet.specs.Clauses.{held}
use Rattle.meaning.specs.Rules.{passes}
use Rattle.clause.proofs.Asserting.{tried}
use Rattle.plain.proofs.plainly.Goals as goal

pub plainly_minimum-requires : goal.plainly_minimum-requires
plainly_minimum-requires c =
    ((c.number_in-in-Minimum.ensures []).plain, c.requires.plain _ (ap held c.in-Minimum.is))

pub plainly_maximum-requires : goal.plainly_maximum-requires
plainly_maximum-requires c =
    ((c.number_in-in-Maximum.ensures []).plain, c.requires.plain _ (ap held c.in-Maximum.is))

pub plainly_exclusive_minimum-requires : goal.plainly_exclusive_minimum-requires
plainly_exclusive_minimum-requires c =
    ((c.number_in-in-ExclusiveMinimum.ensures []).plain, c.requires.plain _ (ap held c.in-ExclusiveMinimum.is))

pub plainly_exclusive_maximum-requires : goal.plainly_exclusive_maximum-requires
plainly_exclusive_maximum-requires c =
    ((c.number_in-in-ExclusiveMaximum.ensures []).plain, c.requires.plain _ (ap held c.in-ExclusiveMaximum.is))

pub returns-in-Types : goal.returns-in-Types
unfolding passes
returns-in-Types c =
    λ t rs us. tried rs us (doc_of c.args.«record».now c.args.text.now) c.args.row.0 _ _ _ _ c.in-Types.is refl (sym (c.plainly_typed.ensures t _ (c.number_in.ensures c.args.text.now) (c.kind_of.ensures c.args.text.now)))

pub returns-in-Minimum : goal.returns-in-Minimum
unfolding passes
returns-in-Minimum c =
    λ t rs us. tried rs us (doc_of c.args.«record».now c.args.text.now) c.args.row.0 _ _ _ _ c.in-Minimum.is refl (sym (c.plainly_minimum.ensures t _ (c.number_in-in-Minimum.ensures c.args.text.now)))

pub returns-in-Maximum : goal.returns-in-Maximum
unfolding passes
returns-in-Maximum c =
    λ t rs us. tried rs us (doc_of c.args.«record».now c.args.text.now) c.args.row.0 _ _ _ _ c.in-Maximum.is refl (sym (c.plainly_maximum.ensures t _ (c.number_in-in-Maximum.ensures c.args.text.now)))

pub returns-in-ExclusiveMinimum : goal.returns-in-ExclusiveMinimum
unfolding passes
returns-in-ExclusiveMinimum c =
    λ t rs us. tried rs us (doc_of c.args.«record».now c.args.text.now) c.args.row.0 _ _ _ _ c.in-ExclusiveMinimum.is refl (sym (c.plainly_exclusive_minimum.ensures t _ (c.number_in-in-ExclusiveMinimum.ensures c.args.text.now)))

pub returns-in-ExclusiveMaximum : goal.returns-in-ExclusiveMaximum
unfolding passes
returns-in-ExclusiveMaximum c =
    λ t rs us. tried rs us (doc_of c.args.«record».now c.args.text.now) c.args.row.0 _ _ _ _ c.in-ExclusiveMaximum.is refl (sym (c.plainly_exclusive_maximum.ensures t _ (c.number_in-in-ExclusiveMaximum.ensures c.args.text.now)))

pub returns-then-k-le-FEW : goal.returns-then-k-le-FEW
unfolding passes
returns-then-k-le-FEW c =
    λ t rs us. tried rs us (doc_of c.args.«record».now c.args.text.now) c.args.row.0 _ _ _ _ c.in-MinLength.is refl (sym t ∙ c.few_characters.ensures _ (c.string_in.ensures _ c.requires.record_read.0.text_length))

pub returns-in-MaxLength : goal.returns-in-MaxLength
unfolding passes
returns-in-MaxLength c =
    λ t rs us. tried rs us (doc_of c.args.«record».now c.args.text.now) c.args.row.0 _ _ _ _ c.in-MaxLength.is refl (sym (c.few_bytes.ensures t _ _ (c.string_in-in-MaxLength.ensures c.args.text.now c.requires.record_read.0.text_length)))

pub returns-in-MinItems : goal.returns-in-MinItems
unfolding passes
returns-in-MinItems c =
    λ t rs us. tried rs us (doc_of c.args.«record».now c.args.text.now) c.args.row.0 _ _ _ _ c.in-MinItems.is refl (sym t ∙ c.at_least.ensures length _ (c.elements_of.ensures c.args.text.now))

pub returns-in-MaxItems : goal.returns-in-MaxItems
unfolding passes
returns-in-MaxItems c =
    λ t rs us. tried rs us (doc_of c.args.«record».now c.args.text.now) c.args.row.0 _ _ _ _ c.in-MaxItems.is refl (sym t ∙ c.at_most.ensures length _ (c.elements_of-in-MaxItems.ensures c.args.text.now))

pub returns-in-MinProperties : goal.returns-in-MinProperties
unfolding passes
returns-in-MinProperties c =
    λ t rs us. tried rs us (doc_of c.args.«record».now c.args.text.now) c.args.row.0 _ _ _ _ c.in-MinProperties.is refl (sym t ∙ c.at_least-in-MinProperties.ensures length _ (c.members_of.ensures c.args.text.now))

pub returns-in-MaxProperties : goal.returns-in-MaxProperties
unfolding passes
returns-in-MaxProperties c =
    λ t rs us. tried rs us (doc_of c.args.«record».now c.args.text.now) c.args.row.0 _ _ _ _ c.in-MaxProperties.is refl (sym t ∙ c.at_most-in-MaxProperties.ensures length _ (c.members_of-in-MaxProperties.ensures c.args.text.now))
