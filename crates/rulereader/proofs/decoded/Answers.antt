-- `decoded` meets its contract: arm by arm the table's line, and past the arms no code of the table. Assumes nothing.
use mathlib.Core.Logic.{inr}
use mathlib.Core.Path.{refl, sym, ap, ◌∙◌}
use Rattle.rulesheet.specs.Ruleset.{asserts, multiple_of}
use Rattle.rulesheet.specs.Codes.{CodeLine, line_in}
use Rattle.rulesheet.specs.Sheet.{parts_of}
use Rattle.rulesheet.proofs.Lines.{line_past, line_none}
use Rattle.rulesheet.proofs.Meanings.{decodes}
use Rattle.rulesheet.proofs.Decoding.{types_decoded, minimum_decoded, maximum_decoded, above_decoded, below_decoded, min_length_decoded, max_length_decoded, min_items_decoded, max_items_decoded, min_properties_decoded, max_properties_decoded, all_of_decoded, any_of_decoded, one_of_decoded, not_of_decoded, ref_of_decoded, if_decoded, dependent_decoded, members_decoded, additional_decoded, prefix_decoded, items_decoded, contains_decoded, fresh_members_decoded, fresh_items_decoded}
use Rattle.rulereader.proofs.decoded.Goals as goal

pub returns-in-1 : goal.returns-in-1
unfolding line_in
returns-in-1 c = decodes 1 c.in-1.is (record { means = λ ws ts. refl; holds = tt })

pub returns-in-2 : goal.returns-in-2
returns-in-2 c = decodes 2 c.in-2.is (types_decoded _ _)

pub returns-in-3 : goal.returns-in-3
unfolding line_in
returns-in-3 c = decodes 3 c.in-3.is (record { means = λ ws ts. refl; holds = (refl, refl, refl, refl) })

pub returns-in-10 : goal.returns-in-10
returns-in-10 c = decodes 10 c.in-10.is (minimum_decoded _ _ c.of_word.ensures)

pub returns-in-11 : goal.returns-in-11
returns-in-11 c = decodes 11 c.in-11.is (maximum_decoded _ _ c.of_word-in-11.ensures)

pub returns-in-12 : goal.returns-in-12
returns-in-12 c = decodes 12 c.in-12.is (above_decoded _ _ c.of_word-in-12.ensures)

pub returns-in-13 : goal.returns-in-13
returns-in-13 c = decodes 13 c.in-13.is (below_decoded _ _ c.of_word-in-13.ensures)

pub returns-in-14 : goal.returns-in-14
unfolding line_in
returns-in-14 c = decodes 14 c.in-14.is (record { means = λ ws ts. ap (λ z. asserts (multiple_of z)) c.of_word-in-14.ensures.means; holds = (c.of_word-in-14.ensures, inr refl) })

pub returns-in-20 : goal.returns-in-20
returns-in-20 c = decodes 20 c.in-20.is (min_length_decoded _ _)

pub returns-in-21 : goal.returns-in-21
returns-in-21 c = decodes 21 c.in-21.is (max_length_decoded _ _)

pub returns-in-22 : goal.returns-in-22
returns-in-22 c = decodes 22 c.in-22.is (min_items_decoded _ _)

pub returns-in-23 : goal.returns-in-23
returns-in-23 c = decodes 23 c.in-23.is (max_items_decoded _ _)

pub returns-in-24 : goal.returns-in-24
returns-in-24 c = decodes 24 c.in-24.is (min_properties_decoded _ _)

pub returns-in-25 : goal.returns-in-25
returns-in-25 c = decodes 25 c.in-25.is (max_properties_decoded _ _)

pub returns-in-26 : goal.returns-in-26
unfolding line_in
returns-in-26 c = decodes 26 c.in-26.is (record { means = λ ws ts. refl; holds = (refl, refl, refl, refl) })

pub returns-in-30 : goal.returns-in-30
returns-in-30 c = decodes 30 c.in-30.is (all_of_decoded _ _)

pub returns-in-31 : goal.returns-in-31
returns-in-31 c = decodes 31 c.in-31.is (any_of_decoded _ _)

pub returns-in-32 : goal.returns-in-32
returns-in-32 c = decodes 32 c.in-32.is (one_of_decoded _ _)

pub returns-in-33 : goal.returns-in-33
returns-in-33 c = decodes 33 c.in-33.is (not_of_decoded _ _)

pub returns-in-34 : goal.returns-in-34
returns-in-34 c = decodes 34 c.in-34.is (ref_of_decoded _ _)

pub returns-in-36 : goal.returns-in-36
returns-in-36 c = decodes 36 c.in-36.is (if_decoded _ _)

pub returns-in-37 : goal.returns-in-37
returns-in-37 c = decodes 37 c.in-37.is (dependent_decoded _ _)

pub returns-in-40 : goal.returns-in-40
returns-in-40 c = decodes 40 c.in-40.is (members_decoded _ _)

pub returns-in-42 : goal.returns-in-42
returns-in-42 c = decodes 42 c.in-42.is (additional_decoded _ _)

pub returns-in-43 : goal.returns-in-43
returns-in-43 c = decodes 43 c.in-43.is (prefix_decoded _ _)

pub returns-in-44 : goal.returns-in-44
returns-in-44 c = decodes 44 c.in-44.is (items_decoded _ _)

pub returns-in-45 : goal.returns-in-45
returns-in-45 c = decodes 45 c.in-45.is (contains_decoded _ _)

pub returns-in-60 : goal.returns-in-60
returns-in-60 c = decodes 60 c.in-60.is (fresh_members_decoded _ _)

pub returns-in-61 : goal.returns-in-61
returns-in-61 c = decodes 61 c.in-61.is (fresh_items_decoded _ _)

pub returns-in_default : goal.returns-in_default
returns-in_default c =
    let a = c.args.row in
    let r = c.in_default.in_default-own.rest in
    record {
      means = λ ws ts. sym (ap (λ (l : CodeLine). l.means (parts_of ws ts a.first a.count)) (line_past _ _ _ r.0.0.0.0.0.0.0.0.0.0.0.0.0.0.0.0.0.0.0.0.0.0.0.0.0.0.0.0.1 ∙ line_past _ _ _ r.0.0.0.0.0.0.0.0.0.0.0.0.0.0.0.0.0.0.0.0.0.0.0.0.0.0.0.1 ∙ line_past _ _ _ r.0.0.0.0.0.0.0.0.0.0.0.0.0.0.0.0.0.0.0.0.0.0.0.0.0.0.1 ∙ line_past _ _ _ r.0.0.0.0.0.0.0.0.0.0.0.0.0.0.0.0.0.0.0.0.0.0.0.0.0.1 ∙ line_past _ _ _ r.0.0.0.0.0.0.0.0.0.0.0.0.0.0.0.0.0.0.0.0.0.0.0.0.1 ∙ line_past _ _ _ r.0.0.0.0.0.0.0.0.0.0.0.0.0.0.0.0.0.0.0.0.0.0.0.1 ∙ line_past _ _ _ r.0.0.0.0.0.0.0.0.0.0.0.0.0.0.0.0.0.0.0.0.0.0.1 ∙ line_past _ _ _ r.0.0.0.0.0.0.0.0.0.0.0.0.0.0.0.0.0.0.0.0.0.1 ∙ line_past _ _ _ r.0.0.0.0.0.0.0.0.0.0.0.0.0.0.0.0.0.0.0.0.1 ∙ line_past _ _ _ r.0.0.0.0.0.0.0.0.0.0.0.0.0.0.0.0.0.0.0.1 ∙ line_past _ _ _ r.0.0.0.0.0.0.0.0.0.0.0.0.0.0.0.0.0.0.1 ∙ line_past _ _ _ r.0.0.0.0.0.0.0.0.0.0.0.0.0.0.0.0.0.1 ∙ line_past _ _ _ r.0.0.0.0.0.0.0.0.0.0.0.0.0.0.0.0.1 ∙ line_past _ _ _ r.0.0.0.0.0.0.0.0.0.0.0.0.0.0.0.1 ∙ line_past _ _ _ r.0.0.0.0.0.0.0.0.0.0.0.0.0.0.1 ∙ line_past _ _ _ r.0.0.0.0.0.0.0.0.0.0.0.0.0.1 ∙ line_past _ _ _ r.0.0.0.0.0.0.0.0.0.0.0.0.1 ∙ line_past _ _ _ r.0.0.0.0.0.0.0.0.0.0.0.1 ∙ line_past _ _ _ r.0.0.0.0.0.0.0.0.0.0.1 ∙ line_past _ _ _ r.0.0.0.0.0.0.0.0.0.1 ∙ line_past _ _ _ r.0.0.0.0.0.0.0.0.1 ∙ line_past _ _ _ r.0.0.0.0.0.0.0.1 ∙ line_past _ _ _ r.0.0.0.0.0.0.1 ∙ line_past _ _ _ r.0.0.0.0.0.1 ∙ line_past _ _ _ r.0.0.0.0.1 ∙ line_past _ _ _ r.0.0.0.1 ∙ line_past _ _ _ r.0.0.1 ∙ line_past _ _ _ r.0.1 ∙ line_past _ _ _ r.1 ∙ line_none _));
      holds = tt;
    }
