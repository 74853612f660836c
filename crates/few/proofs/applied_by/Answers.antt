-- `applied_by` meets its contract: by its code each clause that is asked for, and no other. Assumes nothing.
use mathlib.Core.Path.{refl}
use Rattle.rulesheet.proofs.Meanings.{decodes}
use Rattle.rulesheet.proofs.Decoding.{all_of_decoded, any_of_decoded, one_of_decoded, not_of_decoded, ref_of_decoded, if_decoded, dependent_decoded, members_decoded, additional_decoded, prefix_decoded, items_decoded, contains_decoded, fresh_members_decoded, fresh_items_decoded}
use Rattle.few.specs.Asked.{applying}
use Rattle.few.proofs.Asking.{read_by, never_by, applying_few}
use Rattle.few.proofs.applied_by.Goals as goal

pub returns-in-30 : goal.returns-in-30
unfolding applying
returns-in-30 c = read_by applying (decodes 30 c.in-30.is (all_of_decoded _ _)) (λ ws ts. refl)

pub returns-in-31 : goal.returns-in-31
unfolding applying
returns-in-31 c = read_by applying (decodes 31 c.in-31.is (any_of_decoded _ _)) (λ ws ts. refl)

pub returns-in-32 : goal.returns-in-32
unfolding applying
returns-in-32 c = read_by applying (decodes 32 c.in-32.is (one_of_decoded _ _)) (λ ws ts. refl)

pub returns-in-33 : goal.returns-in-33
unfolding applying
returns-in-33 c = read_by applying (decodes 33 c.in-33.is (not_of_decoded _ _)) (λ ws ts. refl)

pub returns-in-34 : goal.returns-in-34
unfolding applying
returns-in-34 c = read_by applying (decodes 34 c.in-34.is (ref_of_decoded _ _)) (λ ws ts. refl)

pub returns-in-36 : goal.returns-in-36
unfolding applying
returns-in-36 c = read_by applying (decodes 36 c.in-36.is (if_decoded _ _)) (λ ws ts. refl)

pub returns-in-37 : goal.returns-in-37
unfolding applying
returns-in-37 c = read_by applying (decodes 37 c.in-37.is (dependent_decoded _ _)) (λ ws ts. refl)

pub returns-in-40 : goal.returns-in-40
unfolding applying
returns-in-40 c = read_by applying (decodes 40 c.in-40.is (members_decoded _ _)) (λ ws ts. refl)

pub returns-in-42 : goal.returns-in-42
unfolding applying
returns-in-42 c = read_by applying (decodes 42 c.in-42.is (additional_decoded _ _)) (λ ws ts. refl)

pub returns-in-43 : goal.returns-in-43
unfolding applying
returns-in-43 c = read_by applying (decodes 43 c.in-43.is (prefix_decoded _ _)) (λ ws ts. refl)

pub returns-in-44 : goal.returns-in-44
unfolding applying
returns-in-44 c = read_by applying (decodes 44 c.in-44.is (items_decoded _ _)) (λ ws ts. refl)

pub returns-in-45 : goal.returns-in-45
unfolding applying
returns-in-45 c = read_by applying (decodes 45 c.in-45.is (contains_decoded _ _)) (λ ws ts. refl)

pub returns-in-60 : goal.returns-in-60
unfolding applying
returns-in-60 c = read_by applying (decodes 60 c.in-60.is (fresh_members_decoded _ _)) (λ ws ts. refl)

pub returns-in-61 : goal.returns-in-61
unfolding applying
returns-in-61 c = read_by applying (decodes 61 c.in-61.is (fresh_items_decoded _ _)) (λ ws ts. refl)

pub returns-in_default : goal.returns-in_default
returns-in_default c = never_by applying (applying_few _ c.in_default.in_default-own.rest)
