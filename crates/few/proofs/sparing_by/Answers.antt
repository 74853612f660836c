-- `sparing_by` meets its contract: by its code each clause that is asked for, and no other. Assumes nothing.
use mathlib.Core.Path.{refl}
use Rattle.rulesheet.proofs.Meanings.{decodes}
use Rattle.rulesheet.proofs.Decoding.{any_of_decoded, one_of_decoded, not_of_decoded, if_decoded, contains_decoded}
use Rattle.few.specs.Asked.{sparing}
use Rattle.few.proofs.Asking.{read_by, never_by, sparing_few}
use Rattle.few.proofs.sparing_by.Goals as goal

pub returns-in-31 : goal.returns-in-31
unfolding sparing
returns-in-31 c = read_by sparing (decodes 31 c.in-31.is (any_of_decoded _ _)) (λ ws ts. refl)

pub returns-in-32 : goal.returns-in-32
unfolding sparing
returns-in-32 c = read_by sparing (decodes 32 c.in-32.is (one_of_decoded _ _)) (λ ws ts. refl)

pub returns-in-33 : goal.returns-in-33
unfolding sparing
returns-in-33 c = read_by sparing (decodes 33 c.in-33.is (not_of_decoded _ _)) (λ ws ts. refl)

pub returns-in-36 : goal.returns-in-36
unfolding sparing
returns-in-36 c = read_by sparing (decodes 36 c.in-36.is (if_decoded _ _)) (λ ws ts. refl)

pub returns-in-45 : goal.returns-in-45
unfolding sparing
returns-in-45 c = read_by sparing (decodes 45 c.in-45.is (contains_decoded _ _)) (λ ws ts. refl)

pub returns-in_default : goal.returns-in_default
returns-in_default c = never_by sparing (sparing_few _ c.in_default.in_default-own.rest)
