-- Sheets of few words, computed from the specification: the last word decides, and 12 asks of nothing else.
-- Assumes nothing.
use mathlib.Core.List.{[], ◌∷◌}
use mathlib.Core.Path.{◌≡◌, refl}
use Rattle.sheet.specs.Refusals.{refused, first_line}
use Rattle.sheet.specs.Faults as S
use Rattle.sheet.specs.Faults.{record_outcome}
use Rattle.rulesheet.specs.Faults as R
use Rattle.rules.specs.Check.{rules_outcome}
use Rattle.sheetcheck.specs.LastWord.{check_outcome}

-- opens both checks as far as their trailers
unfoldable trailers_compute : Unit {0}
unfolding first_line S.words_ok R.words_ok record_outcome rules_outcome check_outcome
trailers_compute = tt

pub no_words : check_outcome [] [] ≡ refused 12 0
unfolding trailers_compute
no_words = refl

-- the word of a kind alone goes to the check of that kind, which misses its trailer
pub record_alone : check_outcome (1 ∷ []) [] ≡ refused 1 0
unfolding trailers_compute
record_alone = refl

pub rules_alone : check_outcome (2 ∷ []) [] ≡ refused 5 0
unfolding trailers_compute
rules_alone = refl

pub neither : check_outcome (0 ∷ []) [] ≡ refused 12 0
unfolding trailers_compute
neither = refl

-- the first word says nothing
pub record_last : check_outcome (2 ∷ 1 ∷ []) [] ≡ refused 1 0
unfolding trailers_compute
record_last = refl

pub rules_last : check_outcome (1 ∷ 2 ∷ []) [] ≡ refused 5 0
unfolding trailers_compute
rules_last = refl
