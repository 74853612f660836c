-- `reach::know` meets its contract. The whole text is its range from 0 on.
-- Assumes nothing.
use mathlib.Core.Path.{refl, sym, ap, ◌∙◌}
use native.Mathlib.Omega.{arith}
use Rattle.text.proofs.Ranges.{le_fits}
use Rattle.utf8.specs.Automaton.{is_utf8}
use Rattle.reach.proofs.Reaching.{all_of}
use Rattle.reach.proofs.know.Goals as goal

pub is_utf8-whole-requires : goal.is_utf8-whole-requires
is_utf8-whole-requires c = le_fits _ _ (omega arith)

pub returns-else-not-whole : goal.returns-else-not-whole
returns-else-not-whole c = record { told = c.requires; whole_is = λ t. sym (ap is_utf8 (all_of _ _ refl refl)) ∙ sym c.is_utf8-whole.ensures ∙ t }
