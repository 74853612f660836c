-- `amphorust_check` meets its contract: the number is that of what the check gives. Assumes nothing.
use mathlib.Core.Path.{ap, ◌∙◌}
use Rattle.sheet.specs.Refusals.{Outcome}
use Rattle.meaning.specs.Answer.{number_for_c}
use Rattle.number.specs.Called.{outcome_answer}
use Rattle.hub.proofs.amphorust_check.Goals as goal

pub returns : goal.returns
returns c = c.number_of_kind.ensures ∙ ap (λ (o : Outcome). number_for_c (outcome_answer o)) c.check-found.ensures
