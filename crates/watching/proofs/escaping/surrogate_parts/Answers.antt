-- `watching::escaping::surrogate_parts` meets its contract. Assumes nothing.
use mathlib.Core.Path.{sym, ◌∙◌}
use Rattle.survey.proofs.Branches.{parted_none, parted_some}
use Rattle.watching.proofs.escaping.surrogate_parts.Goals as goal

pub returns-then-e-eq0 : goal.returns-then-e-eq0
returns-then-e-eq0 c =
    sym (parted_none c.args.s c.if-e-eq0.true)

pub returns : goal.returns
returns c =
    c.at_fault.ensures ∙ sym (parted_some c.args.s c.if-e-eq0.false)
