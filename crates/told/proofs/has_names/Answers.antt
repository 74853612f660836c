-- `has_names` meets its contract, by the variant. Assumes nothing.
use mathlib.Core.Path.{sym, ap}
use Rattle.rulesheet.specs.declared.clause.Clause.{Clause}
use Rattle.rulesheet.specs.Clauses.{clause_means}
use borrow.Enum.Refused.{opened}
use Rattle.told.specs.Read.{names_any}
use Rattle.told.proofs.Earlier.{naming_none}
use Rattle.told.proofs.has_names.Goals as goal

pub returns-in-Properties : goal.returns-in-Properties
unfolding names_any
returns-in-Properties c = λ rs us. sym (ap (λ (x : Clause). names_any (clause_means rs us x)) c.in-Properties.is)

pub returns-in_default : goal.returns-in_default
returns-in_default c = λ rs us. sym (naming_none rs us c.args.clause (opened c.in_default.in_default-own.keys2))
