-- `after_in` meets its contract, by the variant. Assumes nothing.
use mathlib.Core.Path.{sym, subst}
use borrow.Enum.Refused.{opened}
use Rattle.finish.proofs.Ending.{After, all_after, next_after}
use Rattle.finish.proofs.after_in.Goals as goal

pub returns-in-AllOf : goal.returns-in-AllOf
returns-in-AllOf c =
    let step = c.args.step in
    let es = c.in-AllOf.es in
    λ rs us. subst (λ x. After step rs us x es.count) (sym c.in-AllOf.is) (all_after step rs us es)

pub returns-in_default : goal.returns-in_default
returns-in_default c = λ rs us. next_after c.args.step rs us c.args.clause (opened c.in_default.in_default-own.keys2)
