-- `single_turn` meets its contract. Assumes nothing.
use mathlib.Core.Path.{refl}
use native.Mathlib.Omega.{arith}
use Rattle.steps.proofs.Aiming.{single_turn, single_end}
use Rattle.steps.proofs.here.single_turn.Goals as goal

pub returns-then-x-lt1 : goal.returns-then-x-lt1
returns-then-x-lt1 c =
    let below = c.if-x-lt1.true in
    λ d m t p before κ same. single_turn t d p before κ m c.args.x _ c.args.row c.args.rule same below c.at_step.ensures

pub returns : goal.returns
returns c =
    let past = c.if-x-lt1.false in
    λ d m t p before κ same. single_end t d p before κ m c.args.x _ c.args.rule.0 (omega arith) refl
