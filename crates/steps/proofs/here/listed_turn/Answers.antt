-- `listed_turn` meets its contract. Assumes nothing.
use mathlib.Core.Path.{refl}
use native.Mathlib.Omega.{arith}
use Rattle.steps.proofs.Aiming.{listed_turn, listed_end}
use Rattle.steps.proofs.here.listed_turn.Goals as goal

pub returns-then-x-list : goal.returns-then-x-list
returns-then-x-list c =
    let below = c.if-x-list.true in
    λ d m t p before κ same. listed_turn t d p before κ m c.args.x _ c.args.rules.now c.args.list c.args.row _ same below (omega arith) c.entry_schema.ensures c.at_step.ensures

pub returns : goal.returns
returns c =
    let past = c.if-x-list.false in
    λ d m t p before κ same. listed_end t d p before κ m c.args.x _ c.args.rules.now c.args.list (omega arith) refl
