-- `branch_turn` meets its contract: the condition, the one branch or the other. Assumes nothing.
use mathlib.Core.Path.{refl}
use native.Mathlib.Omega.{arith}
use Rattle.steps.proofs.Choosing.{branch_first, branch_then, branch_else, branch_end, first_in}
use Rattle.steps.proofs.here.branch_turn.Goals as goal

pub entry_schema-requires : goal.entry_schema-requires
entry_schema-requires c =
    (c.requires.0, c.requires.1, omega (arith, c.requires.2))

pub returns-then-x-eq0 : goal.returns-then-x-eq0
returns-then-x-eq0 c =
    λ d p before κ same. branch_first c.args.tally d p before κ _ _ _ c.args.x _ c.args.row _ same c.if-x-eq0.true (first_in c.args.rules.now c.args.list 0 (omega (arith, c.requires.2)) c.entry_schema.ensures) c.at_step_of.ensures

pub entry_schema-requires-then-x-eq1 : goal.entry_schema-requires-then-x-eq1
entry_schema-requires-then-x-eq1 c =
    (c.requires.0, c.requires.1, omega (arith, c.requires.2))

pub returns-then-x-eq1 : goal.returns-then-x-eq1
returns-then-x-eq1 c =
    λ d p before κ same. branch_then c.args.tally d p before κ _ _ _ c.args.x _ c.args.row _ same c.if-x-eq1.true c.if-tally-eq0.true (first_in c.args.rules.now c.args.list 1 (omega (arith, c.requires.2)) c.entry_schema-then-x-eq1.ensures) c.at_step_of-then-x-eq1.ensures

pub returns-then-tally-eq0 : goal.returns-then-tally-eq0
returns-then-tally-eq0 c =
    λ d p before κ same. branch_end c.args.tally d p before κ _ _ _ c.args.x _ c.if-x-eq0.false (λ a b. c.if-x-eq1.false (omega (arith, c.if-x-eq0.false))) (λ a b. omega (arith, c.if-tally-eq0.true)) refl

pub entry_schema-requires-then-x-le2 : goal.entry_schema-requires-then-x-le2
entry_schema-requires-then-x-le2 c =
    (c.requires.0, c.requires.1, omega (arith, c.requires.2))

pub returns-then-x-le2 : goal.returns-then-x-le2
returns-then-x-le2 c =
    λ d p before κ same. branch_else c.args.tally d p before κ _ _ _ c.args.x _ c.args.row _ same c.if-x-eq0.false c.if-x-le2.true c.if-tally-eq1.true (first_in c.args.rules.now c.args.list 2 (omega (arith, c.requires.2)) c.entry_schema-then-x-le2.ensures) c.at_step_of-then-x-le2.ensures

pub returns-then-tally-eq1 : goal.returns-then-tally-eq1
returns-then-tally-eq1 c =
    λ d p before κ same. branch_end c.args.tally d p before κ _ _ _ c.args.x _ c.if-x-eq0.false (λ a b. omega (arith, c.if-x-le2.false)) (λ a b. omega (arith, c.if-x-le2.false)) refl

pub returns : goal.returns
returns c =
    λ d p before κ same. branch_end c.args.tally d p before κ _ _ _ c.args.x _ c.if-x-eq0.false (λ a b. c.if-tally-eq0.false b) (λ a b. c.if-tally-eq1.false b) refl
