-- `placed_turn` meets its contract: an element is one of the rows. Assumes nothing.
use mathlib.Core.List.{[]}
use mathlib.Core.Path.{refl}
use native.Mathlib.Omega.{arith}
use Rattle.sheet.specs.Record.{doc_of}
use Rattle.looking.proofs.Naming.{child_inside}
use Rattle.line.proofs.Counted.{elements_some}
use Rattle.steps.proofs.Aiming.{placed_turn, placed_end}
use Rattle.steps.proofs.children.placed_turn.Goals as goal

pub overflow_add-child : goal.overflow_add-child
overflow_add-child c =
    let below = c.if-x-many.true in
    let most = c.elements_in.ensures [] in
    let all = elements_some ((doc_of c.args.«record».now []).value c.args.row.0) in
    let count = c.children_of.ensures.count_is [] in
    let few = c.min-many.ensures in
    omega (arith, child_inside c.args.«record».now [] c.args.form c.requires.laid.0 c.args.row.0 c.children_of.result.first c.children_of.result.count c.args.x c.requires.laid.1 (c.children_of.ensures.first_is []) (c.children_of.ensures.count_is []) (omega arith))

pub entry_schema-requires : goal.entry_schema-requires
entry_schema-requires c =
    let below = c.if-x-many.true in
    let few = c.min-many.ensures in
    (c.requires.list_inside.0, c.requires.list_inside.1, omega arith)

pub returns-then-x-many : goal.returns-then-x-many
returns-then-x-many c =
    let below = c.if-x-many.true in
    λ ts t p before κ same.
    placed_turn t (doc_of c.args.«record».now ts) p before κ c.args.x _ c.args.rules.now c.args.list _ _ _ (rw same (c.children_of.ensures.first_is ts)) (rw same (rw (← c.elements_in.ensures ts, ← c.min-many.ensures) below)) (omega arith) refl c.entry_schema.ensures c.at_step.ensures

pub returns : goal.returns
returns c =
    let past = c.if-x-many.false in
    λ ts t p before κ same.
    placed_end t (doc_of c.args.«record».now ts) p before κ c.args.x _ c.args.rules.now c.args.list (rw same (rw (← c.elements_in.ensures ts, ← c.min-many.ensures) (omega arith))) refl
