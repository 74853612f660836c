-- `rest_turn` meets its contract: an element is one of the rows. Assumes nothing.
use mathlib.Core.List.{[]}
use mathlib.Core.Path.{refl}
use native.Mathlib.Omega.{arith}
use Prim.Native.Nat.{◌+◌}
use Rattle.sheet.specs.Record.{doc_of}
use Rattle.looking.proofs.Naming.{child_inside}
use Rattle.line.proofs.Counted.{elements_some}
use Rattle.steps.proofs.Aiming.{rest_turn, rest_end}
use Rattle.steps.proofs.children.rest_turn.Goals as goal

pub overflow_add-child : goal.overflow_add-child
overflow_add-child c =
    let below = c.if-x-many.true in
    let most = c.elements_in.ensures [] in
    let all = elements_some ((doc_of c.args.«record».now []).value c.args.row.0) in
    let count = c.children_of.ensures.count_is [] in
    let left = c.saturating_sub-many.ensures in
    omega (arith, child_inside c.args.«record».now [] c.args.form c.requires.0 c.args.row.0 c.children_of.result.first c.children_of.result.count (c.args.from + c.args.x) c.requires.1 (c.children_of.ensures.first_is []) (c.children_of.ensures.count_is []) (omega arith))

pub overflow_add-child-then-x-many : goal.overflow_add-child-then-x-many
overflow_add-child-then-x-many c =
    let below = c.if-x-many.true in
    let most = c.elements_in.ensures [] in
    let all = elements_some ((doc_of c.args.«record».now []).value c.args.row.0) in
    let count = c.children_of.ensures.count_is [] in
    let left = c.saturating_sub-many.ensures in
    omega (arith, child_inside c.args.«record».now [] c.args.form c.requires.0 c.args.row.0 c.children_of.result.first c.children_of.result.count (c.args.from + c.args.x) c.requires.1 (c.children_of.ensures.first_is []) (c.children_of.ensures.count_is []) (omega arith))

pub returns-then-x-many : goal.returns-then-x-many
returns-then-x-many c =
    let below = c.if-x-many.true in
    λ ts p before κ same told t.
    rest_turn t (doc_of c.args.«record».now ts) p before κ c.args.x _ c.args.rule.0 c.args.from c.saturating_sub-many.result told (rw same (rw (← c.elements_in.ensures ts) c.saturating_sub-many.ensures)) _ _ c.args.rule refl (rw same (c.children_of.ensures.first_is ts)) below (omega arith) refl c.at_step.ensures

pub returns : goal.returns
returns c =
    let past = c.if-x-many.false in
    λ ts p before κ same told t.
    rest_end t (doc_of c.args.«record».now ts) p before κ c.args.x _ c.args.rule.0 c.args.from c.saturating_sub-many.result told (rw same (rw (← c.elements_in.ensures ts) c.saturating_sub-many.ensures)) (omega arith) refl
