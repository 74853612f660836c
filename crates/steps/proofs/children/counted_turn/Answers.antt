-- `counted_turn` meets its contract: an element is one of the rows. Assumes nothing.
use mathlib.Core.List.{[]}
use mathlib.Core.Path.{refl}
use native.Mathlib.Omega.{arith}
use Rattle.sheet.specs.Record.{doc_of}
use Rattle.looking.proofs.Naming.{child_inside}
use Rattle.line.proofs.Counted.{elements_some}
use Rattle.steps.proofs.Choosing.{first_in, counted_turn, counted_end}
use Rattle.steps.proofs.children.counted_turn.Goals as goal

pub overflow_add-child : goal.overflow_add-child
overflow_add-child c =
    let below = c.if-x-many.true in let most = c.elements_in-many.ensures [] in let all = elements_some ((doc_of c.args.«record».now []).value c.args.row.0) in let count = c.children_of.ensures.count_is [] in omega (arith, child_inside c.args.«record».now [] c.args.form c.requires.laid.0 c.args.row.0 c.children_of.result.first c.children_of.result.count c.args.x c.requires.laid.1 (c.children_of.ensures.first_is []) (c.children_of.ensures.count_is []) (omega arith))

pub entry_schema-schema-requires : goal.entry_schema-schema-requires
entry_schema-schema-requires c =
    (c.requires.one_entry_inside.0, c.requires.one_entry_inside.1, omega (arith, c.requires.one_entry_inside.2))

pub returns-then-x-many : goal.returns-then-x-many
returns-then-x-many c =
    let below = c.if-x-many.true in λ ts least most t p before κ same. counted_turn t (doc_of c.args.«record».now ts) p before κ _ least most c.args.x _ _ _ _ (rw same (c.children_of.ensures.first_is ts)) (rw same (rw (← c.elements_in-many.ensures ts) below)) (omega arith) refl (first_in c.args.rules.now c.args.list 0 (omega (arith, c.requires.one_entry_inside.2)) c.entry_schema-schema.ensures) c.at_step_of.ensures

pub returns : goal.returns
returns c =
    let past = c.if-x-many.false in λ ts least most t p before κ same. counted_end t (doc_of c.args.«record».now ts) p before κ _ least most c.args.x _ (rw same (rw (← c.elements_in-many.ensures ts) (omega arith))) refl
