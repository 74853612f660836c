-- `named_at` meets its contract: no two children of an object share a name. Assumes nothing.
use mathlib.Core.Path.{sym, ◌∙◌}
use native.Mathlib.Omega.{arith}
use Rattle.text.specs.Part.{part}
use Rattle.sheet.specs.Record.{doc_of}
use Rattle.looking.proofs.Naming.{child_inside, alone}
use Rattle.looking.proofs.members.named_at.Goals as goal

pub overflow_add-children : goal.overflow_add-children
overflow_add-children c =
    omega (arith, child_inside c.args.«record».now c.args.text.now c.args.form c.requires.record_read.0.laid c.args.row.0 c.children_of-children.result.first c.children_of-children.result.count c.args.at c.requires.record_read.1 (c.children_of-children.ensures.first_is c.args.text.now) (c.children_of-children.ensures.count_is c.args.text.now) (omega arith))

pub has_name-requires-clause-record_read : goal.has_name-requires-clause-record_read
has_name-requires-clause-record_read c = (c.requires.record_read.0, (child_inside c.args.«record».now c.args.text.now c.args.form c.requires.record_read.0.laid c.args.row.0 c.children_of-children.result.first c.children_of-children.result.count c.args.at c.requires.record_read.1 (c.children_of-children.ensures.first_is c.args.text.now) (c.children_of-children.ensures.count_is c.args.text.now) (omega arith)).0)

pub returns-then-at-children : goal.returns-then-at-children
returns-then-at-children c =
    let ts = c.args.text.now in
    let j = c.args.row.0 in
    λ e. (omega (arith, c.children_of-children.ensures.count_is ts, c.if-at-children.true), alone (doc_of c.args.«record».now c.args.text.now) c.args.row.0 (part c.args.rule_text.now c.args.name) (λ k l. c.requires.record_read.0.differ j k l c.requires.record_read.1 c.requires.record_read.2) _ _ _ (c.children_of-children.ensures.first_is ts) (c.children_of-children.ensures.count_is ts) c.if-at-children.true (sym c.has_name.ensures ∙ e))
