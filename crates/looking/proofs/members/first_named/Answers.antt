use mathlib.Core.Path.{◌≡◌, sym, ◌∙◌}
use native.Mathlib.Omega.{arith}
use Rattle.laws.proofs.Passing.{here, further, nowhere}
use Rattle.text.specs.Part.{part}
use Rattle.sheet.specs.Record.{doc_of}
use Rattle.looking.proofs.Naming.{child_inside, child_found}
use Rattle.looking.proofs.members.first_named.Goals as goal

pub overflow_add-first : goal.overflow_add-first
overflow_add-first c =
    omega (arith, child_inside c.args.«record».now c.args.text.now c.args.form c.requires.record_read.0.laid c.args.row.0 c.children_of-children.result.first c.children_of-children.result.count c.loop-i.i c.requires.record_read.1 (c.children_of-children.ensures.first_is c.args.text.now) (c.children_of-children.ensures.count_is c.args.text.now) (omega arith))

pub has_name-requires-clause-record_read : goal.has_name-requires-clause-record_read
has_name-requires-clause-record_read c = (c.requires.record_read.0, (child_inside c.args.«record».now c.args.text.now c.args.form c.requires.record_read.0.laid c.args.row.0 c.children_of-children.result.first c.children_of-children.result.count c.loop-i.i c.requires.record_read.1 (c.children_of-children.ensures.first_is c.args.text.now) (c.children_of-children.ensures.count_is c.args.text.now) (omega arith)).0)

pub returns-then-has_name : goal.returns-then-has_name
returns-then-has_name c =
    child_found (doc_of c.args.«record».now c.args.text.now) c.args.row.0 (part c.args.rule_text.now c.args.name) _ _ _ (c.children_of-children.ensures.first_is c.args.text.now) (c.children_of-children.ensures.count_is c.args.text.now) (here c.loop-i.invariant (omega arith) (sym c.has_name.ensures ∙ c.if-has_name.true))

pub loop-i-preserved : goal.loop-i-preserved
loop-i-preserved c = further c.loop-i.invariant (omega arith) (sym c.has_name.ensures ∙ c.if-has_name.false)

pub returns : goal.returns
returns c =
    let end : c.children_of-children.result.count ≡ c.loop-i.i = omega arith in
    end ∙ child_found (doc_of c.args.«record».now c.args.text.now) c.args.row.0 (part c.args.rule_text.now c.args.name) _ _ _ (c.children_of-children.ensures.first_is c.args.text.now) (c.children_of-children.ensures.count_is c.args.text.now) (nowhere c.loop-i.invariant (omega arith))
