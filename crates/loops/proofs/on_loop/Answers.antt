use native.Mathlib.Omega.{arith}
use Rattle.rulesheet.specs.Sheet.{schemas_word, next_of}
use Rattle.unguarded.specs.Worklist.{mark_count}
use Rattle.unguarded.proofs.Steps.{few_schemas, next_inside}
use Rattle.unguarded.proofs.Worklists.{begin, turn, said, next_low, tail_most}
use Rattle.loops.proofs.on_loop.Goals as goal

pub visit_next-requires : goal.visit_next-requires
unfolding mark_count
visit_next-requires c = (c.requires.0, c.requires.1, c.new-list.ensures.0)

pub loop-head-init : goal.loop-head-init
unfolding mark_count
loop-head-init c = begin (next_of c.args.words.now) c.args.s.0 c.new-list.ensures.1 (rw c.new-list.ensures.2 at c.visit_next.ensures)

pub offset_bounds-list-head : goal.offset_bounds-list-head
offset_bounds-list-head c = omega (arith, tail_most c.loop-head.invariant.tidy)

pub bounds-list-head : goal.bounds-list-head
bounds-list-head c = omega (arith, tail_most c.loop-head.invariant.tidy)

pub visit_next-requires-in-loop-head : goal.visit_next-requires-in-loop-head
visit_next-requires-in-loop-head c = (c.requires.0, next_low (next_of c.args.words.now) c.args.s.0 (schemas_word c.args.words.now) (next_inside c.args.words.now c.args.form c.requires.0) c.loop-head.invariant c.loop-head-test.true, c.loop-head.invariant.tidy)

pub overflow_add-head : goal.overflow_add-head
overflow_add-head c = omega (arith, tail_most c.loop-head.invariant.tidy)

pub loop-head-smaller : goal.loop-head-smaller
loop-head-smaller c = omega (arith, tail_most c.loop-head.invariant.tidy)

pub loop-head-preserved : goal.loop-head-preserved
loop-head-preserved c = turn (next_of c.args.words.now) c.args.s.0 c.loop-head.invariant c.loop-head-test.true c.visit_next-in-loop-head.ensures

pub bounds-list-at : goal.bounds-list-at
bounds-list-at c = omega (arith, few_schemas c.args.words.now c.args.form c.requires.0, c.wide-at.ensures)

pub returns : goal.returns
returns c = rw c.wide-at.ensures (said (next_of c.args.words.now) c.args.s.0 (schemas_word c.args.words.now) (next_inside c.args.words.now c.args.form c.requires.0) c.loop-head.invariant c.loop-head-test.false)
