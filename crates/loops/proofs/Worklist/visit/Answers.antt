-- `visit` meets its contract: a schema with a mark is passed over; another is marked and queued, and the queue has room. Assumes nothing.
use native.Mathlib.Omega.{arith}
use Rattle.unguarded.proofs.Worklists.{visit_old, visit_new, tail_room}
use Rattle.loops.proofs.Worklist.visit.Goals as goal

pub returns-else-not-self-at : goal.returns-else-not-self-at
returns-else-not-self-at c = visit_old c.args.self.now.seen c.args.self.now.queue c.args.self.now.tail c.args.t.0 c.requires.0 (rw c.wide-at.ensures at c.if-not-self-at.false)

pub offset_bounds-self-self : goal.offset_bounds-self-self
offset_bounds-self-self c = omega (arith, (tail_room c.args.self.now.seen c.args.self.now.queue c.args.self.now.tail c.args.t.0 c.requires.0 c.requires.1 (rw c.wide-at.ensures at c.if-not-self-at.true)))

pub bounds-self-self : goal.bounds-self-self
bounds-self-self c = (tail_room c.args.self.now.seen c.args.self.now.queue c.args.self.now.tail c.args.t.0 c.requires.0 c.requires.1 (rw c.wide-at.ensures at c.if-not-self-at.true))

pub overflow_add-self : goal.overflow_add-self
overflow_add-self c = omega (arith, (tail_room c.args.self.now.seen c.args.self.now.queue c.args.self.now.tail c.args.t.0 c.requires.0 c.requires.1 (rw c.wide-at.ensures at c.if-not-self-at.true)))

pub returns-then-not-self-at : goal.returns-then-not-self-at
returns-then-not-self-at c = rw c.wide-at.ensures (visit_new c.args.self.now.seen c.args.self.now.queue c.args.self.now.tail c.args.t.0 c.requires.0 c.requires.1 (rw c.wide-at.ensures at c.if-not-self-at.true))
