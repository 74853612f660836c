-- `moved` meets its contract. Assumes nothing.
use borrow.Author.Tests.{eq-eqb, ne_eqb}
use Rattle.plan.specs.Plan.{moved}
use Rattle.stepping.proofs.moved.Goals as goal

pub returns-then-held : goal.returns-then-held
unfolding moved
returns-then-held c = rw (c.in-Hits.is, c.if-held.true)

pub returns-else-held : goal.returns-else-held
unfolding moved
returns-else-held c = rw (c.in-Hits.is, c.if-held.false)

pub returns-then-held-2 : goal.returns-then-held-2
unfolding moved
returns-then-held-2 c = rw (c.in-Misses.is, c.if-held-2.true)

pub returns-else-held-2 : goal.returns-else-held-2
unfolding moved
returns-else-held-2 c = rw (c.in-Misses.is, c.if-held-2.false)

pub returns-then-held-3 : goal.returns-then-held-3
unfolding moved
returns-then-held-3 c = rw (c.in-Branches.is, c.if-held-3.true)

pub returns-then-step-eq0 : goal.returns-then-step-eq0
unfolding moved
returns-then-step-eq0 c = rw (c.in-Branches.is, c.if-held-3.false, eq-eqb c.args.step 0 c.if-step-eq0.true)

pub returns-else-step-eq0 : goal.returns-else-step-eq0
unfolding moved
returns-else-step-eq0 c = rw (c.in-Branches.is, c.if-held-3.false, ne_eqb c.args.step 0 c.if-step-eq0.false)
