-- `brackets::popped` meets its contract. Assumes nothing.
use Rattle.brackets.proofs.Bits.{pop_none, pop_some, pop_fits}
use native.Mathlib.Omega.{arith}
use Rattle.brackets.proofs.popped.Goals as goal

pub returns-then-o-eq0 : goal.returns-then-o-eq0
returns-then-o-eq0 c =
    record { brackets_are = pop_none c.args.o c.if-o-eq0.true; fits = c.requires; deep = omega arith }

pub returns : goal.returns
returns c =
    let some = c.if-o-eq0.false in
    record { brackets_are = pop_some c.args.o some; fits = pop_fits c.args.o c.requires some; deep = omega arith }
