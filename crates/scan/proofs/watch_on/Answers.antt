-- `scan::watch_on` meets its contract. Assumes nothing.
use mathlib.Core.Path.{◌∙◌}
use borrow.Author.Tests.{eq-eqb, ne_eqb}
use Rattle.scan.proofs.watch_on.Goals as goal

pub returns-then-s-eq0 : goal.returns-then-s-eq0
returns-then-s-eq0 c =
    c.move_on.ensures ∙ rw (eq-eqb c.args.s.fault 0 c.if-s-eq0.true)

pub returns : goal.returns
returns c =
    rw (ne_eqb c.args.s.fault 0 c.if-s-eq0.false)
