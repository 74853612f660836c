-- `gathering::units::character` meets its contract. Assumes nothing.
use native.Mathlib.Omega.{arith}
use borrow.Author.Tests.{eq-eqb, ne_eqb}
use Rattle.gathering.proofs.units.character.Goals as goal

pub returns-then-waits-eq0 : goal.returns-then-waits-eq0
returns-then-waits-eq0 c =
    let a = c.args in
    (rw (eq-eqb a.waits 0 c.if-waits-eq0.true) c.character_of.ensures.joined, c.character_of.ensures.small)

pub returns : goal.returns
returns c =
    (c.character_of-2.ensures.joined, c.character_of-2.ensures.small)
