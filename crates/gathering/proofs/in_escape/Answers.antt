-- `gathering::in_escape` meets its contract. Assumes nothing.
use mathlib.Core.Path.{◌≡◌, sym}
use borrow.Author.Tests.{eq-eqb, ne_eqb}
use Rattle.putting.specs.Letters as putting
use Rattle.naming.specs.Gathering.{short_at}
use Rattle.gathering.proofs.Acts.{unit_does}
use Rattle.gathering.proofs.in_escape.Goals as goal

pub returns-then-byte-eq117 : goal.returns-then-byte-eq117
returns-then-byte-eq117 c =
    let a = c.args in
    λ words objects t w g h. rw (eq-eqb a.byte 0x75 c.if-byte-eq117.true) (unit_does a.text.now words objects a.n 0 t w g h)

pub returns : goal.returns
unfolding short_at putting.short_at
returns c =
    let a = c.args in
    let same : short_at a.byte ≡ c.short_of.result = sym c.short_of.ensures in
    λ words objects t w g h. rw (ne_eqb a.byte 0x75 c.if-byte-eq117.false, same) (c.say_byte.ensures words objects t w g h)
