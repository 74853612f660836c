-- `gathering::in_text` meets its contract. Assumes nothing.
use borrow.Author.Tests.{eq-eqb, ne_eqb}
use Rattle.gathering.proofs.in_text.Goals as goal

pub returns-then-byte-eq34 : goal.returns-then-byte-eq34
returns-then-byte-eq34 c =
    let a = c.args in
    λ objects t w g h. rw (eq-eqb a.byte 0x22 c.if-byte-eq34.true) (c.shut_name.ensures a.text.now objects t w g h)

pub returns-then-byte-eq92 : goal.returns-then-byte-eq92
returns-then-byte-eq92 c =
    let a = c.args in
    λ objects t w g h. rw (ne_eqb a.byte 0x22 c.if-byte-eq34.false, eq-eqb a.byte 0x5C c.if-byte-eq92.true) h

pub returns : goal.returns
returns c =
    let a = c.args in
    λ objects t w g h. rw (ne_eqb a.byte 0x22 c.if-byte-eq34.false, ne_eqb a.byte 0x5C c.if-byte-eq92.false) (c.say_byte.ensures a.words.now objects t w g h)
