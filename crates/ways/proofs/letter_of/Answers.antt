-- `ways::letter_of` meets its contract. Assumes nothing.
use borrow.Author.Tests.{lt-ltb, le-ltb}
use Rattle.ways.specs.Tree.{letter_of}
use Rattle.ways.proofs.letter_of.Goals as goal

pub returns-then-node-places : goal.returns-then-node-places
unfolding letter_of
returns-then-node-places c = rw (lt-ltb _ _ c.if-node-places.true)

pub bounds-name-mark : goal.bounds-name-mark
bounds-name-mark c = c.requires c.if-node-places.false

pub returns : goal.returns
unfolding letter_of
returns c = rw (le-ltb _ _ c.if-node-places.false) c.from.ensures
