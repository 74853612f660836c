-- `ways::place_of` meets its contract. Assumes nothing.
use native.Mathlib.Omega.{arith}
use borrow.Author.Tests.{lt-ltb, le-ltb}
use Rattle.ways.specs.Tree.{place_of}
use Rattle.ways.proofs.place_of.Goals as goal

pub returns-then-node-places : goal.returns-then-node-places
unfolding place_of
returns-then-node-places c = (rw (lt-ltb _ _ c.if-node-places.true), c.if-node-places.true)

pub returns : goal.returns
unfolding place_of
returns c = (rw (le-ltb _ _ c.if-node-places.false), omega arith)
