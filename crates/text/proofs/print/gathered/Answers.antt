use borrow.Author.Tests.{lt-ltb, le-ltb, le-leb, lt-leb}
use Rattle.text.specs.Fingerprint.{gathered_of}
use Rattle.text.proofs.print.gathered.Goals as goal

pub returns-then-n-lt8 : goal.returns-then-n-lt8
unfolding gathered_of
returns-then-n-lt8 c = rw (lt-ltb _ _ c.if-n-lt8.true) (rw c.short.ensures at c.mixed.ensures)

pub returns-then-n-le16 : goal.returns-then-n-le16
unfolding gathered_of
returns-then-n-le16 c = rw (le-ltb _ _ c.if-n-lt8.false, le-leb _ _ c.if-n-le16.true) c.pair-ends.ensures

pub returns-then-n-le32 : goal.returns-then-n-le32
unfolding gathered_of
returns-then-n-le32 c =
    rw (le-ltb _ _ c.if-n-lt8.false, lt-leb _ _ c.if-n-le16.false, le-leb _ _ c.if-n-le32.true)
    (rw c.pair-ends.ensures at c.pair-more.ensures)

pub returns : goal.returns
unfolding gathered_of
returns c =
    rw (le-ltb _ _ c.if-n-lt8.false, lt-leb _ _ c.if-n-le16.false, lt-leb _ _ c.if-n-le32.false)
    (rw (c.pair.ensures, c.pair-more.ensures, c.pair-ends.ensures) at c.pair-2.ensures)
