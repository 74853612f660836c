use native.Mathlib.Omega.{arith}
use borrow.Author.Tests.{le-leb, lt-leb, eq-eqb, ne_eqb}
use Rattle.text.specs.Fingerprint.{short_of}
use Rattle.text.proofs.print.short.Goals as goal

pub returns-then-n-ge4 : goal.returns-then-n-ge4
unfolding short_of
returns-then-n-ge4 c = rw (le-leb _ _ c.if-n-ge4.true) (omega arith)

pub returns-then-n-eq0 : goal.returns-then-n-eq0
unfolding short_of
returns-then-n-eq0 c = rw (lt-leb _ _ c.if-n-ge4.false, eq-eqb _ _ c.if-n-eq0.true)

pub returns : goal.returns
unfolding short_of
returns c =
    rw (lt-leb _ _ c.if-n-ge4.false, ne_eqb _ _ c.if-n-eq0.false) (omega arith)
