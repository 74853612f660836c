use native.Mathlib.Omega.{arith}
use borrow.Author.Tests.{eq-eqb, ne_eqb}
use Rattle.text.specs.Fingerprint.{sign_of}
use Rattle.text.proofs.print.sign.Goals as goal

pub returns-then-n-eq0 : goal.returns-then-n-eq0
unfolding sign_of
returns-then-n-eq0 c = (rw (eq-eqb _ _ c.if-n-eq0.true), omega arith)

pub returns : goal.returns
unfolding sign_of
returns c = (rw (ne_eqb _ _ c.if-n-eq0.false, c.from.ensures, c.from-2.ensures), omega arith)
