-- `key` meets its contract. Assumes nothing.
use native.Mathlib.Omega.{arith}
use lib.ListN.{length}
use borrow.Author.Tests.{eq-eqb, ne_eqb}
use Rattle.rulelists.specs.Lists.{key_of}
use Rattle.rulelists.proofs.key.Goals as goal

pub returns-in-empty : goal.returns-in-empty
unfolding key_of
returns-in-empty c = rw (eq-eqb (length c.args.name.now) 0 (omega arith))

pub returns-in-len1-up : goal.returns-in-len1-up
unfolding key_of
returns-in-len1-up c = rw (ne_eqb (length c.args.name.now) 0 (λ e. omega arith), c.from.ensures)
