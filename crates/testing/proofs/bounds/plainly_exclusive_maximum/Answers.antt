-- `plainly_exclusive_maximum` meets its contract, for a number and for none. Assumes nothing.
use borrow.Author.Rules.{rules}
use lib.Signed.{lt_z}
use Rattle.decimal.specs.Value.{value}
use Rattle.testing.proofs.Found.{told}
use Rattle.testing.proofs.bounds.plainly_exclusive_maximum.Goals as goal

pub returns : goal.returns
returns c = λ t v found. told (λ y. lt_z y (value c.args.limit)) _ c.is_none_or.ensures found t (λ d made. search rules)
