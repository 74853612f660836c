-- `exclusive_minimum` meets its contract, for a number and for none. Assumes nothing.
use borrow.Author.Rules.{rules}
use lib.Signed.{lt_z}
use Rattle.decimal.specs.Value.{value}
use Rattle.testing.proofs.Found.{held}
use Rattle.testing.proofs.bounds.exclusive_minimum.Goals as goal

pub returns : goal.returns
returns c = λ v found. held (λ y. lt_z (value c.args.limit) y) _ c.is_none_or.ensures found (λ d made. search rules)
