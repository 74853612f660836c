-- `multiple_of` meets its contract, for a number and for none. Assumes nothing.
use borrow.Author.Rules.{rules}
use Rattle.decimal.specs.Value.{value, is_multiple}
use Rattle.testing.proofs.Found.{held}
use Rattle.testing.proofs.bounds.multiple_of.Goals as goal

pub returns : goal.returns
returns c = λ v found. held (λ y. is_multiple y (value c.args.limit)) _ c.is_none_or.ensures found (λ d made. search rules)
