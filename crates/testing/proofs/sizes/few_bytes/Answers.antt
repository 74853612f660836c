-- `few_bytes` meets its contract, for a string and for none. Assumes nothing.
use borrow.Author.Rules.{rules}
use Rattle.testing.proofs.Limits.{bytes_hold}
use Rattle.testing.proofs.sizes.few_bytes.Goals as goal

pub returns : goal.returns
returns c = λ t ts v found. bytes_hold _ (rw t at c.is_none_or.ensures) found (λ own made. search rules)
