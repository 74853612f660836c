-- `few_characters` meets its contract, for a string and for none. Assumes nothing.
use borrow.Author.Rules.{rules}
use Rattle.testing.proofs.Limits.{characters_hold}
use Rattle.testing.proofs.sizes.few_characters.Goals as goal

pub returns : goal.returns
returns c = λ v found. characters_hold _ _ c.is_none_or.ensures found (λ own made. search rules)
