-- `number_in` meets its contract. Assumes nothing.
use mathlib.Core.Path.{◌∙◌}
use borrow.Author.Rules.{rules}
use Rattle.looking.proofs.Having.{number_read}
use Rattle.looking.proofs.numbers.number_in.Goals as goal

pub returns : goal.returns
returns c = λ ts. number_read ts _ (c.then.ensures.variant ∙ c.is_kind.ensures ts) c.then.ensures.some (λ d made. search rules)
