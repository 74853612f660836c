-- `string_in` meets its contract. Assumes nothing.
use mathlib.Core.Path.{◌∙◌}
use borrow.Author.Rules.{rules}
use Rattle.looking.proofs.Having.{string_read}
use Rattle.looking.proofs.sizes.string_in.Goals as goal

pub returns : goal.returns
returns c = λ ts long. string_read ts _ long (c.then.ensures.variant ∙ c.is_kind.ensures ts) c.then.ensures.some (λ own made. search rules)
