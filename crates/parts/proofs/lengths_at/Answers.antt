-- `lengths_at` reads two words of the trailer. Assumes nothing.
use mathlib.Core.Path.{◌∙◌}
use borrow.Author.Rules.{rules}
use Rattle.parts.proofs.lengths_at.Goals as goal

pub returns : goal.returns
returns c =
    let words = c.wide.ensures ∙ c.word_at.ensures in
    let text = c.wide-2.ensures ∙ c.word_at-2.ensures in
    record { lengths_are = λ i. record { words = words i; text = text i }; words_low = search rules; text_low = search rules }
