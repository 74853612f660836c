-- `text::compare::same_word` meets its contract: eight bytes are the same exactly where their numbers are. Assumes nothing.
use mathlib.Core.Path.{sym, ◌∙◌}
use borrow.Author.Tests.{eqb-true, eqb-false}
use Rattle.text.proofs.Words.{word_alike, alike_word}
use Rattle.text.proofs.compare.same_word.Goals as goal

pub returns : goal.returns
returns c =
    let x = c.word_at.ensures in
    let y = c.word_at-2.ensures in record {
      alike = (λ e. word_alike _ _ _ x.low x.high y.low y.high (sym x.is ∙ eqb-true _ _ e ∙ y.is));
      unlike = (λ e p. eqb-false _ _ e (x.is ∙ alike_word _ _ _ p ∙ sym y.is));
    }
