-- `word_at` reads the specification's word. Assumes nothing.
use borrow.Author.Rules.{rules}
use Rattle.parts.specs.Bundle.{word_at}
use Rattle.parts.proofs.word_at.Goals as goal

pub returns : goal.returns
unfolding word_at
returns c = search rules
