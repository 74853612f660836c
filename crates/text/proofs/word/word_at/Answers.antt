-- `text::word::word_at` meets its contract. Assumes nothing.
use native.Mathlib.Omega.{arith}
use borrow.Author.Rules.{rules}
use Rattle.text.specs.Words.{word_at}
use Rattle.text.proofs.word.word_at.Goals as goal

pub returns : goal.returns
unfolding word_at
returns c = record { is = omega arith; low = search rules; high = search rules }
