-- `read_words` puts the words of the bytes in front, one after the other. Assumes nothing.
use mathlib.Core.Path.{◌≡◌}
use lib.ListN.{length}
use Rattle.parts.proofs.Words.{Put}
use Rattle.parts.proofs.read_words.Given as goal

abbrev pub invariant-loop-i : goal.invariant-loop-i
invariant-loop-i l = (length l.words ≡ length l.initial.words) × Put l.bytes l.initial.words l.words l.i
