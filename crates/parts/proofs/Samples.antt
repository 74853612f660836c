-- Small bundles, computed from the specification.
--     words_read              words are little-endian
--     no_parts, too_short     sixteen zero bytes are a good bundle, fifteen are not
--     text_any, words_four    one byte of text is good, one byte of words is not
--     sum_short               the lengths say less than there is
-- Assumes nothing.
use mathlib.Core.List.{List, [], ◌∷◌, ◌++◌}
use mathlib.Core.Path.{◌≡◌, refl}
use Prim.Native.Nat.{ℕ}
use lib.ListN.{replicate}
use Rattle.meaning.specs.Lists.{lists_computes}
use Rattle.parts.specs.declared.Lengths.{Lengths}
use Rattle.std.specs.Prelude.{Some, None}
use Rattle.parts.specs.Bundle.{words_of, parts, parts_of, bundle_computes}

words_read : words_of (1 ∷ 2 ∷ 0 ∷ 0 ∷ 3 ∷ 0 ∷ 0 ∷ 4 ∷ []) ≡ 513 ∷ 67_108_867 ∷ []
unfolding lists_computes bundle_computes
words_read = refl

-- a trailer of four small lengths
trailer : ℕ → ℕ → ℕ → ℕ → List ℕ
trailer a b c d = a ∷ 0 ∷ 0 ∷ 0 ∷ b ∷ 0 ∷ 0 ∷ 0 ∷ c ∷ 0 ∷ 0 ∷ 0 ∷ d ∷ 0 ∷ 0 ∷ 0 ∷ []

abbrev lengths : ℕ → ℕ → Lengths
lengths words text = record { words = words; text = text }

no_parts : parts_of (replicate 16 0) ≡ Some (parts (lengths 0 0) (lengths 0 0))
unfolding bundle_computes
no_parts = refl

too_short : parts_of (replicate 15 0) ≡ None
unfolding bundle_computes
too_short = refl

text_any : parts_of (7 ∷ trailer 0 1 0 0) ≡ Some (parts (lengths 0 1) (lengths 0 0))
unfolding bundle_computes trailer
text_any = refl

words_four : parts_of (7 ∷ trailer 0 0 1 0) ≡ None
unfolding bundle_computes trailer
words_four = refl

sum_short : parts_of (7 ∷ trailer 0 0 0 0) ≡ None
unfolding bundle_computes trailer
sum_short = refl
