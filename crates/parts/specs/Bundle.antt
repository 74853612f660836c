-- A bundle (paper 01, "The bench program"): record words, record text, rule words and rule text, then a trailer of 16 bytes, the four lengths in bytes.
-- Lengths and sheets are words of four bytes, little-endian. Only the two parts that are words must be divisible by 4, so the rule words may start at
-- any byte; a part may be empty.
-- Assumes nothing.
use Rattle.std.specs.Prelude.{Bool, cond, not, Option, Some, None, ◌||◌, List, ◌++◌, map, ◌≡◌, ℕ, ◌+◌, ◌-◌, ◌*◌, ◌/◌, ◌%◌, ◌^◌, ◌<◌, eqb, ltb, length, get_or, drop}
use Rattle.meaning.specs.Lists.{range}
use Rattle.parts.specs.declared.Lengths.{Lengths}
use Rattle.parts.specs.declared.Parts.{Parts}

abbrev pub bundle_max : ℕ
bundle_max = 65_536

abbrev pub trailer_bytes : ℕ
trailer_bytes = 16

abbrev pub word_bytes : ℕ
word_bytes = 4

-- ---- words

-- the word that starts at a byte: the first of its bytes counts least
unfoldable pub word_at : List ℕ → ℕ → ℕ
word_at bs at = get_or bs at 0 + get_or bs (at + 1) 0 * 256 + get_or bs (at + 2) 0 * 65_536 + get_or bs (at + 3) 0 * 16_777_216

-- the words that bytes stand for, four bytes each
unfoldable pub words_of : List ℕ → List ℕ
words_of bs = map (λ i. word_at bs (i * word_bytes)) (range 0 (length bs / word_bytes))

-- the words of the bytes are put in front, and are so many
pub record Reads (bs words₀ : List ℕ) (r : ℕ) (words : List ℕ) : Type 0 where
  pub count_is : r ≡ length (words_of bs)
  pub words_are : words ≡ words_of bs ++ drop r words₀

-- ---- the bundle

-- two words of the trailer, as lengths of a sheet's parts
abbrev pub lengths_at : List ℕ → ℕ → Lengths
lengths_at bs at = record { words = word_at bs at; text = word_at bs (at + word_bytes) }

unfoldable pub record_lengths : List ℕ → Lengths
record_lengths bs = lengths_at bs (length bs - trailer_bytes)

unfoldable pub rule_lengths : List ℕ → Lengths
rule_lengths bs = lengths_at bs (length bs - trailer_bytes + 8)

-- a bundle that is too long or under 16 bytes
abbrev pub missized : ℕ → Bool
missized size = ltb bundle_max size || ltb size trailer_bytes

-- lengths whose exact sum plus 16 is not the bundle's size, or a word part not divisible by 4
abbrev pub misfit : ℕ → Lengths → Lengths → Bool
misfit size a b =
    not (eqb (a.words + a.text + b.words + b.text + trailer_bytes) size)
    || not (eqb (a.words % word_bytes) 0)
    || not (eqb (b.words % word_bytes) 0)

unfoldable pub bad : List ℕ → Bool
bad bs = missized (length bs) || misfit (length bs) (record_lengths bs) (rule_lengths bs)

abbrev pub parts : Lengths → Lengths → Parts
parts a b = record { of_record = a; of_rules = b }

unfoldable pub parts_of : List ℕ → Option Parts
parts_of bs = cond (bad bs) None (Some (parts (record_lengths bs) (rule_lengths bs)))

-- lengths that were read at a place of the trailer; each is a word
pub record LengthsRead (bs : List ℕ) (at : ℕ) (r : Lengths) : Type 0 where
  pub lengths_are : r ≡ lengths_at bs at
  pub words_low : r.words < 2 ^ 32
  pub text_low : r.text < 2 ^ 32

-- opens this module to a computation
unfoldable pub bundle_computes : Unit {0}
unfolding word_at words_of record_lengths rule_lengths bad parts_of
bundle_computes = tt
