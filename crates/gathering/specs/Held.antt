-- What is held of the names gathered so far: numbers, and three slices, for the gathered bytes, for three words of each name, and for the objects' numbers.
-- Said here: what they stand for (`Held`; what a slice has no room for is left out of it, and its numbers go on), how small they are after so many bytes
-- (`Sound`), and that a byte is read on (`Gathers`).
-- Assumes nothing.
use Rattle.std.specs.Prelude.{false, List, ◌≡◌, ℕ, suc, ◌+◌, ◌*◌, ◌≤◌, ◌<◌, length, get_or, drop}
use Rattle.std.proofs.lemmas.List.Edits.{sets}
use Rattle.jsontext.specs.Automaton.{Bracket}
use Rattle.grammar.specs.Codes.{place_at}
use Rattle.naming.specs.Gathering.{Gather, digit_of, gather}
use Rattle.gathering.specs.declared.Gathered.{Gathered}

abbrev pub numbers : Gather → Gathered
numbers g =
    record { size = length g.text; filled = length g.words; values = g.values; on = g.on; begun = g.begun; left = g.left; unit = g.unit; waits = g.waits }

-- text₀ and words₀: what was in the slices before the first byte
pub record Held (text₀ words₀ text words objects : List ℕ) (n : Gathered) (g : Gather) : Type 0 where
  pub text_is : text ≡ sets text₀ 0 g.text
  pub words_are : words ≡ sets words₀ 0 g.words
  pub objects_are : objects ≡ g.objects
  pub numbers_are : n ≡ numbers g

-- after k bytes
pub record Sound (k : ℕ) (n : Gathered) (objects : List ℕ) : Type 0 where
  pub size_few : n.size ≤ 4 * k
  pub filled_few : n.filled ≤ 3 * k
  pub values_few : n.values ≤ k
  pub objects_few : (i : ℕ) → get_or objects i 0 ≤ k
  pub begun_low : n.begun ≤ n.size
  pub waits_low : n.waits < 0xDC00

-- small enough that nothing wraps
pub record Small (n : Gathered) : Type 0 where
  pub size_low : n.size < 1_000_000
  pub filled_low : n.filled < 1_000_000
  pub values_low : n.values < 1_000_000
  pub begun_low : n.begun ≤ n.size
  pub waits_low : n.waits < 0xDC00

-- what is done to the slices and the numbers comes to f
abbrev pub Does : (Gather → Gather) → List ℕ → List ℕ → List ℕ → Gathered → List ℕ → List ℕ → List ℕ → Gathered → Type 0
Does f text words objects n text' words' objects' r =
    (text₀ words₀ : List ℕ) (g : Gather) → Held text₀ words₀ text words objects n g → Held text₀ words₀ text' words' objects' r (f g)

-- the same where besides the numbers only one of the slices is changed
abbrev pub OnText : (Gather → Gather) → List ℕ → Gathered → List ℕ → Gathered → Type 0
OnText f text n text' r = (words objects : List ℕ) → Does f text words objects n text' words objects r

abbrev pub OnWords : (Gather → Gather) → List ℕ → Gathered → List ℕ → Gathered → Type 0
OnWords f words n words' r = (text objects : List ℕ) → Does f text words objects n text words' objects r

abbrev pub OnObjects : (Gather → Gather) → List ℕ → Gathered → List ℕ → Gathered → Type 0
OnObjects f objects n objects' r = (text words : List ℕ) → Does f text words objects n text words objects' r

-- the gathered bytes are so many, and no surrogate waits
abbrev pub sized : ℕ → Gathered → Gathered
sized size n =
    record { size = size; filled = n.filled; values = n.values; on = n.on; begun = n.begun; left = n.left; unit = n.unit; waits = 0 }

-- no name is under way any more, and the gathered words are so many
abbrev pub rested : ℕ → Gathered → Gathered
rested filled n =
    record { size = n.size; filled = filled; values = n.values; on = false; begun = n.begun; left = n.left; unit = n.unit; waits = n.waits }

-- one value more
abbrev pub one_more : Gathered → Gathered
one_more n =
    record { size = n.size; filled = n.filled; values = suc n.values; on = n.on; begun = n.begun; left = n.left; unit = n.unit; waits = n.waits }

-- the number of the four digits from place i on
abbrev pub unit_from : List ℕ → ℕ → ℕ
unit_from json i = digit_of (digit_of (digit_of (digit_of 0 (get_or json i 0)) (get_or json (i + 1) 0)) (get_or json (i + 2) 0)) (get_or json (i + 3) 0)

-- the byte at place `at` of the text is read on, at a place of the grammar within these brackets
abbrev pub Within : List ℕ → ℕ → ℕ → List Bracket → List ℕ → List ℕ → List ℕ → Gathered → List ℕ → List ℕ → List ℕ → Gathered → Type 0
Within json at place ks = Does (gather 0 (place_at place) ks (get_or json at 0) (drop (suc at) json))

-- the same with so many brackets open
abbrev pub Gathers : List ℕ → ℕ → ℕ → ℕ → List ℕ → List ℕ → List ℕ → Gathered → List ℕ → List ℕ → List ℕ → Gathered → Type 0
Gathers json at place depth text words objects n text' words' objects' r =
    (ks : List Bracket) → length ks ≡ depth → Within json at place ks text words objects n text' words' objects' r
