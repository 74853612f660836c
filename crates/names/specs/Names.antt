-- Names that stand among a sheet's words: each is a range of the text, its start in one word and its length in the next, and the places of
-- the names are one stride apart. Two names are the same if their bytes are.
-- Said here: which bytes a name has, when an earlier name repeats it, and what is asked of a sheet whose names are compared.
-- Assumes nothing.
use Rattle.std.specs.Prelude.{Bool, true, List, ◌≡◌, ℕ, ◌+◌, ◌*◌, ◌≤◌, ◌<◌, ltb, length, get_or}
use Rattle.laws.specs.Lowest.{lowest}
use Rattle.text.specs.declared.Range.{Range}
use Rattle.text.specs.Part.{fits, part, same_bytes}
use Rattle.names.specs.declared.Names.{Names}

-- the most names that are ever compared
abbrev pub names_max : ℕ
names_max = 4_096

-- name i's range, by its two words
abbrev pub range_at : List ℕ → Names → ℕ → Range
range_at ws names i =
    record {
      start = get_or ws (names.base + names.stride * i) 0;
      length = get_or ws (names.base + names.stride * i + 1) 0;
    }

-- name i's bytes
abbrev pub name_at : List ℕ → List ℕ → Names → ℕ → List ℕ
name_at ws ts names i = part ts (range_at ws names i)

-- of names given by their bytes, name k is the same as name i
abbrev pub same_as : (ℕ → List ℕ) → ℕ → ℕ → Bool
same_as name i k = same_bytes (name k) (name i)

-- the lowest name that is the same as name i: i itself where no earlier one is
abbrev pub first_same : (ℕ → List ℕ) → ℕ → ℕ
first_same name i = lowest (same_as name i) i

-- an earlier name is the same as name i
unfoldable pub repeats_by : (ℕ → List ℕ) → ℕ → Bool
repeats_by name i = ltb (first_same name i) i

-- the same of a sheet's names
abbrev pub repeats_at : List ℕ → List ℕ → Names → ℕ → Bool
repeats_at ws ts names = repeats_by (name_at ws ts names)

-- the names may be compared: each one's two words are among the words, its range fits the text, and there are not too many
pub record Lying (ws ts : List ℕ) (names : Names) : Type 0 where
  pub inside : (i : ℕ) → i < names.count → names.base + names.stride * i + 1 < length ws
  pub fitting : (i : ℕ) → i < names.count → fits (length ts) (range_at ws names i) ≡ true
  pub few : names.count ≤ names_max
