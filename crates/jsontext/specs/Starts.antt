-- Where values, names and escapes start in a text, in its order, each with whether it is amiss by itself: a number too wide for `most` digits (23), a name that an
-- earlier member of the same object has, after decoding (25), the escape of a lone surrogate (26).
-- Assumes nothing.
use Rattle.std.specs.Prelude.{Bool, false, ◌||◌, List, [], ◌∷◌, ℕ, suc}
use Rattle.text.specs.Part.{same_bytes}
use Rattle.jsontext.specs.Text.{spaces, plain, escape, unit, piece, Str, pieces, Value, null, truth, falsity, num, str, empty_array, array, empty_object, object, Elements, last, more, Members, last_m, more_m, value, elements, members, Text}
use Rattle.jsontext.specs.Number.{exact_of, wide}
use Rattle.jsontext.specs.Value.{unit_code, waiting, is_lone, decoded}
use Rattle.jsontext.specs.Sightings.{What, a_value, a_name, an_escape, Sighting, sighting}

pub record Start : Type 0 where
  pub seen : Sighting
  pub amiss : Bool

abbrev pub starting : What → ℕ → List ℕ → Bool → Start
starting w k bs a = record { seen = sighting w k bs; amiss = a }

-- the name is one of those
unfoldable pub among : List (List ℕ) → List ℕ → Bool
among [] n = false
among (m ∷ ms) n = same_bytes m n || among ms n

-- ---- before those of what follows

-- of a string in which the high surrogate w waits, or none
unfoldable pub string_starts : ℕ → Str → ℕ → List ℕ → List Start → List Start
string_starts w [] k rest later = later
string_starts w (plain c p ∷ ps) k rest later = string_starts 0 ps k rest later
string_starts w (escape m ∷ ps) k rest later = starting an_escape k (piece (escape m) (pieces ps rest)) false ∷ string_starts 0 ps k rest later
string_starts w (unit h i j l ∷ ps) k rest later =
    let c = unit_code h i j l in
    starting an_escape k (piece (unit h i j l) (pieces ps rest)) (is_lone w c ps) ∷ string_starts (waiting c ps) ps k rest later

module _ (most : ℕ) where
  unfoldable mutual
    pub value_starts : Value → ℕ → List ℕ → List Start → List Start
    value_starts null k rest later = starting a_value k (value null rest) false ∷ later
    value_starts truth k rest later = starting a_value k (value truth rest) false ∷ later
    value_starts falsity k rest later = starting a_value k (value falsity rest) false ∷ later
    value_starts (num n) k rest later = starting a_value k (value (num n) rest) (wide most (exact_of n)) ∷ later
    value_starts (str s) k rest later = starting a_value k (value (str s) rest) false ∷ string_starts 0 s k (0x22 ∷ rest) later
    value_starts (empty_array w) k rest later = starting a_value k (value (empty_array w) rest) false ∷ later
    value_starts (array w vs) k rest later = starting a_value k (value (array w vs) rest) false ∷ element_starts vs (suc k) (0x5D ∷ rest) later
    value_starts (empty_object w) k rest later = starting a_value k (value (empty_object w) rest) false ∷ later
    value_starts (object w ms) k rest later = starting a_value k (value (object w ms) rest) false ∷ member_starts [] ms (suc k) (0x7D ∷ rest) later

    pub element_starts : Elements → ℕ → List ℕ → List Start → List Start
    element_starts (last v w) k rest later = value_starts v k (spaces w rest) later
    element_starts (more v w w' vs) k rest later = value_starts v k (spaces w (0x2C ∷ spaces w' (elements vs rest))) (element_starts vs k rest later)

    -- of members after members with these names
    pub member_starts : List (List ℕ) → Members → ℕ → List ℕ → List Start → List Start
    member_starts names (last_m s w w' v w'') k rest later =
        starting a_name k (members (last_m s w w' v w'') rest) (among names (decoded s))
        ∷ string_starts 0 s k (0x22 ∷ spaces w (0x3A ∷ spaces w' (value v (spaces w'' rest)))) (value_starts v k (spaces w'' rest) later)
    member_starts names (more_m s w w' v w'' w''' ms) k rest later =
        let end = spaces w'' (0x2C ∷ spaces w''' (members ms rest)) in
        starting a_name k (members (more_m s w w' v w'' w''' ms) rest) (among names (decoded s))
        ∷ string_starts 0 s k (0x22 ∷ spaces w (0x3A ∷ spaces w' (value v end))) (value_starts v k end (member_starts (decoded s ∷ names) ms k rest later))

  -- the root is on level 1
  abbrev pub text_starts : Text → List Start
  text_starts t = value_starts t.root 1 (spaces t.behind []) []
