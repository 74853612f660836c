-- The names of a JSON text in its order, each with the number of its object: how many values start before that. Two names stand in one object if they have one
-- number, so 25 ("name repeated after decoding") asks of a name whether an earlier one has both its number and its bytes.
-- Assumes nothing.
use Rattle.std.specs.Prelude.{Bool, false, cond, ◌&&◌, ◌||◌, List, [], ◌∷◌, ◌++◌, ℕ, suc, ◌+◌, ◌/◌, ◌%◌, eqb}
use Rattle.text.specs.Part.{same_bytes}
use Rattle.jsontext.specs.Text.{spaces, Value, null, truth, falsity, num, str, empty_array, array, empty_object, object, Elements, last, more, Members, last_m, more_m, value, elements, members, Text}
use Rattle.jsontext.specs.Value.{decoded}

-- how many values start in a value, itself too
unfoldable mutual
  pub values_in : Value → ℕ
  values_in null = 1
  values_in truth = 1
  values_in falsity = 1
  values_in (num n) = 1
  values_in (str s) = 1
  values_in (empty_array w) = 1
  values_in (array w vs) = suc (elements_in vs)
  values_in (empty_object w) = 1
  values_in (object w ms) = suc (members_in ms)

  pub elements_in : Elements → ℕ
  elements_in (last v w) = values_in v
  elements_in (more v w w' vs) = values_in v + elements_in vs

  pub members_in : Members → ℕ
  members_in (last_m s w w' v w'') = values_in v
  members_in (more_m s w w' v w'' w''' ms) = values_in v + members_in ms

-- a name: its object's number, its bytes, and the bytes of the text from its opening quote on
pub record Named : Type 0 where
  pub object : ℕ
  pub name : List ℕ
  pub behind : List ℕ

abbrev pub named_in : ℕ → List ℕ → List ℕ → Named
named_in o n bs = record { object = o; name = n; behind = bs }

-- ---- of a value before which so many start, with the bytes behind it

unfoldable mutual
  pub value_names : ℕ → Value → List ℕ → List Named
  value_names v null rest = []
  value_names v truth rest = []
  value_names v falsity rest = []
  value_names v (num n) rest = []
  value_names v (str s) rest = []
  value_names v (empty_array w) rest = []
  value_names v (array w vs) rest = element_names (suc v) vs (0x5D ∷ rest)
  value_names v (empty_object w) rest = []
  value_names v (object w ms) rest = member_names v (suc v) ms (0x7D ∷ rest)

  pub element_names : ℕ → Elements → List ℕ → List Named
  element_names v (last x w) rest = value_names v x (spaces w rest)
  element_names v (more x w w' xs) rest = value_names v x (spaces w (0x2C ∷ spaces w' (elements xs rest))) ++ element_names (v + values_in x) xs rest

  -- of members of the object with number o
  pub member_names : ℕ → ℕ → Members → List ℕ → List Named
  member_names o v (last_m s w w' x w'') rest = named_in o (decoded s) (members (last_m s w w' x w'') rest) ∷ value_names v x (spaces w'' rest)
  member_names o v (more_m s w w' x w'' w''' ms) rest =
      named_in o (decoded s) (members (more_m s w w' x w'' w''' ms) rest)
      ∷ (value_names v x (spaces w'' (0x2C ∷ spaces w''' (members ms rest))) ++ member_names o (v + values_in x) ms rest)

abbrev pub text_names : Text → List Named
text_names t = value_names 0 t.root (spaces t.behind [])

-- ---- which of them are repeated

-- one of those is a name of object o with these bytes
unfoldable pub has : List Named → ℕ → List ℕ → Bool
has [] o n = false
has (x ∷ xs) o n = (eqb x.object o && same_bytes x.name n) || has xs o n

-- a name in one list of bytes: its object's number in two bytes, then its own
unfoldable pub tagged : Named → List ℕ
tagged x = x.object / 256 ∷ x.object % 256 ∷ x.name
