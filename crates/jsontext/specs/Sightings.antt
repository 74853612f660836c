-- Where values, names and escapes start in a text, in the order of the text, and on which level: what refusals 22, 24, 25 and 26 look at. A start is told by
-- the bytes from there on. First of a tree; then the same, seen by the automaton as it goes over the bytes.
-- Assumes nothing.
use Rattle.std.specs.Prelude.{◌&&◌, not, cond, List, [], ◌∷◌, ℕ, suc, ltb, eqb, length}
use Rattle.std.proofs.Math.Option.{Option, none, some}
use Rattle.jsontext.specs.Text as T
use Rattle.jsontext.specs.Text.{spaces, Piece, plain, piece, Str, pieces, Value, null, truth, falsity, num, str, empty_array, array, empty_object, object, Elements, last, more, Members, last_m, more_m, value, elements, members, Text}
use Rattle.jsontext.specs.Automaton.{Place, ahead, first_element, after, name, first_name, colon, word, minus, nought, whole, point, part, letter, sign, power, text, escape, unit, char, State, at, step}

pub data What : Type 0 where
  a_value a_name an_escape : What

-- the root is on level 1; a name or escape is on the level of its value or member
pub record Sighting : Type 0 where
  pub what : What
  pub level : ℕ
  pub behind : List ℕ

abbrev pub sighting : What → ℕ → List ℕ → Sighting
sighting w k bs = record { what = w; level = k; behind = bs }

-- ---- of a tree, before those of what follows

abbrev pub piece_sightings : Piece → ℕ → List ℕ → List Sighting → List Sighting
piece_sightings (plain c p) k rest later = later
piece_sightings (T.escape m) k rest later = sighting an_escape k (piece (T.escape m) rest) ∷ later
piece_sightings (T.unit h i j l) k rest later = sighting an_escape k (piece (T.unit h i j l) rest) ∷ later

unfoldable pub string_sightings : Str → ℕ → List ℕ → List Sighting → List Sighting
string_sightings [] k rest later = later
string_sightings (p ∷ ps) k rest later = piece_sightings p k (pieces ps rest) (string_sightings ps k rest later)

unfoldable mutual
  pub value_sightings : Value → ℕ → List ℕ → List Sighting → List Sighting
  value_sightings null k rest later = sighting a_value k (value null rest) ∷ later
  value_sightings truth k rest later = sighting a_value k (value truth rest) ∷ later
  value_sightings falsity k rest later = sighting a_value k (value falsity rest) ∷ later
  value_sightings (num n) k rest later = sighting a_value k (value (num n) rest) ∷ later
  value_sightings (str s) k rest later = sighting a_value k (value (str s) rest) ∷ string_sightings s k (0x22 ∷ rest) later
  value_sightings (empty_array w) k rest later = sighting a_value k (value (empty_array w) rest) ∷ later
  value_sightings (array w vs) k rest later = sighting a_value k (value (array w vs) rest) ∷ element_sightings vs (suc k) (0x5D ∷ rest) later
  value_sightings (empty_object w) k rest later = sighting a_value k (value (empty_object w) rest) ∷ later
  value_sightings (object w ms) k rest later = sighting a_value k (value (object w ms) rest) ∷ member_sightings ms (suc k) (0x7D ∷ rest) later

  pub element_sightings : Elements → ℕ → List ℕ → List Sighting → List Sighting
  element_sightings (last v w) k rest later = value_sightings v k (spaces w rest) later
  element_sightings (more v w w' vs) k rest later = value_sightings v k (spaces w (0x2C ∷ spaces w' (elements vs rest))) (element_sightings vs k rest later)

  pub member_sightings : Members → ℕ → List ℕ → List Sighting → List Sighting
  member_sightings (last_m s w w' v w'') k rest later =
      sighting a_name k (members (last_m s w w' v w'') rest)
      ∷ string_sightings s k (0x22 ∷ spaces w (0x3A ∷ spaces w' (value v (spaces w'' rest)))) (value_sightings v k (spaces w'' rest) later)
  member_sightings (more_m s w w' v w'' w''' ms) k rest later =
      sighting a_name k (members (more_m s w w' v w'' w''' ms) rest)
      ∷ string_sightings s k (0x22 ∷ spaces w (0x3A ∷ spaces w' (value v (spaces w'' (0x2C ∷ spaces w''' (members ms rest)))))) (value_sightings v k (spaces w'' (0x2C ∷ spaces w''' (members ms rest))) (member_sightings ms k rest later))

abbrev pub text_sightings : Text → List Sighting
text_sightings t = value_sightings t.root 1 (spaces t.behind []) []

-- ---- seen by the automaton

-- what starts with this byte at this place
abbrev pub sight : Place → ℕ → Option What
sight ahead b = cond (ltb 0x20 b) (some a_value) none
sight first_element b = cond (ltb 0x20 b && not (eqb b 0x5D)) (some a_value) none
sight name b = cond (ltb 0x20 b) (some a_name) none
sight first_name b = cond (ltb 0x20 b && not (eqb b 0x7D)) (some a_name) none
sight (text r) b = cond (eqb b 0x5C) (some an_escape) none
sight after b = none
sight colon b = none
sight (word w) b = none
sight minus b = none
sight nought b = none
sight whole b = none
sight point b = none
sight part b = none
sight letter b = none
sight sign b = none
sight power b = none
sight (escape r) b = none
sight (unit h r) b = none
sight (char c r) b = none

abbrev pub noted : Option What → ℕ → List ℕ → List Sighting → List Sighting
noted none k bs later = later
noted (some w) k bs later = sighting w k bs ∷ later

unfoldable pub seen : List ℕ → Option State → List Sighting
seen [] s = []
seen (b ∷ bs) none = []
seen (b ∷ bs) (some (at p ks)) = noted (sight p b) (suc (length ks)) (b ∷ bs) (seen bs (step (at p ks) b))
