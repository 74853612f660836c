-- A text in which nothing is at fault can be written: no number is too wide, and no surrogate's escape is lone.
--     text_sayable    the theorem
-- Assumes nothing.
use mathlib.Core.Bool.{Bool, false}
use mathlib.Core.List.{List, [], ◌∷◌}
use mathlib.Core.Option.{none}
use mathlib.Core.Path.{◌≡◌}
use Prim.Native.Nat.{ℕ, suc}
use Rattle.sheet.specs.Kinds.{number_max}
use Rattle.jsontext.specs.Text.{spaces, Value, null, truth, falsity, num, str, empty_array, array, empty_object, object, Elements, last, more, Members, last_m, more_m, value, elements, members, Text}
use Rattle.jsontext.specs.Number.{exact_of, wide}
use Rattle.jsontext.specs.Value.{decoded}
use Rattle.jsontext.specs.Sightings.{a_value}
use Rattle.jsontext.specs.Starts.{Start, starting, among, string_starts, value_starts, element_starts, member_starts, text_starts}
use Rattle.placing.specs.Fair.{Sayable, SayableItems, SayableFields}
use Rattle.reader.specs.Faults.{first_fault}
use Rattle.reader.proofs.Clean.{fine, Fine, fine_value, string_clean}

-- nothing is at fault in what follows
record Onward (later : List Start) : Type 0 where
  before : ℕ
  clean : first_fault before later ≡ none

-- a value that is not at fault
first_fine : (n k : ℕ) (bs : List ℕ) (a : Bool) (later : List Start) → first_fault n (starting a_value k bs a ∷ later) ≡ none
    → Fine n (starting a_value k bs a) (first_fault (suc n) later)
unfolding first_fault
first_fine n k bs a later e = fine_value n (starting a_value k bs a) bs (first_fault (suc n) later) e

mutual
  unfolding value_starts first_fault

  value_sayable : (v : Value) (k n : ℕ) (rest : List ℕ) (later : List Start) → first_fault n (value_starts number_max v k rest later) ≡ none → Sayable v × Onward later
  value_sayable null k n rest later e = (tt, record { before = suc n; clean = (first_fine n k (value null rest) false later e).on })
  value_sayable truth k n rest later e = (tt, record { before = suc n; clean = (first_fine n k (value truth rest) false later e).on })
  value_sayable falsity k n rest later e = (tt, record { before = suc n; clean = (first_fine n k (value falsity rest) false later e).on })
  value_sayable (num x) k n rest later e =
      let f = first_fine n k (value (num x) rest) (wide number_max (exact_of x)) later e in
      (f.narrow, record { before = suc n; clean = f.on })
  value_sayable (str s) k n rest later e =
      let f = first_fine n k (value (str s) rest) false (string_starts 0 s k (0x22 ∷ rest) later) e in
      let c = string_clean 0 s k (0x22 ∷ rest) later (suc n) f.on in
      (c.0, record { before = suc n; clean = c.1 })
  value_sayable (empty_array w) k n rest later e = (tt, record { before = suc n; clean = (first_fine n k (value (empty_array w) rest) false later e).on })
  value_sayable (array w vs) k n rest later e =
      elements_sayable vs (suc k) (suc n) (0x5D ∷ rest) later (first_fine n k (value (array w vs) rest) false (element_starts number_max vs (suc k) (0x5D ∷ rest) later) e).on
  value_sayable (empty_object w) k n rest later e = (tt, record { before = suc n; clean = (first_fine n k (value (empty_object w) rest) false later e).on })
  value_sayable (object w ms) k n rest later e =
      members_sayable [] ms (suc k) (suc n) (0x7D ∷ rest) later (first_fine n k (value (object w ms) rest) false (member_starts number_max [] ms (suc k) (0x7D ∷ rest) later) e).on

  elements_sayable : (vs : Elements) (k n : ℕ) (rest : List ℕ) (later : List Start) → first_fault n (element_starts number_max vs k rest later) ≡ none
      → SayableItems vs × Onward later
  elements_sayable (last v w) k n rest later e = value_sayable v k n (spaces w rest) later e
  elements_sayable (more v w w' vs) k n rest later e =
      let x = value_sayable v k n (spaces w (0x2C ∷ spaces w' (elements vs rest))) (element_starts number_max vs k rest later) e in
      let y = elements_sayable vs k x.1.before rest later x.1.clean in
      ((x.0, y.0), y.1)

  members_sayable : (names : List (List ℕ)) (ms : Members) (k n : ℕ) (rest : List ℕ) (later : List Start) → first_fault n (member_starts number_max names ms k rest later) ≡ none
      → SayableFields ms × Onward later
  members_sayable names (last_m s w w' v w'') k n rest later e =
      let behind = spaces w'' rest in
      let f = fine (among names (decoded s)) 25 _ _ e in
      let c = string_clean 0 s k (0x22 ∷ spaces w (0x3A ∷ spaces w' (value v behind))) (value_starts number_max v k behind later) n f.1 in
      let x = value_sayable v k n behind later c.1 in
      ((c.0, x.0), x.1)
  members_sayable names (more_m s w w' v w'' w''' ms) k n rest later e =
      let behind = spaces w'' (0x2C ∷ spaces w''' (members ms rest)) in
      let others = member_starts number_max (decoded s ∷ names) ms k rest later in
      let f = fine (among names (decoded s)) 25 _ _ e in
      let c = string_clean 0 s k (0x22 ∷ spaces w (0x3A ∷ spaces w' (value v behind))) (value_starts number_max v k behind others) n f.1 in
      let x = value_sayable v k n behind others c.1 in
      let y = members_sayable (decoded s ∷ names) ms k x.1.before rest later x.1.clean in
      ((c.0, x.0, y.0), y.1)

pub text_sayable : (t : Text) → first_fault 0 (text_starts number_max t) ≡ none → Sayable t.root
text_sayable t e = (value_sayable t.root 1 0 (spaces t.behind []) [] e).0
