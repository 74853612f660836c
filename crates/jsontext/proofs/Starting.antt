-- The starts of a text, each with whether it is amiss, are those that the automaton sees.
--     starts_seen    the theorem
-- Assumes nothing.
use mathlib.Core.List.{List, [], ◌∷◌, map}
use mathlib.Core.Option.{some}
use mathlib.Core.Path.{◌≡◌, refl, sym, ap, ◌∙◌}
use Prim.Native.Nat.{ℕ, suc}
use Rattle.jsontext.specs.Text.{spaces, plain, escape, unit, piece, Str, pieces, Value, null, truth, falsity, num, str, empty_array, array, empty_object, object, Elements, last, more, Members, last_m, more_m, value, elements, members, Text, bytes}
use Rattle.jsontext.specs.Value.{unit_code, waiting, decoded}
use Rattle.jsontext.specs.Automaton.{start}
use Rattle.jsontext.specs.Sightings.{a_value, a_name, an_escape, Sighting, sighting, string_sightings, value_sightings, element_sightings, member_sightings, seen}
use Rattle.jsontext.specs.Starts.{Start, string_starts, value_starts, element_starts, member_starts, text_starts}
use Rattle.jsontext.proofs.Values.{seen_text}

abbrev pub sights : List Start → List Sighting
sights ss = map (λ (s : Start). s.seen) ss

string_seen : (w : ℕ) (s : Str) (k : ℕ) (rest : List ℕ) (later : List Start)
    → sights (string_starts w s k rest later) ≡ string_sightings s k rest (sights later)
unfolding string_starts string_sightings
string_seen w [] k rest later = refl
string_seen w (plain c p ∷ ps) k rest later = string_seen 0 ps k rest later
string_seen w (escape m ∷ ps) k rest later =
    ap (λ (x : List Sighting). sighting an_escape k (piece (escape m) (pieces ps rest)) ∷ x) (string_seen 0 ps k rest later)
string_seen w (unit h i j l ∷ ps) k rest later =
    ap (λ (x : List Sighting). sighting an_escape k (piece (unit h i j l) (pieces ps rest)) ∷ x) (string_seen (waiting (unit_code h i j l) ps) ps k rest later)

module _ (most : ℕ) where
  mutual
    unfolding value_starts value_sightings

    value_seen : (v : Value) (k : ℕ) (rest : List ℕ) (later : List Start) → sights (value_starts most v k rest later) ≡ value_sightings v k rest (sights later)
    value_seen null k rest later = refl
    value_seen truth k rest later = refl
    value_seen falsity k rest later = refl
    value_seen (num n) k rest later = refl
    value_seen (str s) k rest later = ap (λ (x : List Sighting). sighting a_value k (value (str s) rest) ∷ x) (string_seen 0 s k (0x22 ∷ rest) later)
    value_seen (empty_array w) k rest later = refl
    value_seen (array w vs) k rest later = ap (λ (x : List Sighting). sighting a_value k (value (array w vs) rest) ∷ x) (elements_seen vs (suc k) (0x5D ∷ rest) later)
    value_seen (empty_object w) k rest later = refl
    value_seen (object w ms) k rest later = ap (λ (x : List Sighting). sighting a_value k (value (object w ms) rest) ∷ x) (members_seen [] ms (suc k) (0x7D ∷ rest) later)

    elements_seen : (vs : Elements) (k : ℕ) (rest : List ℕ) (later : List Start) → sights (element_starts most vs k rest later) ≡ element_sightings vs k rest (sights later)
    elements_seen (last v w) k rest later = value_seen v k (spaces w rest) later
    elements_seen (more v w w' vs) k rest later =
        value_seen v k (spaces w (0x2C ∷ spaces w' (elements vs rest))) (element_starts most vs k rest later)
        ∙ ap (value_sightings v k (spaces w (0x2C ∷ spaces w' (elements vs rest)))) (elements_seen vs k rest later)

    members_seen : (names : List (List ℕ)) (ms : Members) (k : ℕ) (rest : List ℕ) (later : List Start)
        → sights (member_starts most names ms k rest later) ≡ member_sightings ms k rest (sights later)
    members_seen names (last_m s w w' v w'') k rest later =
        let bs : List ℕ = 0x22 ∷ spaces w (0x3A ∷ spaces w' (value v (spaces w'' rest))) in
        ap (λ (x : List Sighting). sighting a_name k (members (last_m s w w' v w'') rest) ∷ x)
        (string_seen 0 s k bs (value_starts most v k (spaces w'' rest) later) ∙ ap (string_sightings s k bs) (value_seen v k (spaces w'' rest) later))
    members_seen names (more_m s w w' v w'' w''' ms) k rest later =
        let end : List ℕ = spaces w'' (0x2C ∷ spaces w''' (members ms rest)) in
        let bs : List ℕ = 0x22 ∷ spaces w (0x3A ∷ spaces w' (value v end)) in
        let others : List Start = member_starts most (decoded s ∷ names) ms k rest later in
        ap (λ (x : List Sighting). sighting a_name k (members (more_m s w w' v w'' w''' ms) rest) ∷ x)
        (string_seen 0 s k bs (value_starts most v k end others)
        ∙ ap (string_sightings s k bs) (value_seen v k end others ∙ ap (value_sightings v k end) (members_seen (decoded s ∷ names) ms k rest later)))

  pub starts_seen : (t : Text) → sights (text_starts most t) ≡ seen (bytes t) (some start)
  starts_seen t = value_seen t.root 1 (spaces t.behind []) [] ∙ sym (seen_text t)
