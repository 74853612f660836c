-- Every tree is read by the automaton, and all that starts in it is seen.
--     string_on, value_on      a string, a value, and then what may stand after it
--     complete                 the bytes of every text are accepted
--     seen_text                and the starts of its values, names and escapes are seen, each with its level
-- Assumes nothing.
use mathlib.Core.Bool.{true}
use mathlib.Core.List.{List, [], ◌∷◌}
use mathlib.Core.Logic.{inl, inr}
use mathlib.Core.Option.{some}
use mathlib.Core.Path.{◌≡◌, refl}
use Prim.Native.Nat.{ℕ, suc, ◌<◌}
use native.Mathlib.Omega.{arith}
use lib.ListN.{length}
use borrow.Author.Tests.{lt-ltb, ne_eqb}
use Rattle.jsontext.specs.Text.{spaces, Digit, digit, Str, pieces, Value, null, truth, falsity, num, str, empty_array, array, empty_object, object, Elements, last, more, Members, last_m, more_m, value, elements, members, Text, bytes}
use Rattle.jsontext.specs.Automaton as A
use Rattle.jsontext.specs.Automaton.{Bracket, square, curly, Role, as_value, as_name, Place, ahead, first_element, after, name, first_name, colon, word, n1, t1, f1, text, State, at, innermost, follow, closed, moves, pick, step, run, start, accepts}
use Rattle.jsontext.specs.Sightings.{What, a_value, a_name, Sighting, sight, seen, string_sightings, value_sightings, element_sightings, member_sightings, text_sightings}
use Rattle.jsontext.proofs.Moves.{apart, clear, picked, Reading, loudly}
use Rattle.jsontext.proofs.Spaces.{over, loop_ahead, loop_first, loop_after, loop_name, loop_first_name, loop_colon}
use Rattle.jsontext.proofs.Numbers.{Starts, number_on}
use Rattle.jsontext.proofs.Strings.{pieces_on}

-- behind the opening quote
string_on : (L : List Sighting) (r : Role) (ks : List Bracket) (s : Str) (bs : List ℕ)
    → Reading L (at (closed r) ks) bs
    → Reading (string_sightings s (suc (length ks)) (0x22 ∷ bs) L) (at (text r) ks) (pieces s (0x22 ∷ bs))
unfolding run step pick seen
string_on L r ks s bs a = pieces_on L r ks s (0x22 ∷ bs) a

-- with this byte starts a w at place p, which goes on in state t
abbrev pub Begins : What → Place → List Bracket → ℕ → State → Type 0
Begins w p ks b t = (sight p b ≡ some w) × (step (at p ks) b ≡ some t)

-- every value may start at place p
pub record Starter (p : Place) (ks : List Bracket) : Type 0 where
  pub numbers : Starts [] ks p
  pub quote : Begins a_value p ks 0x22 (at (text as_value) ks)
  pub left_square : Begins a_value p ks 0x5B (at first_element (square ∷ ks))
  pub left_curly : Begins a_value p ks 0x7B (at first_name (curly ∷ ks))
  pub n : Begins a_value p ks 0x6E (at (word n1) ks)
  pub t : Begins a_value p ks 0x74 (at (word t1) ks)
  pub f : Begins a_value p ks 0x66 (at (word f1) ks)

first_digit : (ks : List Bracket) (d : Digit) → 0 < d.worth → Begins a_value ahead ks (digit d) (at A.whole ks)
unfolding step apart clear
first_digit ks d p =
    let l : d.worth < 10 = d.small in
    (rw (lt-ltb 0x20 (digit d) (omega arith)), picked (λ o. follow ks o ≡ some (at A.whole ks)) (moves ahead (innermost ks)) (digit d) refl (inr (inr (inr (inr (inr (inr (inr (inr (inr (inl (omega arith, omega arith, refl))))))))))))

first_element_digit : (ks : List Bracket) (d : Digit) → 0 < d.worth → Begins a_value first_element ks (digit d) (at A.whole ks)
unfolding step apart clear
first_element_digit ks d p =
    let l : d.worth < 10 = d.small in
    (rw (lt-ltb 0x20 (digit d) (omega arith), ne_eqb (digit d) 0x5D (λ e. omega arith)), picked (λ o. follow ks o ≡ some (at A.whole ks)) (moves first_element (innermost ks)) (digit d) refl (inr (inr (inr (inr (inr (inr (inr (inr (inr (inr (inl (omega arith, omega arith, refl)))))))))))))

pub at_ahead : (ks : List Bracket) → Starter ahead ks
unfolding step pick
at_ahead ks =
    record { numbers = ((refl, refl), (refl, refl), first_digit ks); quote = (refl, refl); left_square = (refl, refl); left_curly = (refl, refl); n = (refl, refl); t = (refl, refl); f = (refl, refl) }

pub at_first : (ks : List Bracket) → Starter first_element ks
unfolding step pick
at_first ks =
    record { numbers = ((refl, refl), (refl, refl), first_element_digit ks); quote = (refl, refl); left_square = (refl, refl); left_curly = (refl, refl); n = (refl, refl); t = (refl, refl); f = (refl, refl) }

-- a name may start at place p
abbrev pub Namer : Place → List Bracket → Type 0
Namer p ks = Begins a_name p ks 0x22 (at (text as_name) ks)

pub at_name : (ks : List Bracket) → Namer name ks
unfolding step pick
at_name ks = (refl, refl)

pub at_first_name : (ks : List Bracket) → Namer first_name ks
unfolding step pick
at_first_name ks = (refl, refl)

mutual
  unfolding value run step pick seen value_sightings

  value_on : (v : Value) (p : Place) (ks : List Bracket) → Starter p ks
      → (L : List Sighting) (bs : List ℕ)
      → Reading L (at after ks) bs
      → Reading (value_sightings v (suc (length ks)) bs L) (at p ks) (value v bs)
  value_on null p ks c L bs a = loudly L a_value p ks (at (word n1) ks) 0x6E (0x75 ∷ 0x6C ∷ 0x6C ∷ bs) c.n.0 c.n.1 a
  value_on truth p ks c L bs a = loudly L a_value p ks (at (word t1) ks) 0x74 (0x72 ∷ 0x75 ∷ 0x65 ∷ bs) c.t.0 c.t.1 a
  value_on falsity p ks c L bs a = loudly L a_value p ks (at (word f1) ks) 0x66 (0x61 ∷ 0x6C ∷ 0x73 ∷ 0x65 ∷ bs) c.f.0 c.f.1 a
  value_on (num n) p ks c L bs a = number_on L ks p c.numbers n bs a
  value_on (str s) p ks c L bs a =
      loudly (string_sightings s (suc (length ks)) (0x22 ∷ bs) L) a_value p ks (at (text as_value) ks) 0x22 (pieces s (0x22 ∷ bs)) c.quote.0 c.quote.1 (string_on L as_value ks s bs a)
  value_on (empty_array w) p ks c L bs a =
      loudly L a_value p ks (at first_element (square ∷ ks)) 0x5B (spaces w (0x5D ∷ bs)) c.left_square.0 c.left_square.1 (over L first_element (square ∷ ks) (loop_first (square ∷ ks)) w (0x5D ∷ bs) a)
  value_on (array w vs) p ks c L bs a =
      let M : List Sighting = element_sightings vs (suc (suc (length ks))) (0x5D ∷ bs) L in
      loudly M a_value p ks (at first_element (square ∷ ks)) 0x5B (spaces w (elements vs (0x5D ∷ bs))) c.left_square.0 c.left_square.1 (over M first_element (square ∷ ks) (loop_first (square ∷ ks)) w (elements vs (0x5D ∷ bs)) (elements_on vs first_element ks (at_first (square ∷ ks)) L bs a))
  value_on (empty_object w) p ks c L bs a =
      loudly L a_value p ks (at first_name (curly ∷ ks)) 0x7B (spaces w (0x7D ∷ bs)) c.left_curly.0 c.left_curly.1 (over L first_name (curly ∷ ks) (loop_first_name (curly ∷ ks)) w (0x7D ∷ bs) a)
  value_on (object w ms) p ks c L bs a =
      let M : List Sighting = member_sightings ms (suc (suc (length ks))) (0x7D ∷ bs) L in
      loudly M a_value p ks (at first_name (curly ∷ ks)) 0x7B (spaces w (members ms (0x7D ∷ bs))) c.left_curly.0 c.left_curly.1 (over M first_name (curly ∷ ks) (loop_first_name (curly ∷ ks)) w (members ms (0x7D ∷ bs)) (members_on ms first_name ks (at_first_name (curly ∷ ks)) L bs a))

  -- the elements of an array and its closing bracket, behind the opening one or a comma
  elements_on : (vs : Elements) (p : Place) (ks : List Bracket) → Starter p (square ∷ ks)
      → (L : List Sighting) (bs : List ℕ)
      → Reading L (at after ks) bs
      → Reading (element_sightings vs (suc (suc (length ks))) (0x5D ∷ bs) L) (at p (square ∷ ks)) (elements vs (0x5D ∷ bs))
  elements_on (last v w) p ks c L bs a =
      value_on v p (square ∷ ks) c L (spaces w (0x5D ∷ bs)) (over L after (square ∷ ks) (loop_after (square ∷ ks)) w (0x5D ∷ bs) a)
  elements_on (more v w w' vs) p ks c L bs a =
      let M : List Sighting = element_sightings vs (suc (suc (length ks))) (0x5D ∷ bs) L in
      let rest : List ℕ = spaces w' (elements vs (0x5D ∷ bs)) in
      value_on v p (square ∷ ks) c M (spaces w (0x2C ∷ rest)) (over M after (square ∷ ks) (loop_after (square ∷ ks)) w (0x2C ∷ rest) (over M ahead (square ∷ ks) (loop_ahead (square ∷ ks)) w' (elements vs (0x5D ∷ bs)) (elements_on vs ahead ks (at_ahead (square ∷ ks)) L bs a)))

  members_on : (ms : Members) (p : Place) (ks : List Bracket) → Namer p (curly ∷ ks)
      → (L : List Sighting) (bs : List ℕ)
      → Reading L (at after ks) bs
      → Reading (member_sightings ms (suc (suc (length ks))) (0x7D ∷ bs) L) (at p (curly ∷ ks)) (members ms (0x7D ∷ bs))
  members_on (last_m s w w' v w'') p ks c L bs a =
      let k : ℕ = suc (suc (length ks)) in
      let end : List ℕ = spaces w'' (0x7D ∷ bs) in
      let rest : List ℕ = spaces w (0x3A ∷ spaces w' (value v end)) in
      let M : List Sighting = value_sightings v k end L in
      loudly (string_sightings s k (0x22 ∷ rest) M) a_name p (curly ∷ ks) (at (text as_name) (curly ∷ ks)) 0x22 (pieces s (0x22 ∷ rest)) c.0 c.1 (string_on M as_name (curly ∷ ks) s rest (over M colon (curly ∷ ks) (loop_colon (curly ∷ ks)) w (0x3A ∷ spaces w' (value v end)) (over M ahead (curly ∷ ks) (loop_ahead (curly ∷ ks)) w' (value v end) (value_on v ahead (curly ∷ ks) (at_ahead (curly ∷ ks)) L end (over L after (curly ∷ ks) (loop_after (curly ∷ ks)) w'' (0x7D ∷ bs) a)))))
  members_on (more_m s w w' v w'' w''' ms) p ks c L bs a =
      let k : ℕ = suc (suc (length ks)) in
      let others : List ℕ = members ms (0x7D ∷ bs) in
      let end : List ℕ = spaces w'' (0x2C ∷ spaces w''' others) in
      let rest : List ℕ = spaces w (0x3A ∷ spaces w' (value v end)) in
      let O : List Sighting = member_sightings ms k (0x7D ∷ bs) L in
      let M : List Sighting = value_sightings v k end O in
      loudly (string_sightings s k (0x22 ∷ rest) M) a_name p (curly ∷ ks) (at (text as_name) (curly ∷ ks)) 0x22 (pieces s (0x22 ∷ rest)) c.0 c.1 (string_on M as_name (curly ∷ ks) s rest (over M colon (curly ∷ ks) (loop_colon (curly ∷ ks)) w (0x3A ∷ spaces w' (value v end)) (over M ahead (curly ∷ ks) (loop_ahead (curly ∷ ks)) w' (value v end) (value_on v ahead (curly ∷ ks) (at_ahead (curly ∷ ks)) O end (over O after (curly ∷ ks) (loop_after (curly ∷ ks)) w'' (0x2C ∷ spaces w''' others) (over O name (curly ∷ ks) (loop_name (curly ∷ ks)) w''' others (members_on ms name ks (at_name (curly ∷ ks)) L bs a)))))))

reads_text : (t : Text) → Reading (text_sightings t) start (bytes t)
unfolding bytes run seen
reads_text t =
    over (text_sightings t) ahead [] (loop_ahead []) t.before (value t.root (spaces t.behind [])) (value_on t.root ahead [] (at_ahead []) [] (spaces t.behind []) (over [] after [] (loop_after []) t.behind [] (refl, refl)))

pub complete : (t : Text) → accepts (bytes t) ≡ true
complete t = (reads_text t).0

pub seen_text : (t : Text) → seen (bytes t) (some start) ≡ text_sightings t
seen_text t = (reads_text t).1
