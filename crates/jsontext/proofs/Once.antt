-- No bytes are those of two texts.
--     value_one     two values with the same bytes are the same, if what follows tells where each ends
--     once          two texts with the same bytes are the same
-- Assumes nothing.
use mathlib.Core.List.{List, [], ◌∷◌}
use mathlib.Core.Logic.{inl, inr}
use mathlib.Core.Option.{Option, none, some}
use mathlib.Core.Path.{◌≡◌, refl, sym, ◌∙◌, ap}
use Prim.Native.Nat.{ℕ, ◌<◌}
use native.Mathlib.Omega.{arith}
use Rattle.jsontext.specs.Text.{Space, spaces, Str, pieces, Value, null, truth, falsity, num, str, empty_array, array, empty_object, object, Elements, last, more, Members, last_m, more_m, value, elements, members, Text, bytes}
use Rattle.jsontext.proofs.Numbers.{Ending}
use Rattle.jsontext.proofs.SameNumbers.{Next, spaces_one, number_one}
use Rattle.jsontext.proofs.SameStrings.{pieces_one}
use Rattle.jsontext.proofs.FirstBytes.{array_of, object_of, alike, value_no_blank, elements_no_blank, no_element, members_no_blank, no_member, spaces_ending, spaces_byte, tail_eq}

-- ---- arrays and objects, if their elements and members have but one reading

module _ (xs ys : List ℕ) where
  empty_array_lem : (w w' : Space) (o : Option Elements) → value (empty_array w) xs ≡ value (array_of w' o) ys
      → (empty_array w ≡ array_of w' o) × (xs ≡ ys)
  unfolding value
  empty_array_lem w w' none e =
      let r = spaces_byte w w' 0x5D 0x5D xs ys (omega arith) (omega arith) (tail_eq e) in (ap empty_array r.0, r.2)
  empty_array_lem w w' (some vs) e =
      let r = spaces_one w w' (0x5D ∷ xs) (elements vs (0x5D ∷ ys)) (omega arith) (elements_no_blank vs (0x5D ∷ ys)) (tail_eq e) in
      absurd (no_element vs xs (0x5D ∷ ys) r.1)

  full_array : (w w' : Space) (vs : Elements) (o : Option Elements)
      → ((us : Elements) → elements vs (0x5D ∷ xs) ≡ elements us (0x5D ∷ ys) → (vs ≡ us) × (xs ≡ ys))
      → value (array w vs) xs ≡ value (array_of w' o) ys
      → (array w vs ≡ array_of w' o) × (xs ≡ ys)
  unfolding value
  full_array w w' vs none f e =
      let r = spaces_one w w' (elements vs (0x5D ∷ xs)) (0x5D ∷ ys) (elements_no_blank vs (0x5D ∷ xs)) (omega arith) (tail_eq e) in
      absurd (no_element vs ys (0x5D ∷ xs) (sym r.1))
  full_array w w' vs (some us) f e =
      let r = spaces_one w w' (elements vs (0x5D ∷ xs)) (elements us (0x5D ∷ ys)) (elements_no_blank vs (0x5D ∷ xs)) (elements_no_blank us (0x5D ∷ ys)) (tail_eq e) in
      let s = f us r.1 in
      (cc (r.0, s.0), s.1)

  empty_object_lem : (w w' : Space) (o : Option Members) → value (empty_object w) xs ≡ value (object_of w' o) ys
      → (empty_object w ≡ object_of w' o) × (xs ≡ ys)
  unfolding value
  empty_object_lem w w' none e =
      let r = spaces_byte w w' 0x7D 0x7D xs ys (omega arith) (omega arith) (tail_eq e) in (ap empty_object r.0, r.2)
  empty_object_lem w w' (some ms) e =
      let r = spaces_one w w' (0x7D ∷ xs) (members ms (0x7D ∷ ys)) (omega arith) (members_no_blank ms (0x7D ∷ ys)) (tail_eq e) in
      absurd (no_member ms xs (0x7D ∷ ys) r.1)

  full_object : (w w' : Space) (ms : Members) (o : Option Members)
      → ((us : Members) → members ms (0x7D ∷ xs) ≡ members us (0x7D ∷ ys) → (ms ≡ us) × (xs ≡ ys))
      → value (object w ms) xs ≡ value (object_of w' o) ys
      → (object w ms ≡ object_of w' o) × (xs ≡ ys)
  unfolding value
  full_object w w' ms none f e =
      let r = spaces_one w w' (members ms (0x7D ∷ xs)) (0x7D ∷ ys) (members_no_blank ms (0x7D ∷ xs)) (omega arith) (tail_eq e) in
      absurd (no_member ms ys (0x7D ∷ xs) (sym r.1))
  full_object w w' ms (some us) f e =
      let r = spaces_one w w' (members ms (0x7D ∷ xs)) (members us (0x7D ∷ ys)) (members_no_blank ms (0x7D ∷ xs)) (members_no_blank us (0x7D ∷ ys)) (tail_eq e) in
      let s = f us r.1 in
      (cc (r.0, s.0), s.1)

  -- a name and its value, up to the byte that follows
  member : (s s' : Str) (w w' u u' z z' : Space) (v v' : Value) (a b : ℕ)
      → 0x20 < a
      → 0x20 < b
      → ((q : Value) (as' bs' : List ℕ) → Next Ending as' → Next Ending bs' → value v as' ≡ value q bs' → (v ≡ q) × (as' ≡ bs'))
      → Ending a
      → Ending b
      → pieces s (0x22 ∷ spaces w (0x3A ∷ spaces u (value v (spaces z (a ∷ xs))))) ≡ pieces s' (0x22 ∷ spaces w' (0x3A ∷ spaces u' (value v' (spaces z' (b ∷ ys)))))
      → (s ≡ s') × (w ≡ w') × (u ≡ u') × (v ≡ v') × (z ≡ z') × (a ≡ b) × (xs ≡ ys)
  member s s' w w' u u' z z' v v' a b la lb f ea eb e =
      let r₁ = pieces_one s s' (spaces w (0x3A ∷ spaces u (value v (spaces z (a ∷ xs))))) (spaces w' (0x3A ∷ spaces u' (value v' (spaces z' (b ∷ ys))))) e in
      let r₂ = spaces_byte w w' 0x3A 0x3A (spaces u (value v (spaces z (a ∷ xs)))) (spaces u' (value v' (spaces z' (b ∷ ys)))) (omega arith) (omega arith) r₁.1 in
      let r₃ = spaces_one u u' (value v (spaces z (a ∷ xs))) (value v' (spaces z' (b ∷ ys))) (value_no_blank v (spaces z (a ∷ xs))) (value_no_blank v' (spaces z' (b ∷ ys))) r₂.2 in
      let r₄ = f v' (spaces z (a ∷ xs)) (spaces z' (b ∷ ys)) (spaces_ending z (a ∷ xs) ea) (spaces_ending z' (b ∷ ys) eb) r₃.1 in
      let r₅ = spaces_byte z z' a b xs ys la lb r₄.1 in
      (r₁.0, r₂.0, r₃.0, r₄.0, r₅.0, r₅.1, r₅.2)

  -- an element, up to the byte that follows
  element : (z z' : Space) (v v' : Value) (a b : ℕ)
      → 0x20 < a
      → 0x20 < b
      → ((q : Value) (as' bs' : List ℕ) → Next Ending as' → Next Ending bs' → value v as' ≡ value q bs' → (v ≡ q) × (as' ≡ bs'))
      → Ending a
      → Ending b
      → value v (spaces z (a ∷ xs)) ≡ value v' (spaces z' (b ∷ ys))
      → (v ≡ v') × (z ≡ z') × (a ≡ b) × (xs ≡ ys)
  element z z' v v' a b la lb f ea eb e =
      let r₄ = f v' (spaces z (a ∷ xs)) (spaces z' (b ∷ ys)) (spaces_ending z (a ∷ xs) ea) (spaces_ending z' (b ∷ ys) eb) e in
      let r₅ = spaces_byte z z' a b xs ys la lb r₄.1 in
      (r₄.0, r₅.0, r₅.1, r₅.2)

-- ---- values

mutual
  unfolding value

  pub value_one : (v u : Value) (xs ys : List ℕ) → Next Ending xs → Next Ending ys → value v xs ≡ value u ys → (v ≡ u) × (xs ≡ ys)
  value_one null u xs ys m n e =
      let a = alike null u xs ys e in
      let f : 0x6E ∷ 0x75 ∷ 0x6C ∷ 0x6C ∷ xs ≡ 0x6E ∷ 0x75 ∷ 0x6C ∷ 0x6C ∷ ys = a.2 in
      let g : xs ≡ ys = cc in
      (a.1, g)
  value_one truth u xs ys m n e =
      let a = alike truth u xs ys e in
      let f : 0x74 ∷ 0x72 ∷ 0x75 ∷ 0x65 ∷ xs ≡ 0x74 ∷ 0x72 ∷ 0x75 ∷ 0x65 ∷ ys = a.2 in
      let g : xs ≡ ys = cc in
      (a.1, g)
  value_one falsity u xs ys m n e =
      let a = alike falsity u xs ys e in
      let f : 0x66 ∷ 0x61 ∷ 0x6C ∷ 0x73 ∷ 0x65 ∷ xs ≡ 0x66 ∷ 0x61 ∷ 0x6C ∷ 0x73 ∷ 0x65 ∷ ys = a.2 in
      let g : xs ≡ ys = cc in
      (a.1, g)
  value_one (num k) u xs ys m n e =
      let a = alike (num k) u xs ys e in
      let r = number_one xs ys m n k a.0 a.2 in
      (ap num r.0 ∙ a.1, r.1)
  value_one (str s) u xs ys m n e =
      let a = alike (str s) u xs ys e in
      let r = pieces_one s a.0 xs ys (tail_eq a.2) in
      (ap str r.0 ∙ a.1, r.1)
  value_one (empty_array w) u xs ys m n e =
      let a = alike (empty_array w) u xs ys e in
      let r = empty_array_lem xs ys w a.0.0 a.0.1 a.2 in
      (r.0 ∙ a.1, r.1)
  value_one (array w vs) u xs ys m n e =
      let a = alike (array w vs) u xs ys e in
      let r = full_array xs ys w a.0.0 vs a.0.1 (λ us f. elements_one vs us xs ys f) a.2 in
      (r.0 ∙ a.1, r.1)
  value_one (empty_object w) u xs ys m n e =
      let a = alike (empty_object w) u xs ys e in
      let r = empty_object_lem xs ys w a.0.0 a.0.1 a.2 in
      (r.0 ∙ a.1, r.1)
  value_one (object w ms) u xs ys m n e =
      let a = alike (object w ms) u xs ys e in
      let r = full_object xs ys w a.0.0 ms a.0.1 (λ us f. members_one ms us xs ys f) a.2 in
      (r.0 ∙ a.1, r.1)

  elements_one : (vs us : Elements) (xs ys : List ℕ) → elements vs (0x5D ∷ xs) ≡ elements us (0x5D ∷ ys) → (vs ≡ us) × (xs ≡ ys)
  elements_one (last v w) (last u z) xs ys e =
      let r = element xs ys w z v u 0x5D 0x5D (omega arith) (omega arith) (λ q as' bs' m n f. value_one v q as' bs' m n f) (inr (inl refl)) (inr (inl refl)) e in
      (cc (r.0, r.1), r.3)
  elements_one (last v w) (more u z z' us) xs ys e =
      let r = element xs (spaces z' (elements us (0x5D ∷ ys))) w z v u 0x5D 0x2C (omega arith) (omega arith) (λ q as' bs' m n f. value_one v q as' bs' m n f) (inr (inl refl)) (inl (omega arith)) e in
      absurd (omega (arith, r.2))
  elements_one (more v w w' vs) (last u z) xs ys e =
      let r = element (spaces w' (elements vs (0x5D ∷ xs))) ys w z v u 0x2C 0x5D (omega arith) (omega arith) (λ q as' bs' m n f. value_one v q as' bs' m n f) (inl (omega arith)) (inr (inl refl)) e in
      absurd (omega (arith, r.2))
  elements_one (more v w w' vs) (more u z z' us) xs ys e =
      let r = element (spaces w' (elements vs (0x5D ∷ xs))) (spaces z' (elements us (0x5D ∷ ys))) w z v u 0x2C 0x2C (omega arith) (omega arith) (λ q as' bs' m n f. value_one v q as' bs' m n f) (inl (omega arith)) (inl (omega arith)) e in
      let s = spaces_one w' z' (elements vs (0x5D ∷ xs)) (elements us (0x5D ∷ ys)) (elements_no_blank vs (0x5D ∷ xs)) (elements_no_blank us (0x5D ∷ ys)) r.3 in
      let t = elements_one vs us xs ys s.1 in
      (cc (r.0, r.1, s.0, t.0), t.1)

  members_one : (ms us : Members) (xs ys : List ℕ) → members ms (0x7D ∷ xs) ≡ members us (0x7D ∷ ys) → (ms ≡ us) × (xs ≡ ys)
  members_one (last_m s w w' v w'') (last_m s' z z' u z'') xs ys e =
      let r = member xs ys s s' w z w' z' w'' z'' v u 0x7D 0x7D (omega arith) (omega arith) (λ q as' bs' m n f. value_one v q as' bs' m n f) (inr (inr refl)) (inr (inr refl)) (tail_eq e) in
      (cc (r.0, r.1, r.2, r.3, r.4), r.6)
  members_one (last_m s w w' v w'') (more_m s' z z' u z'' z''' us) xs ys e =
      let r = member xs (spaces z''' (members us (0x7D ∷ ys))) s s' w z w' z' w'' z'' v u 0x7D 0x2C (omega arith) (omega arith) (λ q as' bs' m n f. value_one v q as' bs' m n f) (inr (inr refl)) (inl (omega arith)) (tail_eq e) in
      absurd (omega (arith, r.5))
  members_one (more_m s w w' v w'' w''' ms) (last_m s' z z' u z'') xs ys e =
      let r = member (spaces w''' (members ms (0x7D ∷ xs))) ys s s' w z w' z' w'' z'' v u 0x2C 0x7D (omega arith) (omega arith) (λ q as' bs' m n f. value_one v q as' bs' m n f) (inl (omega arith)) (inr (inr refl)) (tail_eq e) in
      absurd (omega (arith, r.5))
  members_one (more_m s w w' v w'' w''' ms) (more_m s' z z' u z'' z''' us) xs ys e =
      let r = member (spaces w''' (members ms (0x7D ∷ xs))) (spaces z''' (members us (0x7D ∷ ys))) s s' w z w' z' w'' z'' v u 0x2C 0x2C (omega arith) (omega arith) (λ q as' bs' m n f. value_one v q as' bs' m n f) (inl (omega arith)) (inl (omega arith)) (tail_eq e) in
      let t = spaces_one w''' z''' (members ms (0x7D ∷ xs)) (members us (0x7D ∷ ys)) (members_no_blank ms (0x7D ∷ xs)) (members_no_blank us (0x7D ∷ ys)) r.6 in
      let g = members_one ms us xs ys t.1 in
      (cc (r.0, r.1, r.2, r.3, r.4, t.0, g.0), g.1)

pub once : (t u : Text) → bytes t ≡ bytes u → t ≡ u
unfolding bytes
once t u e =
    let r = spaces_one t.before u.before (value t.root (spaces t.behind [])) (value u.root (spaces u.behind [])) (value_no_blank t.root (spaces t.behind [])) (value_no_blank u.root (spaces u.behind [])) e in
    let s = value_one t.root u.root (spaces t.behind []) (spaces u.behind []) (spaces_ending t.behind [] tt) (spaces_ending u.behind [] tt) r.1 in
    let w = spaces_one t.behind u.behind [] [] tt tt s.1 in
    λ i. record { before = r.0 i; root = s.0 i; behind = w.0 i }
