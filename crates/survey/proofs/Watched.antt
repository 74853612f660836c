-- The first pass finds the fault that starts first.
--     value_told    of a value
--     watched       the theorem
-- Assumes nothing.
use mathlib.Core.Bool.{Bool, true, false, cond, ◌&&◌}
use mathlib.Core.List.{List, [], ◌∷◌}
use mathlib.Core.Logic.{◌≢◌, ◌⊎◌, inl, inr, ⊎_elim}
use mathlib.Core.Option.{none, some}
use mathlib.Core.Path.{◌≡◌, refl, ◌∙◌, ap}
use Prim.Native.Nat.{ℕ, suc, ◌≤◌, ◌<◌}
use native.Mathlib.Omega.{arith}
use borrow.Author.Tests.{eq-eqb, lt-ltb}
use lib.Dec.{eqb}
use lib.ListN.{length}
use Rattle.jsontext.specs.Text.{spaces, Str, pieces, Value, null, truth, falsity, num, str, empty_array, array, empty_object, object, Elements, last, more, Members, last_m, more_m, value, elements, members, Text, bytes}
use Rattle.jsontext.specs.Value.{decoded}
use Rattle.jsontext.specs.Automaton.{Bracket, square, curly, as_value, as_name, ahead, after, name, start}
use Rattle.jsontext.specs.Along.{along}
use Rattle.jsontext.specs.Sightings.{a_value}
use Rattle.jsontext.specs.Starts.{Start, starting, string_starts, value_starts, element_starts, member_starts, text_starts}
use Rattle.jsontext.proofs.Trimming.{by_zero}
use Rattle.jsontext.proofs.Doing.{string_does, value_does, elements_do, members_do}
use Rattle.jsontext.proofs.AlongValues.{text_along}
use Rattle.sheet.specs.Kinds.{number_max}
use Rattle.sheet.specs.Record.{rows_max}
use Rattle.sheet.specs.Faults.{level_refused}
use Rattle.reader.specs.Faults.{value_fault, or_else, first_fault}
use Rattle.reader.proofs.Lengths.{spaces_long, decoded_short, value_short}
use Rattle.survey.specs.declared.Watch.{Watch}
use Rattle.survey.specs.Watching.{watch, no_escapes, found, numeric, first_figure, counted, begun, watching}
use Rattle.survey.specs.Told.{told, unnamed}
use Rattle.survey.proofs.Orders.{stopping, going, stays, stays_stopped, calm, orderly}
use Rattle.survey.proofs.Still.{value_still}
use Rattle.survey.proofs.Strung.{verdict, frozen, string_told}
use Rattle.survey.proofs.Numbered.{number_told}

-- ---- the first byte of a value that is no number

begun_told : (k b : ℕ) (bs : List ℕ) (s : Watch) (later : List Start) → s.fault ≡ 0 → numeric b ≡ false
    → verdict (begun k b (length bs) s) later ≡ verdict s (starting a_value (suc k) bs false ∷ later)
unfolding begun first_fault value_fault unnamed told
begun_told k b bs s later e n = rw (eq-eqb s.fault 0 e, n) (go (eqb s.values rows_max) (eqb (suc k) level_refused))
  where
    t : Watch
    t = record { fault = 0; left = 0; values = suc s.values; start = length bs; figure = first_figure b; escapes = no_escapes }

    go : (m d : Bool)
        → verdict (cond m (found 22 (length bs) s) (cond (d && true) (found 24 (length bs) t) t)) later
        ≡ told (or_else (cond m (some 22) (cond false (some 23) (cond d (some 24) none))) bs (first_fault (suc s.values) (unnamed later)))
    go true d = refl
    go false true = refl
    go false false = refl

opening_told : (ks : List Bracket) (b : ℕ) (bs : List ℕ) (s : Watch) (later : List Start) → 0x20 < b → numeric b ≡ false
    → verdict (watching ahead ks b bs s) later ≡ verdict s (starting a_value (suc (length ks)) (b ∷ bs) false ∷ later)
opening_told ks b bs s later h n =
    ⊎_elim
    (λ (e : s.fault ≡ 0).
    let starts : watching ahead ks b bs s ≡ begun (length ks) b (suc (length bs)) s = going ahead ks b bs s e ∙ rw (lt-ltb 0x20 b h) in
    ap (λ (t : Watch). verdict t later) starts ∙ begun_told (length ks) b (b ∷ bs) s later e n)
    (λ (f : s.fault ≢ 0). ap (λ (t : Watch). verdict t later) (stays s f ahead ks b bs) ∙ frozen s f later (starting a_value (suc (length ks)) (b ∷ bs) false ∷ later))
    (by_zero s.fault)

-- after the opening quote of a string no surrogate waits
abbrev Fresh : Watch → Type 0
Fresh s = (s.fault ≢ 0) ⊎ (s.escapes.waits ≡ 0)

quote_fresh : (ks : List Bracket) (bs : List ℕ) (s : Watch) → Fresh (watching ahead ks 0x22 bs s)
unfolding begun
quote_fresh ks bs s =
    ⊎_elim
    (λ (e : s.fault ≡ 0). rw (going ahead ks 0x22 bs s e) (go (eqb s.values rows_max) (eqb (suc (length ks)) level_refused)))
    (λ (f : s.fault ≢ 0). rw (stays s f ahead ks 0x22 bs) (inl f))
    (by_zero s.fault)
  where
    t : Watch
    t = counted 0x22 (suc (length bs)) s

    go : (m d : Bool) → Fresh (cond m (found 22 (suc (length bs)) s) (cond (d && true) (found 24 (suc (length bs)) t) t))
    go true d = inl (λ x. omega arith)
    go false true = inl (λ x. omega arith)
    go false false = inr refl

name_fresh : (ks : List Bracket) (bs : List ℕ) (s : Watch) → Fresh (watching name ks 0x22 bs s)
name_fresh ks bs s =
    ⊎_elim
    (λ (e : s.fault ≡ 0). rw (going name ks 0x22 bs s e) (inr refl))
    (λ (f : s.fault ≢ 0). rw (stays s f name ks 0x22 bs) (inl f))
    (by_zero s.fault)

name_told : (ks : List Bracket) (bs : List ℕ) (s : Watch) (later : List Start) → verdict (watching name ks 0x22 bs s) later ≡ verdict s later
name_told ks bs s later =
    ⊎_elim
    (λ (e : s.fault ≡ 0). ap (λ (t : Watch). verdict t later) (going name ks 0x22 bs s e))
    (λ (f : s.fault ≢ 0). ap (λ (t : Watch). verdict t later) (stays s f name ks 0x22 bs))
    (by_zero s.fault)

-- a closing bracket moves nothing
shut : (ks : List Bracket) (b : ℕ) (bs : List ℕ) (s : Watch) (later : List Start) → verdict (watching after ks b bs s) later ≡ verdict s later
shut ks b bs s later = ap (λ (t : Watch). verdict t later) (calm after ks b bs s refl)

-- a name
named : (ks : List Bracket) (x : Str) (k : ℕ) (end : List ℕ) (s : Watch) (later : List Start)
    → verdict (string_does watching stopping as_name ks x end (watching name ks 0x22 (pieces x (0x22 ∷ end)) s)) later ≡ verdict s (string_starts 0 x k (0x22 ∷ end) later)
named ks x k end s later =
    let bs : List ℕ = pieces x (0x22 ∷ end) in
    string_told as_name ks k end later x (watching name ks 0x22 bs s) (name_fresh ks bs s) ∙ name_told ks bs s (string_starts 0 x k (0x22 ∷ end) later)

abbrev short_enough : List ℕ → Type 0
short_enough bs = length bs ≤ 65_536

mutual
  unfolding value value_does value_starts unnamed

  pub value_told : (v : Value) (ks : List Bracket) (rest : List ℕ) (s : Watch) (later : List Start) → short_enough (value v rest)
      → verdict (value_does watching stopping ks v rest s) later ≡ verdict s (value_starts number_max v (suc (length ks)) rest later)
  value_told null ks rest s later h = opening_told ks 0x6E (0x75 ∷ 0x6C ∷ 0x6C ∷ rest) s later (omega arith) refl
  value_told truth ks rest s later h = opening_told ks 0x74 (0x72 ∷ 0x75 ∷ 0x65 ∷ rest) s later (omega arith) refl
  value_told falsity ks rest s later h = opening_told ks 0x66 (0x61 ∷ 0x6C ∷ 0x73 ∷ 0x65 ∷ rest) s later (omega arith) refl
  value_told (num n) ks rest s later h =
      ⊎_elim
      (λ (e : s.fault ≡ 0). number_told ks s e n rest later h)
      (λ (f : s.fault ≢ 0).
      ap (λ (t : Watch). verdict t later) (value_still watching stopping s (stays s f) (stays_stopped s f) (num n) ks rest)
      ∙ frozen s f later (value_starts number_max (num n) (suc (length ks)) rest later))
      (by_zero s.fault)
  value_told (str x) ks rest s later h =
      let bs : List ℕ = pieces x (0x22 ∷ rest) in
      let k : ℕ = suc (length ks) in
      string_told as_value ks k rest later x (watching ahead ks 0x22 bs s) (quote_fresh ks bs s)
      ∙ opening_told ks 0x22 bs s (string_starts 0 x k (0x22 ∷ rest) later) (omega arith) refl
  value_told (empty_array w) ks rest s later h =
      let bs : List ℕ = spaces w (0x5D ∷ rest) in
      shut (square ∷ ks) 0x5D rest (watching ahead ks 0x5B bs s) later ∙ opening_told ks 0x5B bs s later (omega arith) refl
  value_told (array w vs) ks rest s later h =
      let bs : List ℕ = spaces w (elements vs (0x5D ∷ rest)) in
      let t : Watch = watching ahead ks 0x5B bs s in
      shut (square ∷ ks) 0x5D rest (elements_do watching stopping (square ∷ ks) vs (0x5D ∷ rest) t) later
      ∙ elements_told vs (square ∷ ks) (0x5D ∷ rest) t later (omega (arith, spaces_long w (elements vs (0x5D ∷ rest))))
      ∙ opening_told ks 0x5B bs s (element_starts number_max vs (suc (suc (length ks))) (0x5D ∷ rest) later) (omega arith) refl
  value_told (empty_object w) ks rest s later h =
      let bs : List ℕ = spaces w (0x7D ∷ rest) in
      shut (curly ∷ ks) 0x7D rest (watching ahead ks 0x7B bs s) later ∙ opening_told ks 0x7B bs s later (omega arith) refl
  value_told (object w ms) ks rest s later h =
      let bs : List ℕ = spaces w (members ms (0x7D ∷ rest)) in
      let t : Watch = watching ahead ks 0x7B bs s in
      shut (curly ∷ ks) 0x7D rest (members_do watching stopping (curly ∷ ks) ms (0x7D ∷ rest) t) later
      ∙ members_told [] ms (curly ∷ ks) (0x7D ∷ rest) t later (omega (arith, spaces_long w (members ms (0x7D ∷ rest))))
      ∙ opening_told ks 0x7B bs s (member_starts number_max [] ms (suc (suc (length ks))) (0x7D ∷ rest) later) (omega arith) refl

  elements_told : (vs : Elements) (ks : List Bracket) (rest : List ℕ) (s : Watch) (later : List Start) → short_enough (elements vs rest)
      → verdict (elements_do watching stopping ks vs rest s) later ≡ verdict s (element_starts number_max vs (suc (length ks)) rest later)
  elements_told (last v w) ks rest s later h = value_told v ks (spaces w rest) s later h
  elements_told (more v w w' vs) ks rest s later h =
      let others : List ℕ = elements vs rest in
      let next : List ℕ = spaces w (0x2C ∷ spaces w' others) in
      elements_told vs ks rest (value_does watching stopping ks v next s) later (omega (arith, value_short v next, spaces_long w (0x2C ∷ spaces w' others), spaces_long w' others))
      ∙ value_told v ks next s (element_starts number_max vs (suc (length ks)) rest later) h

  members_told : (names : List (List ℕ)) (ms : Members) (ks : List Bracket) (rest : List ℕ) (s : Watch) (later : List Start) → short_enough (members ms rest)
      → verdict (members_do watching stopping ks ms rest s) later ≡ verdict s (member_starts number_max names ms (suc (length ks)) rest later)
  members_told names (last_m x w w' v w'') ks rest s later h =
      let next : List ℕ = spaces w'' rest in
      let end : List ℕ = spaces w (0x3A ∷ spaces w' (value v next)) in
      let k : ℕ = suc (length ks) in
      value_told v ks next (string_does watching stopping as_name ks x end (watching name ks 0x22 (pieces x (0x22 ∷ end)) s)) later
      (omega (arith, decoded_short 0 x (0x22 ∷ end), spaces_long w (0x3A ∷ spaces w' (value v next)), spaces_long w' (value v next)))
      ∙ named ks x k end s (value_starts number_max v k next later)
  members_told names (more_m x w w' v w'' w''' ms) ks rest s later h =
      let others : List ℕ = members ms rest in
      let next : List ℕ = spaces w'' (0x2C ∷ spaces w''' others) in
      let end : List ℕ = spaces w (0x3A ∷ spaces w' (value v next)) in
      let k : ℕ = suc (length ks) in
      let t : Watch = string_does watching stopping as_name ks x end (watching name ks 0x22 (pieces x (0x22 ∷ end)) s) in
      let short : short_enough (value v next) = omega (arith, decoded_short 0 x (0x22 ∷ end), spaces_long w (0x3A ∷ spaces w' (value v next)), spaces_long w' (value v next)) in
      members_told (decoded x ∷ names) ms ks rest (value_does watching stopping ks v next t) later
      (omega (arith, value_short v next, spaces_long w'' (0x2C ∷ spaces w''' others), spaces_long w''' others))
      ∙ value_told v ks next t (member_starts number_max (decoded x ∷ names) ms k rest later) short
      ∙ named ks x k end s (value_starts number_max v k next (member_starts number_max (decoded x ∷ names) ms k rest later))

-- the fault of a text that starts first, 25 not asked
pub watched : (t : Text) → length (bytes t) ≤ 65_536
    → verdict (along watching (bytes t) (some start) watch) [] ≡ told (first_fault 0 (unnamed (text_starts number_max t)))
unfolding bytes
watched t h =
    let end : List ℕ = spaces t.behind [] in
    ap (λ (x : Watch). verdict x []) (text_along watching stopping orderly t watch)
    ∙ value_told t.root [] end watch [] (omega (arith, spaces_long t.before (value t.root end)))
