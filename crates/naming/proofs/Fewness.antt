-- A text has at most 1,024 names before its first fault: each but the last is followed by a value before that, and the 1,025th value is a fault.
--     few_names    the theorem
-- Assumes nothing.
use mathlib.Core.Bool.{Bool, true, false, cond}
use mathlib.Core.List.{List, [], ◌∷◌, ◌++◌}
use mathlib.Core.Option.{Option, none, some}
use mathlib.Core.Path.{◌≡◌, refl, sym, subst, ap, ◌∙◌}
use Prim.Native.Nat.{ℕ, zero, suc, ◌+◌, ◌≤◌, ◌<◌}
use native.Mathlib.Omega.{arith}
use borrow.Author.Tests.{eqb-false, ltb-true, ltb-false, le-ltb}
use lib.Dec.{eqb, ltb}
use lib.ListN.{length, length-append}
use Rattle.sheet.specs.Kinds.{number_max}
use Rattle.sheet.specs.Record.{rows_max}
use Rattle.sheet.specs.Faults.{level_refused}
use Rattle.jsontext.specs.Text as T
use Rattle.jsontext.specs.Text.{Space, spaces, plain, Str, piece, pieces, Value, null, truth, falsity, num, str, empty_array, array, empty_object, object, Elements, last, more, Members, last_m, more_m, value, elements, members, Text}
use Rattle.jsontext.specs.Number.{exact_of, wide}
use Rattle.jsontext.specs.Value.{unit_code, waiting, is_lone, decoded}
use Rattle.jsontext.specs.Sightings.{What, a_value, a_name, an_escape}
use Rattle.jsontext.specs.Starts.{Start, starting, among, string_starts, value_starts, element_starts, member_starts, text_starts}
use Rattle.reader.specs.Faults.{value_fault, count_by, Fault, or_else, first_fault}
use Rattle.naming.specs.Members.{values_in, elements_in, members_in, Named, value_names, text_names}
use Rattle.naming.specs.Gathering.{before}
use Rattle.naming.proofs.Told.{Told, names_told, told, told_text}
use Rattle.survey.specs.Told.{unnamed}
use Rattle.naming.proofs.Order.{Falling, f_none, f_more, starts_fall}
use Rattle.naming.proofs.Earlier.{left_at, other_fault, names_before}

-- after c names and v values each name finds more values than names before it
data Balanced : ℕ → ℕ → List Start → Type 0 where
  b_none : {c v : ℕ} → Balanced c v []
  b_value : {c v : ℕ} {s : Start} {ss : List Start} → s.seen.what ≡ a_value → Balanced c (suc v) ss → Balanced c v (s ∷ ss)
  b_name : {c v : ℕ} {s : Start} {ss : List Start} → s.seen.what ≡ a_name → c < v → Balanced (suc c) v ss → Balanced c v (s ∷ ss)
  b_escape : {c v : ℕ} {s : Start} {ss : List Start} → s.seen.what ≡ an_escape → Balanced c v ss → Balanced c v (s ∷ ss)

string_balanced : (c v w : ℕ) (s : Str) (k : ℕ) (rest : List ℕ) (later : List Start) → Balanced c v later → Balanced c v (string_starts w s k rest later)
unfolding string_starts
string_balanced c v w [] k rest later b = b
string_balanced c v w (plain x p ∷ ps) k rest later b = string_balanced c v 0 ps k rest later b
string_balanced c v w (T.escape m ∷ ps) k rest later b = b_escape refl (string_balanced c v 0 ps k rest later b)
string_balanced c v w (T.unit h i j l ∷ ps) k rest later b = b_escape refl (string_balanced c v (waiting (unit_code h i j l) ps) ps k rest later b)

-- what follows finds more values than names
abbrev Ready : List Start → Type 0
Ready later = (c v : ℕ) → c < v → Balanced c v later

module _ (most : ℕ) where
  mutual
    unfolding value_starts

    value_balanced : (x : Value) (k : ℕ) (rest : List ℕ) (later : List Start) → Ready later → (c v : ℕ) → c ≤ v → Balanced c v (value_starts most x k rest later)
    value_balanced null k rest later r c v l = b_value refl (r c (suc v) (omega arith))
    value_balanced truth k rest later r c v l = b_value refl (r c (suc v) (omega arith))
    value_balanced falsity k rest later r c v l = b_value refl (r c (suc v) (omega arith))
    value_balanced (num n) k rest later r c v l = b_value refl (r c (suc v) (omega arith))
    value_balanced (str s) k rest later r c v l = b_value refl (string_balanced c (suc v) 0 s k (0x22 ∷ rest) later (r c (suc v) (omega arith)))
    value_balanced (empty_array w) k rest later r c v l = b_value refl (r c (suc v) (omega arith))
    value_balanced (array w vs) k rest later r c v l = b_value refl (elements_balanced vs (suc k) (0x5D ∷ rest) later r c (suc v) (omega arith))
    value_balanced (empty_object w) k rest later r c v l = b_value refl (r c (suc v) (omega arith))
    value_balanced (object w ms) k rest later r c v l = b_value refl (members_balanced [] ms (suc k) (0x7D ∷ rest) later r c (suc v) (omega arith))

    elements_balanced : (vs : Elements) (k : ℕ) (rest : List ℕ) (later : List Start) → Ready later → (c v : ℕ) → c ≤ v → Balanced c v (element_starts most vs k rest later)
    elements_balanced (last x w) k rest later r c v l = value_balanced x k (spaces w rest) later r c v l
    elements_balanced (more x w w' xs) k rest later r c v l =
        value_balanced x k (spaces w (0x2C ∷ spaces w' (elements xs rest))) (element_starts most xs k rest later) (λ a b m. elements_balanced xs k rest later r a b (omega arith)) c v l

    members_balanced : (names : List (List ℕ)) (ms : Members) (k : ℕ) (rest : List ℕ) (later : List Start) → Ready later → (c v : ℕ) → c < v → Balanced c v (member_starts most names ms k rest later)
    members_balanced names (last_m s w w' x w'') k rest later r c v l =
        let next = spaces w'' rest in
        b_name refl l
        (string_balanced (suc c) v 0 s k (0x22 ∷ spaces w (0x3A ∷ spaces w' (value x next))) (value_starts most x k next later) (value_balanced x k next later r (suc c) v (omega arith)))
    members_balanced names (more_m s w w' x w'' w''' ms) k rest later r c v l =
        let next = spaces w'' (0x2C ∷ spaces w''' (members ms rest)) in
        let others = member_starts most (decoded s ∷ names) ms k rest later in
        b_name refl l
        (string_balanced (suc c) v 0 s k (0x22 ∷ spaces w (0x3A ∷ spaces w' (value x next))) (value_starts most x k next others)
        (value_balanced x k next others (λ a b m. members_balanced (decoded s ∷ names) ms k rest later r a b m) (suc c) v (omega arith)))

  text_balanced : (t : Text) → Balanced 0 0 (text_starts most t)
  text_balanced t = value_balanced t.root 1 (spaces t.behind []) [] (λ c v l. b_none) 0 0 (omega arith)

-- ---- how many names are before the limit

unfoldable many_told : ℕ → List Told → ℕ
many_told limit [] = 0
many_told limit (t ∷ ts) = cond (ltb limit (length t.behind)) 1 0 + many_told limit ts

many_before : (limit : ℕ) (done xs : List Named) → length (before limit xs) ≡ many_told limit (told done xs)
unfolding before told many_told
many_before limit done [] = refl
many_before limit done (x ∷ xs) = go (ltb limit (length x.behind)) (many_before limit (x ∷ done) xs)
  where
    go : (b : Bool) → length (before limit xs) ≡ many_told limit (told (x ∷ done) xs)
        → length (cond b (x ∷ before limit xs) (before limit xs)) ≡ cond b 1 0 + many_told limit (told (x ∷ done) xs)
    go true e = omega arith
    go false e = omega arith

at_most_one : (b : Bool) → cond b 1 0 ≤ 1
at_most_one true = omega arith
at_most_one false = omega arith

-- none of those with no more bytes left
none_told : (limit m : ℕ) (ss : List Start) → m ≤ suc limit → Falling m ss → many_told limit (names_told ss) ≡ 0
unfolding many_told names_told
none_told limit m [] l f_none = refl
none_told limit m (s ∷ ss) l (f_more g h f) = go s.seen.what refl (none_told limit (length s.seen.behind) ss (omega arith) f)
  where
    go : (w : What) → s.seen.what ≡ w → many_told limit (names_told ss) ≡ 0 → many_told limit (names_told (s ∷ ss)) ≡ 0
    go a_value e i = rw e i
    go a_name e i = rw (e, le-ltb limit (length s.seen.behind) (omega arith), i)
    go an_escape e i = rw e i

not_last : (n : ℕ) (s : Start) → value_fault n s ≡ none → n ≡ rows_max → ⊥
unfolding value_fault
not_last n s e = go (eqb n rows_max) s.amiss (eqb s.seen.level level_refused) refl e
  where
    go : (a b c : Bool) → eqb n rows_max ≡ a → cond {A = Option ℕ} a (some 22) (cond b (some 23) (cond c (some 24) none)) ≡ none → n ≡ rows_max → ⊥
    go true b c p f = let z : ◌≡◌ {A = ℕ} 0 1 = cc in absurd (omega arith)
    go false b c p f = eqb-false n rows_max p

-- at a start that is the fault, or is passed
fault_or : (x : Option ℕ) (bs : List ℕ) (c : ℕ) (ss : List Start) (o next : Option Fault) → or_else x bs next ≡ o → c ≤ rows_max
    → (left_at o ≡ length bs → many_told (left_at o) (names_told ss) ≡ 0)
    → (x ≡ none → next ≡ o → c + many_told (left_at o) (names_told ss) ≤ rows_max)
    → c + many_told (left_at o) (names_told ss) ≤ rows_max
fault_or none bs c ss o next e l z on = on refl e
fault_or (some x) bs c ss o next e l z on = let n = z (rw (sym e)) in omega arith

few : (m c v : ℕ) (ss : List Start) (o : Option Fault) → Falling m ss → Balanced c v ss → first_fault v (unnamed ss) ≡ o → c ≤ v → v ≤ rows_max
    → c + many_told (left_at o) (names_told ss) ≤ rows_max
unfolding first_fault unnamed value_fault many_told names_told
few m c v [] o f_none b e l r = omega arith
few m c v (s ∷ ss) o (f_more g h f) (b_value w b) e l r =
    rw w
    (fault_or (value_fault v s) s.seen.behind c ss o (first_fault (suc v) (unnamed ss)) (rw w at e) (omega arith)
    (λ (z : left_at o ≡ length s.seen.behind). none_told (left_at o) (length s.seen.behind) ss (omega arith) f)
    (λ (p : value_fault v s ≡ none) q. let ne = not_last v s p in few (length s.seen.behind) c (suc v) ss o f b q (omega arith) (omega arith)))
few m c v (s ∷ ss) o (f_more g h f) (b_name w n b) e l r =
    rw w
    (let i = few (length s.seen.behind) (suc c) v ss o f b (rw w at e) (omega arith) r in
    omega (arith, at_most_one (ltb (left_at o) (length s.seen.behind))))
few m c v (s ∷ ss) o (f_more g h f) (b_escape w b) e l r =
    rw w
    (fault_or (cond s.amiss (some 26) none) s.seen.behind c ss o (first_fault v (unnamed ss)) (rw w at e) (omega arith)
    (λ (z : left_at o ≡ length s.seen.behind). none_told (left_at o) (length s.seen.behind) ss (omega arith) f)
    (λ p q. few (length s.seen.behind) c v ss o f b q l r))

pub few_names : (t : Text) → length (names_before t) ≤ rows_max
few_names t =
    let o = other_fault t in
    let ss = text_starts number_max t in
    let n = few _ 0 0 ss o (starts_fall number_max t) (text_balanced number_max t) refl (omega arith) (omega arith) in
    let e : many_told (left_at o) (names_told ss) ≡ many_told (left_at o) (told [] (text_names t)) = ap (many_told (left_at o)) (told_text number_max t) in
    omega (arith, many_before (left_at o) [] (text_names t))
