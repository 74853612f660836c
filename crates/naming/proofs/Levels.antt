-- Before the first fault of a text no value is on level 33, so the number of each object there is held.
--     held_text    the theorem
-- Assumes nothing.
use mathlib.Core.Bool.{Bool, true, false, cond}
use mathlib.Core.List.{List, [], ◌∷◌}
use mathlib.Core.Logic.{⊎_elim}
use mathlib.Core.Option.{Option, none, some}
use mathlib.Core.Path.{◌≡◌, refl, sym, subst}
use Prim.Native.Nat.{ℕ, suc, ◌≤◌, ◌<◌}
use native.Mathlib.Omega.{arith}
use borrow.Author.Tests.{eqb-false}
use lib.Dec.{eqb}
use lib.ListN.{length}
use Rattle.laws.proofs.Tests.{le_or_lt}
use Rattle.sheet.specs.Kinds.{number_max}
use Rattle.sheet.specs.Record.{rows_max}
use Rattle.sheet.specs.Faults.{level_refused}
use Rattle.jsontext.specs.Text as T
use Rattle.jsontext.specs.Text.{Space, spaces, plain, Str, piece, pieces, Value, null, truth, falsity, num, str, empty_array, array, empty_object, object, Elements, last, more, Members, last_m, more_m, value, elements, members, Text}
use Rattle.jsontext.specs.Value.{unit_code, waiting, decoded}
use Rattle.jsontext.specs.Sightings.{What, a_value, a_name, an_escape}
use Rattle.jsontext.specs.Starts.{Start, string_starts, value_starts, element_starts, member_starts, text_starts}
use Rattle.reader.specs.Faults.{value_fault, Fault, or_else, first_fault}
use Rattle.reader.proofs.Lengths.{decoded_short, spaces_long, value_short}
use Rattle.naming.proofs.Gathered.{Held, HeldItems, HeldFields}
use Rattle.survey.specs.Told.{unnamed}
use Rattle.naming.proofs.Order.{Falling, f_none, f_more, starts_fall}
use Rattle.naming.proofs.Earlier.{left_at, other_fault}

-- no value that starts before the limit is on level 33
abbrev Low : What → ℕ → Start → Type 0
Low a_value limit s = limit < length s.seen.behind → s.seen.level ≡ level_refused → ⊥
Low a_name limit s = Unit {0}
Low an_escape limit s = Unit {0}

data Shallow (limit : ℕ) : List Start → Type 0 where
  s_none : Shallow limit []
  s_more : {s : Start} {ss : List Start} → Low s.seen.what limit s → Shallow limit ss → Shallow limit (s ∷ ss)

-- ---- from the fault

low_late : (w : What) (limit : ℕ) (s : Start) → length s.seen.behind ≤ limit → Low w limit s
low_late a_value limit s h = λ l e. omega arith
low_late a_name limit s h = tt
low_late an_escape limit s h = tt

shallow_late : (limit m : ℕ) (ss : List Start) → m ≤ suc limit → Falling m ss → Shallow limit ss
shallow_late limit m [] l f_none = s_none
shallow_late limit m (s ∷ ss) l (f_more g h f) =
    s_more (low_late s.seen.what limit s (omega arith)) (shallow_late limit (length s.seen.behind) ss (omega arith) f)

no_level : (n : ℕ) (s : Start) → value_fault n s ≡ none → s.seen.level ≡ level_refused → ⊥
unfolding value_fault
no_level n s e = go (eqb n rows_max) s.amiss (eqb s.seen.level level_refused) refl e
  where
    go : (a b c : Bool) → eqb s.seen.level level_refused ≡ c → cond {A = Option ℕ} a (some 22) (cond b (some 23) (cond c (some 24) none)) ≡ none → s.seen.level ≡ level_refused → ⊥
    go true b c p f = let z : ◌≡◌ {A = ℕ} 0 1 = cc in absurd (omega arith)
    go false true c p f = let z : ◌≡◌ {A = ℕ} 0 1 = cc in absurd (omega arith)
    go false false true p f = let z : ◌≡◌ {A = ℕ} 0 1 = cc in absurd (omega arith)
    go false false false p f = eqb-false s.seen.level level_refused p

shallow_fault : (m n : ℕ) (ss : List Start) (o : Option Fault) → Falling m ss → first_fault n (unnamed ss) ≡ o → Shallow (left_at o) ss
unfolding first_fault unnamed value_fault
shallow_fault m n [] o f_none e = s_none
shallow_fault m n (s ∷ ss) o (f_more g h f) e =
    go s.seen.what refl e (λ k d. shallow_fault (length s.seen.behind) k ss o f d) (λ l. shallow_late (left_at o) (length s.seen.behind) ss l f)
  where
    here : (r : Option ℕ) (k : ℕ) (w : What) → s.seen.what ≡ w → or_else r s.seen.behind (first_fault k (unnamed ss)) ≡ o
        → (r ≡ none → Low w (left_at o) s)
        → (first_fault k (unnamed ss) ≡ o → Shallow (left_at o) ss)
        → (length s.seen.behind ≤ suc (left_at o) → Shallow (left_at o) ss)
        → Shallow (left_at o) (s ∷ ss)
    here none k w p q low i late = s_more {s = s} (subst (λ (x : What). Low x (left_at o) s) (sym p) (low refl)) (i q)
    here (some x) k w p q low i late =
        let l : left_at o ≡ length s.seen.behind = rw (sym q) in
        s_more {s = s} (low_late s.seen.what (left_at o) s (omega arith)) (late (omega arith))

    go : (w : What) → s.seen.what ≡ w → first_fault n (unnamed (s ∷ ss)) ≡ o
        → ((k : ℕ) → first_fault k (unnamed ss) ≡ o → Shallow (left_at o) ss)
        → (length s.seen.behind ≤ suc (left_at o) → Shallow (left_at o) ss)
        → Shallow (left_at o) (s ∷ ss)
    go a_value p q i late = here (value_fault n s) (suc n) a_value p (rw p at q) (λ r l. no_level n s r) (i (suc n)) late
    go a_name p q i late = here none n a_name p (rw p at q) (λ r. tt) (i n) late
    go an_escape p q i late = here (cond s.amiss (some 26) none) n an_escape p (rw p at q) (λ r. tt) (i n) late

-- ---- what follows a value

rest_string : (limit w : ℕ) (s : Str) (k : ℕ) (rest : List ℕ) (later : List Start) → Shallow limit (string_starts w s k rest later) → Shallow limit later
unfolding string_starts
rest_string limit w [] k rest later h = h
rest_string limit w (plain c p ∷ ps) k rest later h = rest_string limit 0 ps k rest later h
rest_string limit w (T.escape m ∷ ps) k rest later (s_more l h) = rest_string limit 0 ps k rest later h
rest_string limit w (T.unit h i j l ∷ ps) k rest later (s_more u t) = rest_string limit (waiting (unit_code h i j l) ps) ps k rest later t

module _ (most limit : ℕ) where
  mutual
    unfolding value_starts

    rest_value : (x : Value) (k : ℕ) (rest : List ℕ) (later : List Start) → Shallow limit (value_starts most x k rest later) → Shallow limit later
    rest_value null k rest later (s_more l h) = h
    rest_value truth k rest later (s_more l h) = h
    rest_value falsity k rest later (s_more l h) = h
    rest_value (num n) k rest later (s_more l h) = h
    rest_value (str s) k rest later (s_more l h) = rest_string limit 0 s k (0x22 ∷ rest) later h
    rest_value (empty_array w) k rest later (s_more l h) = h
    rest_value (array w vs) k rest later (s_more l h) = rest_elements vs (suc k) (0x5D ∷ rest) later h
    rest_value (empty_object w) k rest later (s_more l h) = h
    rest_value (object w ms) k rest later (s_more l h) = rest_members [] ms (suc k) (0x7D ∷ rest) later h

    rest_elements : (vs : Elements) (k : ℕ) (rest : List ℕ) (later : List Start) → Shallow limit (element_starts most vs k rest later) → Shallow limit later
    rest_elements (last x w) k rest later h = rest_value x k (spaces w rest) later h
    rest_elements (more x w w' xs) k rest later h =
        rest_elements xs k rest later (rest_value x k (spaces w (0x2C ∷ spaces w' (elements xs rest))) (element_starts most xs k rest later) h)

    rest_members : (names : List (List ℕ)) (ms : Members) (k : ℕ) (rest : List ℕ) (later : List Start) → Shallow limit (member_starts most names ms k rest later) → Shallow limit later
    rest_members names (last_m s w w' x w'') k rest later (s_more l h) =
        let next = spaces w'' rest in
        rest_value x k next later (rest_string limit 0 s k (0x22 ∷ spaces w (0x3A ∷ spaces w' (value x next))) (value_starts most x k next later) h)
    rest_members names (more_m s w w' x w'' w''' ms) k rest later (s_more l h) =
        let next = spaces w'' (0x2C ∷ spaces w''' (members ms rest)) in
        let others = member_starts most (decoded s ∷ names) ms k rest later in
        rest_members (decoded s ∷ names) ms k rest later
        (rest_value x k next others (rest_string limit 0 s k (0x22 ∷ spaces w (0x3A ∷ spaces w' (value x next))) (value_starts most x k next others) h))

  -- ---- nothing is asked of what starts behind the limit

  mutual
    unfolding value

    late_value : (x : Value) (d : ℕ) (rest : List ℕ) → length (value x rest) ≤ limit → Held limit d x rest
    late_value null d rest h = tt
    late_value truth d rest h = tt
    late_value falsity d rest h = tt
    late_value (num n) d rest h = tt
    late_value (str s) d rest h = tt
    late_value (empty_array w) d rest h = tt
    late_value (array w vs) d rest h = late_elements vs (suc d) (0x5D ∷ rest) (omega (arith, spaces_long w (elements vs (0x5D ∷ rest))))
    late_value (empty_object w) d rest h = tt
    late_value (object w ms) d rest h =
        let l : length (members ms (0x7D ∷ rest)) ≤ limit = omega (arith, spaces_long w (members ms (0x7D ∷ rest))) in
        ((λ (m : limit < length (members ms (0x7D ∷ rest))). absurd (omega arith)), late_members ms (suc d) (0x7D ∷ rest) l)

    late_elements : (vs : Elements) (d : ℕ) (rest : List ℕ) → length (elements vs rest) ≤ limit → HeldItems limit d vs rest
    late_elements (last x w) d rest h = late_value x d (spaces w rest) h
    late_elements (more x w w' xs) d rest h =
        let others = elements xs rest in
        let end = spaces w (0x2C ∷ spaces w' others) in
        (late_value x d end h, late_elements xs d rest (omega (arith, value_short x end, spaces_long w (0x2C ∷ spaces w' others), spaces_long w' others)))

    late_members : (ms : Members) (d : ℕ) (rest : List ℕ) → length (members ms rest) ≤ limit → HeldFields limit d ms rest
    late_members (last_m s w w' x w'') d rest h =
        let next = spaces w'' rest in
        let end = spaces w (0x3A ∷ spaces w' (value x next)) in
        late_value x d next (omega (arith, decoded_short 0 s (0x22 ∷ end), spaces_long w (0x3A ∷ spaces w' (value x next)), spaces_long w' (value x next)))
    late_members (more_m s w w' x w'' w''' ms) d rest h =
        let others = members ms rest in
        let next = spaces w'' (0x2C ∷ spaces w''' others) in
        let end = spaces w (0x3A ∷ spaces w' (value x next)) in
        let v : length (value x next) ≤ limit = omega (arith, decoded_short 0 s (0x22 ∷ end), spaces_long w (0x3A ∷ spaces w' (value x next)), spaces_long w' (value x next)) in
        (late_value x d next v, late_members ms d rest (omega (arith, value_short x next, spaces_long w'' (0x2C ∷ spaces w''' others), spaces_long w''' others)))

  -- ---- a value with d brackets around it

  mutual
    unfolding value value_starts

    held_value : (x : Value) (d : ℕ) (rest : List ℕ) (later : List Start) → d < level_refused → Shallow limit (value_starts most x (suc d) rest later) → Held limit d x rest
    held_value null d rest later l h = tt
    held_value truth d rest later l h = tt
    held_value falsity d rest later l h = tt
    held_value (num n) d rest later l h = tt
    held_value (str s) d rest later l h = tt
    held_value (empty_array w) d rest later l h = tt
    held_value (array w vs) d rest later l (s_more low h) =
        ⊎_elim
        (λ (p : length (value (array w vs) rest) ≤ limit). late_value (array w vs) d rest p)
        (λ (p : limit < length (value (array w vs) rest)). let ne = low p in held_elements vs (suc d) (0x5D ∷ rest) later (omega arith) h)
        (le_or_lt (length (value (array w vs) rest)) limit)
    held_value (empty_object w) d rest later l h = tt
    held_value (object w ms) d rest later l (s_more low h) =
        ⊎_elim
        (λ (p : length (value (object w ms) rest) ≤ limit). late_value (object w ms) d rest p)
        (λ (p : limit < length (value (object w ms) rest)).
        let ne = low p in
        ((λ (m : limit < length (members ms (0x7D ∷ rest))). l), held_members [] ms (suc d) (0x7D ∷ rest) later (omega arith) h))
        (le_or_lt (length (value (object w ms) rest)) limit)

    held_elements : (vs : Elements) (d : ℕ) (rest : List ℕ) (later : List Start) → d < level_refused → Shallow limit (element_starts most vs (suc d) rest later) → HeldItems limit d vs rest
    held_elements (last x w) d rest later l h = held_value x d (spaces w rest) later l h
    held_elements (more x w w' xs) d rest later l h =
        let end = spaces w (0x2C ∷ spaces w' (elements xs rest)) in
        let others = element_starts most xs (suc d) rest later in
        (held_value x d end others l h, held_elements xs d rest later l (rest_value x (suc d) end others h))

    held_members : (names : List (List ℕ)) (ms : Members) (d : ℕ) (rest : List ℕ) (later : List Start) → d < level_refused
        → Shallow limit (member_starts most names ms (suc d) rest later)
        → HeldFields limit d ms rest
    held_members names (last_m s w w' x w'') d rest later l (s_more u h) =
        let next = spaces w'' rest in
        held_value x d next later l (rest_string limit 0 s (suc d) (0x22 ∷ spaces w (0x3A ∷ spaces w' (value x next))) (value_starts most x (suc d) next later) h)
    held_members names (more_m s w w' x w'' w''' ms) d rest later l (s_more u h) =
        let next = spaces w'' (0x2C ∷ spaces w''' (members ms rest)) in
        let others = member_starts most (decoded s ∷ names) ms (suc d) rest later in
        let on = rest_string limit 0 s (suc d) (0x22 ∷ spaces w (0x3A ∷ spaces w' (value x next))) (value_starts most x (suc d) next others) h in
        (held_value x d next others l on, held_members (decoded s ∷ names) ms d rest later l (rest_value x (suc d) next others on))

pub held_text : (t : Text) → Held (left_at (other_fault t)) 0 t.root (spaces t.behind [])
held_text t =
    held_value number_max (left_at (other_fault t)) t.root 0 (spaces t.behind []) [] (omega arith)
    (shallow_fault _ 0 (text_starts number_max t) (other_fault t) (starts_fall number_max t) refl)
