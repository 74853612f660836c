-- The first fault of a text is the first that is no name's, or a repeated name that starts before it.
--     first_fault_lem  the theorem
-- Assumes nothing.
use mathlib.Core.Bool.{Bool, true, false, cond}
use mathlib.Core.List.{List, [], ◌∷◌}
use mathlib.Core.Option.{Option, none, some}
use mathlib.Core.Path.{◌≡◌, refl, ap, sym, ◌∙◌}
use Prim.Native.Nat.{ℕ, suc, ◌≤◌, ◌<◌}
use native.Mathlib.Omega.{arith}
use borrow.Author.Tests.{ltb-true, ltb-false, lt-ltb, le-ltb}
use lib.Dec.{ltb}
use lib.ListN.{length}
use Rattle.laws.specs.Lowest.{lowest}
use Rattle.names.specs.Names.{repeats_by}
use Rattle.sheet.specs.Kinds.{number_max}
use Rattle.jsontext.specs.Text.{Text}
use Rattle.jsontext.specs.Sightings.{What, a_value, a_name, an_escape}
use Rattle.jsontext.specs.Starts.{Start, text_starts}
use Rattle.reader.specs.Faults.{value_fault, fault_by, count_by, Fault, or_else, first_fault}
use Rattle.survey.specs.Told.{unnamed}
use Rattle.naming.specs.Members.{Named, text_names, has}
use Rattle.naming.specs.Gathering.{before}
use Rattle.naming.proofs.Told.{Told, names_told, told, told_text}
use Rattle.naming.proofs.Repeated.{first_amiss, found_in, tagged_at, amiss_first}
use Rattle.naming.proofs.Order.{Falling, f_none, f_more, starts_fall}

-- ---- faults but for repeated names (`unnamed`)

-- how many bytes are left at a fault
abbrev pub left_at : Option Fault → ℕ
left_at none = 0
left_at (some f) = length f.behind

abbrev pub repeated_at : List ℕ → Fault
repeated_at bs = record { number = 25; behind = bs }

-- the fault, or the repeated name if that starts before it
abbrev pub earlier : Option Fault → Option (List ℕ) → Option Fault
earlier o none = o
earlier none (some bs) = some (repeated_at bs)
earlier (some f) (some bs) = cond (ltb (length f.behind) (length bs)) (some (repeated_at bs)) (some f)

-- fewer bytes are left there than so many
abbrev FaultUnder : ℕ → Option Fault → Type 0
FaultUnder m none = Unit {0}
FaultUnder m (some f) = length f.behind < m

abbrev NameUnder : ℕ → Option (List ℕ) → Type 0
NameUnder m none = Unit {0}
NameUnder m (some bs) = length bs < m

fault_first : (f : Fault) (o : Option (List ℕ)) → NameUnder (length f.behind) o → earlier (some f) o ≡ some f
fault_first f none u = refl
fault_first f (some bs) u = rw (le-ltb (length f.behind) (length bs) (omega arith))

name_first : (bs : List ℕ) (o : Option Fault) → FaultUnder (length bs) o → earlier o (some bs) ≡ some (repeated_at bs)
name_first bs none u = refl
name_first bs (some f) u = rw (lt-ltb (length f.behind) (length bs) (omega arith))

under_more : (a b : ℕ) (o : Option Fault) → a ≤ b → FaultUnder a o → FaultUnder b o
under_more a b none l u = tt
under_more a b (some f) l u = omega arith

name_under_more : (a b : ℕ) (o : Option (List ℕ)) → a ≤ b → NameUnder a o → NameUnder b o
name_under_more a b none l u = tt
name_under_more a b (some bs) l u = omega arith

-- ---- what is found has fewer bytes left than all before it

amiss_under : (m : ℕ) (ss : List Start) → Falling m ss → NameUnder m (first_amiss (names_told ss))
unfolding names_told first_amiss
amiss_under m [] f_none = tt
amiss_under m (s ∷ ss) (f_more g h f) =
    go s.seen.what refl (name_under_more (length s.seen.behind) m (first_amiss (names_told ss)) (omega arith) (amiss_under (length s.seen.behind) ss f))
  where
    flagged : (b : Bool) → NameUnder m (first_amiss (names_told ss)) → NameUnder m (cond b (some s.seen.behind) (first_amiss (names_told ss)))
    flagged true u = omega arith
    flagged false u = u

    go : (w : What) → s.seen.what ≡ w → NameUnder m (first_amiss (names_told ss)) → NameUnder m (first_amiss (names_told (s ∷ ss)))
    go a_value e u = rw e u
    go a_name e u = rw e (flagged s.amiss u)
    go an_escape e u = rw e u

fault_under : (m n : ℕ) (ss : List Start) → Falling m ss → FaultUnder m (first_fault n (unnamed ss))
unfolding unnamed first_fault value_fault
fault_under m n [] f_none = tt
fault_under m n (s ∷ ss) (f_more g h f) =
    go s.seen.what refl (λ k. under_more (length s.seen.behind) m (first_fault k (unnamed ss)) (omega arith) (fault_under (length s.seen.behind) k ss f))
  where
    either : (o : Option ℕ) (k : ℕ) → FaultUnder m (first_fault k (unnamed ss)) → FaultUnder m (or_else o s.seen.behind (first_fault k (unnamed ss)))
    either none k u = u
    either (some x) k u = omega arith

    go : (w : What) → s.seen.what ≡ w → ((k : ℕ) → FaultUnder m (first_fault k (unnamed ss))) → FaultUnder m (first_fault n (unnamed (s ∷ ss)))
    go a_value e u = rw e (either (value_fault n s) (suc n) (u (suc n)))
    go a_name e u = rw e (u n)
    go an_escape e u = rw e (either (cond s.amiss (some 26) none) n (u n))

-- ---- the first fault

earliest : (m n : ℕ) (ss : List Start) → Falling m ss → first_fault n ss ≡ earlier (first_fault n (unnamed ss)) (first_amiss (names_told ss))
unfolding first_fault unnamed names_told first_amiss value_fault
earliest m n [] f_none = refl
earliest m n (s ∷ ss) (f_more g h f) =
    go s.seen.what refl (λ k. earliest (length s.seen.behind) k ss f) (amiss_under (length s.seen.behind) ss f) (fault_under (length s.seen.behind) n ss f)
  where
    either : (o : Option ℕ) (k : ℕ)
        → first_fault k ss ≡ earlier (first_fault k (unnamed ss)) (first_amiss (names_told ss))
        → NameUnder (length s.seen.behind) (first_amiss (names_told ss))
        → or_else o s.seen.behind (first_fault k ss) ≡ earlier (or_else o s.seen.behind (first_fault k (unnamed ss))) (first_amiss (names_told ss))
    either none k i u = i
    either (some x) k i u = sym (fault_first (record { number = x; behind = s.seen.behind }) (first_amiss (names_told ss)) u)

    named : (b : Bool)
        → first_fault n ss ≡ earlier (first_fault n (unnamed ss)) (first_amiss (names_told ss))
        → FaultUnder (length s.seen.behind) (first_fault n (unnamed ss))
        → or_else (cond b (some 25) none) s.seen.behind (first_fault n ss) ≡ earlier (first_fault n (unnamed ss)) (cond b (some s.seen.behind) (first_amiss (names_told ss)))
    named true i u = sym (name_first s.seen.behind (first_fault n (unnamed ss)) u)
    named false i u = i

    go : (w : What) → s.seen.what ≡ w
        → ((k : ℕ) → first_fault k ss ≡ earlier (first_fault k (unnamed ss)) (first_amiss (names_told ss)))
        → NameUnder (length s.seen.behind) (first_amiss (names_told ss))
        → FaultUnder (length s.seen.behind) (first_fault n (unnamed ss))
        → first_fault n (s ∷ ss) ≡ earlier (first_fault n (unnamed (s ∷ ss))) (first_amiss (names_told (s ∷ ss)))
    go a_value e i u v = rw e (either (value_fault n s) (suc n) (i (suc n)) u)
    go a_name e i u v = rw e (named s.amiss (i n) v)
    go an_escape e i u v = rw e (either (cond s.amiss (some 26) none) n (i n) u)

-- ---- names before the fault are enough

-- as `Falling`, of what is told of names
data Told-falling : ℕ → List Told → Type 0 where
  t_none : {m : ℕ} → Told-falling m []
  t_more : {m : ℕ} {t : Told} {ts : List Told} → 0 < length t.behind → length t.behind < m → Told-falling (length t.behind) ts → Told-falling m (t ∷ ts)

told_from : (a b : ℕ) (ts : List Told) → a ≤ b → Told-falling a ts → Told-falling b ts
told_from a b [] l t_none = t_none
told_from a b (t ∷ ts) l (t_more g h f) = t_more {m = b} {t = t} g (omega arith) f

names_fall : (m : ℕ) (ss : List Start) → Falling m ss → Told-falling m (names_told ss)
unfolding names_told
names_fall m [] f_none = t_none
names_fall m (s ∷ ss) (f_more g h f) = go s.seen.what refl (names_fall (length s.seen.behind) ss f)
  where
    go : (w : What) → s.seen.what ≡ w → Told-falling (length s.seen.behind) (names_told ss) → Told-falling m (names_told (s ∷ ss))
    go a_value e i = rw e (told_from (length s.seen.behind) m (names_told ss) (omega arith) i)
    go a_name e i = rw e (t_more {m = m} {t = record { behind = s.seen.behind; amiss = s.amiss }} g h i)
    go an_escape e i = rw e (told_from (length s.seen.behind) m (names_told ss) (omega arith) i)

told_under : (m : ℕ) (ts : List Told) → Told-falling m ts → NameUnder m (first_amiss ts)
unfolding first_amiss
told_under m [] t_none = tt
told_under m (t ∷ ts) (t_more g h f) = go t.amiss (name_under_more (length t.behind) m (first_amiss ts) (omega arith) (told_under (length t.behind) ts f))
  where
    go : (b : Bool) → NameUnder m (first_amiss ts) → NameUnder m (cond b (some t.behind) (first_amiss ts))
    go true u = omega arith
    go false u = u

-- none is before the limit if the first is not
none_before : (limit m : ℕ) (done xs : List Named) → m ≤ suc limit → Told-falling m (told done xs) → before limit xs ≡ []
unfolding told before
none_before limit m done [] l t_none = refl
none_before limit m done (x ∷ xs) l (t_more g h f) =
    rw (le-ltb limit (length x.behind) (omega arith)) (none_before limit (length x.behind) (x ∷ done) xs (omega arith) f)

-- a fault stands against a name that has no more bytes left
stands : (o : Option Fault) (n : Option (List ℕ)) → 0 < left_at o → NameUnder (suc (left_at o)) n → earlier o n ≡ o
stands none n p u = absurd (omega arith)
stands (some f) none p u = refl
stands (some f) (some bs) p u = rw (le-ltb (length f.behind) (length bs) (omega arith))

before_enough : (o : Option Fault) (m : ℕ) (done xs : List Named) → Told-falling m (told done xs)
    → earlier o (first_amiss (told done xs)) ≡ earlier o (first_amiss (told done (before (left_at o) xs)))
unfolding told first_amiss before
before_enough o m done [] t_none = refl
before_enough o m done (x ∷ xs) (t_more g h f) =
    go (ltb (left_at o) (length x.behind)) refl (before_enough o (length x.behind) (x ∷ done) xs f)
    (λ l. none_before (left_at o) (length x.behind) (x ∷ done) xs l f) (told_under (length x.behind) (told (x ∷ done) xs) f)
  where
    limit : ℕ
    limit = left_at o

    flag : Bool
    flag = has done x.object x.name

    later : Option (List ℕ)
    later = first_amiss (told (x ∷ done) xs)

    kept : (b : Bool) → earlier o later ≡ earlier o (first_amiss (told (x ∷ done) (before limit xs)))
        → earlier o (cond b (some x.behind) later) ≡ earlier o (cond b (some x.behind) (first_amiss (told (x ∷ done) (before limit xs))))
    kept true i = refl
    kept false i = i

    under : (b : Bool) → length x.behind ≤ limit → NameUnder (length x.behind) later → NameUnder (suc limit) (cond b (some x.behind) later)
    under true l u = omega arith
    under false l u = name_under_more (length x.behind) (suc limit) later (omega arith) u

    go : (b : Bool) → ltb limit (length x.behind) ≡ b
        → earlier o later ≡ earlier o (first_amiss (told (x ∷ done) (before limit xs)))
        → (length x.behind ≤ suc limit → before limit xs ≡ [])
        → NameUnder (length x.behind) later
        → earlier o (cond flag (some x.behind) later) ≡ earlier o (first_amiss (told done (cond b (x ∷ before limit xs) (before limit xs))))
    go true e i z u = kept flag i
    go false e i z u =
        let l : length x.behind ≤ limit = ltb-false limit (length x.behind) e in
        stands o (cond flag (some x.behind) later) (omega arith) (under flag l u) ∙ rw (z (omega arith))

-- ---- of a text

-- the first fault that is no repeated name
abbrev pub other_fault : Text → Option Fault
other_fault t = first_fault 0 (unnamed (text_starts number_max t))

-- the names that start before it
abbrev pub names_before : Text → List Named
names_before t = before (left_at (other_fault t)) (text_names t)

pub first_fault_lem : (t : Text)
    → let ms = names_before t in
    first_fault 0 (text_starts number_max t) ≡ earlier (other_fault t) (found_in ms (lowest (repeats_by (tagged_at ms)) (length ms)) (length ms))
first_fault_lem t =
    let ss = text_starts number_max t in
    let o = other_fault t in
    let f = starts_fall number_max t in
    let ms = text_names t in
    let e = told_text number_max t in
    earliest _ 0 ss f
    ∙ (ap (λ (ts : List Told). earlier o (first_amiss ts)) e
    ∙ (before_enough o _ [] ms (rw e at (names_fall _ ss f)) ∙ ap (earlier o) (amiss_first (before (left_at o) ms))))
