-- The fault of a text that starts first, from what was watched and the names that were gathered.
--     lies        the names lie as crate `names` asks
--     first_is    the theorem
-- Assumes nothing.
use mathlib.Core.Bool.{Bool, true, false, cond}
use mathlib.Core.List.{List, [], ◌∷◌, ◌++◌}
use mathlib.Core.Logic.{◌≢◌, ⊎_elim}
use mathlib.Core.Option.{Option, none, some}
use mathlib.Core.Path.{◌≡◌, refl, sym, ◌∙◌, ap, subst}
use Prim.Native.Nat.{ℕ, zero, suc, ◌+◌, ◌*◌, ◌/◌, ◌≤◌, ◌<◌}
use native.Mathlib.Omega.{arith}
use borrow.Author.Tests.{eq-eqb, ne_eqb, ltb-true, lt-ltb}
use lib.Dec.{eqb, ltb}
use lib.ListN.{length, get_or}
use Rattle.laws.specs.Lowest.{lowest}
use Rattle.laws.proofs.Searches.{alike}
use Rattle.names.specs.Names.{names_max, name_at, repeats_by, repeats_at, Lying}
use Rattle.names.proofs.Repeats.{repeats_agree}
use Rattle.sheet.specs.Kinds.{number_max}
use Rattle.sheet.specs.Record.{rows_max}
use Rattle.sheet.specs.Faults.{level_refused}
use Rattle.jsontext.specs.Text.{spaces, value, Text, bytes}
use Rattle.jsontext.specs.Sightings.{What, a_value, a_name, an_escape}
use Rattle.jsontext.specs.Starts.{Start, text_starts}
use Rattle.jsontext.proofs.Trimming.{by_zero}
use Rattle.reader.specs.Faults.{value_fault, Fault, or_else, first_fault}
use Rattle.reader.proofs.Lengths.{spaces_long}
use Rattle.survey.specs.declared.Watch.{Watch}
use Rattle.survey.specs.Told.{told, unnamed}
use Rattle.survey.proofs.Strung.{verdict}
use Rattle.naming.specs.Members.{Named, text_names, tagged}
use Rattle.naming.specs.Gathering.{text_from, words_from, before}
use Rattle.naming.proofs.Repeated.{no_name, tagged_at, found_in}
use Rattle.naming.proofs.Lying.{in_threes, name_is, names_lie, left_at_lem}
use Rattle.naming.proofs.Order.{Falling, f_none, f_more, starts_fall}
use Rattle.naming.proofs.Earlier.{left_at, repeated_at, earlier, other_fault, names_before, first_fault_lem}
use Rattle.naming.proofs.Fewness.{few_names}
use Rattle.refusing.specs.declared.Amiss.{Amiss}
use Rattle.refusing.specs.Refusing.{first_one_of}

-- ---- a fault's number and place

never : {A : Type 0} {f : Fault} → none ≡ some f → A
never e = absurd (let z : ◌≡◌ {A = ℕ} 0 1 = cc in omega arith)

-- no fault has the number 0, and each is within the text
record Fine (m : ℕ) (f : Fault) : Type 0 where
  number : f.number ≢ 0
  within : length f.behind < m

fine_fault : (m n : ℕ) (ss : List Start) → Falling m ss → (f : Fault) → first_fault n ss ≡ some f → Fine m f
unfolding first_fault value_fault
fine_fault m n [] f_none f e = never e
fine_fault m n (s ∷ ss) (f_more g h fall) f e =
    go s.seen.what refl (λ k q. let r = fine_fault (length s.seen.behind) k ss fall f q in record { number = r.number; within = omega (arith, r.within) })
  where
    this : (x : ℕ) → x ≢ 0 → some (record { number = x; behind = s.seen.behind }) ≡ some f → Fine m f
    this x z q = let same : record { number = x; behind = s.seen.behind } ≡ f = cc in subst (Fine m) same (record { number = z; within = h })

    value_or : (a b c : Bool) (k : ℕ) → or_else (cond a (some 22) (cond b (some 23) (cond c (some 24) none))) s.seen.behind (first_fault k ss) ≡ some f
        → (first_fault k ss ≡ some f → Fine m f) → Fine m f
    value_or true b c k q on = this 22 (λ z. omega arith) q
    value_or false true c k q on = this 23 (λ z. omega arith) q
    value_or false false true k q on = this 24 (λ z. omega arith) q
    value_or false false false k q on = on q

    one_or : (a : Bool) (x k : ℕ) → x ≢ 0 → or_else (cond a (some x) none) s.seen.behind (first_fault k ss) ≡ some f → (first_fault k ss ≡ some f → Fine m f) → Fine m f
    one_or true x k z q on = this x z q
    one_or false x k z q on = on q

    go : (w : What) → s.seen.what ≡ w → ((k : ℕ) → first_fault k ss ≡ some f → Fine m f) → Fine m f
    go a_value w on = value_or (eqb n rows_max) s.amiss (eqb s.seen.level level_refused) (suc n) (rw w at e) (on (suc n))
    go a_name w on = one_or s.amiss 25 n (λ z. omega arith) (rw w at e) (on n)
    go an_escape w on = one_or s.amiss 26 n (λ z. omega arith) (rw w at e) (on n)

-- ---- names before a limit

before_long : (limit : ℕ) (xs : List Named) (i : ℕ) → i < length (before limit xs) → limit < length (get_or (before limit xs) i no_name).behind
unfolding before
before_long limit [] i h = absurd (omega arith)
before_long limit (x ∷ xs) i h = go (ltb limit (length x.behind)) refl i h (λ j l. before_long limit xs j l)
  where
    go : (b : Bool) → ltb limit (length x.behind) ≡ b → (i : ℕ) → i < length (cond b (x ∷ before limit xs) (before limit xs))
        → ((j : ℕ) → j < length (before limit xs) → limit < length (get_or (before limit xs) j no_name).behind)
        → limit < length (get_or (cond b (x ∷ before limit xs) (before limit xs)) i no_name).behind
    go true e zero l on = ltb-true limit (length x.behind) e
    go true e (suc i) l on = on i (omega arith)
    go false e i l on = on i l

pub words_long : (at : ℕ) (ms : List Named) → length (words_from at ms) ≡ 3 * length ms
unfolding words_from
words_long at [] = refl
words_long at (x ∷ xs) = omega (arith, words_long (at + length (tagged x)) xs)

-- ---- what is told

pub data Tells (t : Text) (r : Amiss) : Type 0 where
  amiss : (f : Fault) → first_fault 0 (text_starts number_max t) ≡ some f → r.number ≡ f.number → r.left ≡ length f.behind → Tells t r
  none_amiss : first_fault 0 (text_starts number_max t) ≡ none → r.number ≡ 0 → Tells t r

-- the areas begin with the names
pub record Stand (t : Text) (w : Watch) (words names : List ℕ) (filled : ℕ) : Type 0 where
  pub told_is : verdict w [] ≡ told (other_fault t)
  pub words_more : List ℕ
  pub names_more : List ℕ
  pub words_are : words ≡ words_from 0 (names_before t) ++ words_more
  pub names_are : names ≡ text_from (names_before t) ++ names_more
  pub filled_is : filled / 3 ≡ length (names_before t)

module _ (t : Text) (w : Watch) (words names : List ℕ) (filled : ℕ) (s : Stand t w words names filled) where
  abbrev ms : List Named
  ms = names_before t

  few : length ms ≤ names_max
  few = omega (arith, few_names t)

  pub lies : Lying words names (in_threes (filled / 3))
  lies = rw (s.filled_is, s.words_are, s.names_are) (names_lie ms s.words_more s.names_more few)

  same_search : lowest (repeats_at words names (in_threes (length ms))) (length ms) ≡ lowest (repeats_by (tagged_at ms)) (length ms)
  same_search =
      rw (s.words_are, s.names_are)
      (alike (repeats_at (words_from 0 ms ++ s.words_more) (text_from ms ++ s.names_more) (in_threes (length ms))) (repeats_by (tagged_at ms)) (length ms) 0
      (λ i l h. repeats_agree (name_at (words_from 0 ms ++ s.words_more) (text_from ms ++ s.names_more) (in_threes (length ms))) (tagged_at ms) i
      (λ k q. name_is ms s.words_more s.names_more k (omega arith))))

  abbrev other : Amiss
  other = record { number = w.fault; left = w.left }

  -- no name is repeated: what was watched is the first
  watched_first : first_fault 0 (text_starts number_max t) ≡ other_fault t → Tells t other
  unfolding told first_fault unnamed
  watched_first e = go (other_fault t) refl s.told_is
    where
      go : (o : Option Fault) → other_fault t ≡ o → verdict w [] ≡ told o → Tells t other
      go none q v =
          ⊎_elim
          (λ (z : w.fault ≡ 0). none_amiss (e ∙ q) z)
          (λ (z : w.fault ≢ 0). absurd (z (ap (λ r. r.number) (rw (ne_eqb w.fault 0 z) at v))))
          (by_zero w.fault)
      go (some f) q v =
          ⊎_elim
          (λ (z : w.fault ≡ 0).
          let zero_number : 0 ≡ f.number = ap (λ r. r.number) (rw (eq-eqb w.fault 0 z) at v) in
          absurd ((fine_fault _ 0 (text_starts number_max t) (starts_fall number_max t) f (e ∙ q)).number (sym zero_number)))
          (λ (z : w.fault ≢ 0).
          let same = rw (ne_eqb w.fault 0 z) at v in
          amiss f (e ∙ q) (ap (λ r. r.number) same) (ap (λ r. r.left) same))
          (by_zero w.fault)

  -- a repeated name is before the other fault
  name_first : (k : ℕ) → k < length ms → first_fault 0 (text_starts number_max t) ≡ earlier (other_fault t) (some (get_or ms k no_name).behind)
      → first_fault 0 (text_starts number_max t) ≡ some (repeated_at (get_or ms k no_name).behind)
  name_first k h e = e ∙ go (other_fault t) (before_long (left_at (other_fault t)) (text_names t) k h)
    where
      go : (o : Option Fault) → left_at o < length (get_or ms k no_name).behind → earlier o (some (get_or ms k no_name).behind) ≡ some (repeated_at (get_or ms k no_name).behind)
      go none l = refl
      go (some f) l = rw (lt-ltb (length f.behind) (length (get_or ms k no_name).behind) l)

  pub first_is : Tells t (first_one_of words names (filled / 3) w)
  first_is = rw s.filled_is (go (ltb k (length ms)) refl)
    where
      k : ℕ
      k = lowest (repeats_at words names (in_threes (length ms))) (length ms)

      first_one_of_lem : first_fault 0 (text_starts number_max t) ≡ earlier (other_fault t) (found_in ms k (length ms))
      first_one_of_lem = first_fault_lem t ∙ ap (λ (j : ℕ). earlier (other_fault t) (found_in ms j (length ms))) (sym same_search)

      go : (b : Bool) → ltb k (length ms) ≡ b → Tells t (cond b (record { number = 25; left = get_or words (3 * k + 2) 0 }) other)
      go true e =
          let l : k < length ms = ltb-true k (length ms) e in
          let at_k : get_or words (3 * k + 2) 0 ≡ length (get_or ms k no_name).behind =
          ap (λ (l : List ℕ). get_or l (3 * k + 2) 0) s.words_are ∙ left_at_lem ms s.words_more s.names_more k l in
          amiss (repeated_at (get_or ms k no_name).behind) (name_first k l (rw e at first_one_of_lem)) refl at_k
      go false e = watched_first (rw e at first_one_of_lem)

-- within the text
pub within_text : (t : Text) (f : Fault) → first_fault 0 (text_starts number_max t) ≡ some f → (f.number ≢ 0) × (length f.behind ≤ length (bytes t))
unfolding bytes
within_text t f e =
    let r = fine_fault _ 0 (text_starts number_max t) (starts_fall number_max t) f e in
    (r.number, omega (arith, r.within, spaces_long t.before (value t.root (spaces t.behind []))))
