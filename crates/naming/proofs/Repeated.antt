-- The first name of a text that is amiss is the lowest of its tagged names that an earlier one repeats, as crate `namesakes` finds it.
--     amiss_first    the theorem
-- Assumes nothing.
use mathlib.Core.Bool.{Bool, true, false, cond, ◌&&◌, ◌||◌}
use mathlib.Core.List.{List, [], ◌∷◌, ◌++◌}
use mathlib.Core.Logic.{⊎_elim}
use mathlib.Core.Option.{Option, none, some}
use mathlib.Core.Path.{◌≡◌, refl, ap, sym, ◌∙◌}
use Prim.Native.Nat.{ℕ, zero, suc, ◌+◌, ◌/◌, ◌%◌, ◌≤◌, ◌<◌}
use native.Mathlib.Omega.{arith}
use borrow.Author.Tests.{ltb-true, lt-ltb, le-ltb, eqb-true, eqb-false, ne_eqb, eq-eqb}
use lib.Dec.{eqb, ltb}
use lib.ListN.{length, get_or}
use Rattle.laws.specs.Lowest.{lowest_from, lowest}
use Rattle.laws.proofs.Searches.{clear_below, holds_at}
use Rattle.laws.proofs.Tests.{le_or_lt}
use Rattle.text.specs.Part.{same_bytes}
use Rattle.names.specs.Names.{same_as, first_same, repeats_by}
use Rattle.naming.specs.Members.{Named, named_in, has, tagged}
use Rattle.naming.proofs.Told.{Told, told}

-- ---- tags

two_bytes : (a b : ℕ) (s : Bool) → (eqb (a / 256) (b / 256) && (eqb (a % 256) (b % 256) && s)) ≡ (eqb a b && s)
two_bytes a b s = go (eqb (a / 256) (b / 256)) (eqb (a % 256) (b % 256)) refl refl
  where
    go : (p q : Bool) → eqb (a / 256) (b / 256) ≡ p → eqb (a % 256) (b % 256) ≡ q → (p && (q && s)) ≡ (eqb a b && s)
    go false q e f = let h = eqb-false (a / 256) (b / 256) e in rw (ne_eqb a b (omega arith))
    go true false e f = let h = eqb-false (a % 256) (b % 256) f in rw (ne_eqb a b (omega arith))
    go true true e f =
        let g = eqb-true (a / 256) (b / 256) e in
        let h = eqb-true (a % 256) (b % 256) f in
        rw (eq-eqb a b (omega arith))

-- two tagged names have the same bytes if the names are of one object and have the same bytes
same_tagged : (x y : Named) → same_bytes (tagged x) (tagged y) ≡ (eqb x.object y.object && same_bytes x.name y.name)
unfolding tagged same_bytes
same_tagged x y = two_bytes x.object y.object (same_bytes x.name y.name)

-- ---- a test that holds below a number

unfoldable some_below : (ℕ → Bool) → ℕ → Bool
some_below test zero = false
some_below test (suc n) = test n || some_below test n

or_false : (a b : Bool) → a ≡ false → b ≡ false → (a || b) ≡ false
or_false a b p q = rw (p, q)

or_right : (a b : Bool) → b ≡ true → (a || b) ≡ true
or_right true b p = refl
or_right false b p = p

none_below : (test : ℕ → Bool) (n : ℕ) → ((i : ℕ) → i < n → test i ≡ false) → some_below test n ≡ false
unfolding some_below
none_below test zero f = refl
none_below test (suc n) f = or_false (test n) (some_below test n) (f n (omega arith)) (none_below test n (λ i h. f i (omega arith)))

some_at : (test : ℕ → Bool) (n i : ℕ) → i < n → test i ≡ true → some_below test n ≡ true
unfolding some_below
some_at test zero i h e = absurd (omega arith)
some_at test (suc n) i h e =
    ⊎_elim
    (λ (p : n ≤ i). let q : i ≡ n = omega arith in let f : test n ≡ true = rw q at e in rw f)
    (λ (p : i < n). or_right (test n) (some_below test n) (some_at test n i p e))
    (le_or_lt n i)

-- a search finds something below n exactly if something is there
searched : (test : ℕ → Bool) (n : ℕ) → ltb (lowest test n) n ≡ some_below test n
searched test n =
    ⊎_elim
    (λ (p : n ≤ lowest test n).
    le-ltb (lowest test n) n p ∙ sym (none_below test n (λ i h. clear_below test n 0 i (omega arith) (omega arith) (omega arith))))
    (λ (p : lowest test n < n).
    lt-ltb (lowest test n) n p ∙ sym (some_at test n (lowest test n) p (holds_at test n 0 (omega arith))))
    (le_or_lt n (lowest test n))

-- ---- names one by one

abbrev pub no_name : Named
no_name = named_in 0 [] []

-- the tagged names of a list
abbrev pub tagged_at : List Named → ℕ → List ℕ
tagged_at ms i = tagged (get_or ms i no_name)

-- the first name that is amiss: the bytes of the text from there on
unfoldable pub first_amiss : List Told → Option (List ℕ)
first_amiss [] = none
first_amiss (t ∷ ts) = let later = first_amiss ts in cond t.amiss (some t.behind) later

abbrev pub found_in : List Named → ℕ → ℕ → Option (List ℕ)
found_in ms r end = cond (ltb r end) (some (get_or ms r no_name).behind) none

module _ (ms : List Named) where
  -- of a name with this number and these bytes
  abbrev test_for : ℕ → List ℕ → ℕ → Bool
  test_for o n j = same_bytes (tagged_at ms j) (tagged (named_in o n []))

  -- `done` are the first names of the list, the last first
  record Stands (done xs : List Named) : Type 0 where
    passed : (o : ℕ) (n : List ℕ) → has done o n ≡ some_below (test_for o n) (length done)
    lies : (j : ℕ) → get_or ms (length done + j) no_name ≡ get_or xs j no_name

  stands_next : (done : List Named) (x : Named) (xs : List Named) → Stands done (x ∷ xs) → Stands (x ∷ done) xs
  unfolding has some_below
  stands_next done x xs s =
      record {
        passed = λ o n.
            let z : length done + 0 ≡ length done = omega arith in
            let e : get_or ms (length done) no_name ≡ x = rw z at (s.lies 0) in
            rw (e, same_tagged x (named_in o n []), s.passed o n);
        lies = λ j. let e : length done + suc j ≡ suc (length done) + j = omega arith in rw e at (s.lies (suc j));
      }

  stands_first : Stands [] ms
  unfolding has some_below
  stands_first = record { passed = λ o n. refl; lies = λ j. ap (λ (i : ℕ). get_or ms i no_name) (let z : 0 + j ≡ j = omega arith in z) }

  -- whether the next name is amiss
  amiss_next : (done : List Named) (x : Named) (xs : List Named) → Stands done (x ∷ xs) → has done x.object x.name ≡ repeats_by (tagged_at ms) (length done)
  unfolding repeats_by tagged
  amiss_next done x xs s =
      let z : length done + 0 ≡ length done = omega arith in
      let e : get_or ms (length done) no_name ≡ x = rw z at (s.lies 0) in
      let i = length done in
      s.passed x.object x.name
      ∙ (sym (searched (test_for x.object x.name) i) ∙ ap (λ (y : Named). ltb (lowest (λ k. same_bytes (tagged_at ms k) (tagged y)) i) i) (sym e))

  amiss_from : (done xs : List Named) → Stands done xs
      → first_amiss (told done xs) ≡ found_in ms (lowest_from (repeats_by (tagged_at ms)) (length xs) (length done)) (length done + length xs)
  unfolding told first_amiss lowest_from
  amiss_from done [] s = rw (le-ltb (length done) (length done + 0) (omega arith))
  amiss_from done (x ∷ xs) s = go (amiss_from (x ∷ done) xs (stands_next done x xs s)) (has done x.object x.name) refl
    where
      more : ℕ
      more = lowest_from (repeats_by (tagged_at ms)) (length xs) (length done + 1)

      go : first_amiss (told (x ∷ done) xs) ≡ found_in ms (lowest_from (repeats_by (tagged_at ms)) (length xs) (suc (length done))) (suc (length done) + length xs)
          → (b : Bool)
          → has done x.object x.name ≡ b
          → cond b (some x.behind) (first_amiss (told (x ∷ done) xs))
          ≡ found_in ms (cond (repeats_by (tagged_at ms) (length done)) (length done) more) (length done + suc (length xs))
      go next true e =
          let z : length done + 0 ≡ length done = omega arith in
          let at : get_or ms (length done) no_name ≡ x = rw z at (s.lies 0) in
          rw (sym (amiss_next done x xs s) ∙ e, lt-ltb (length done) (length done + suc (length xs)) (omega arith), at)
      go next false e =
          let z : length done + 1 ≡ suc (length done) = omega arith in
          let y : length done + suc (length xs) ≡ suc (length done) + length xs = omega arith in
          rw (sym (amiss_next done x xs s) ∙ e, z, y) next

  pub amiss_first : first_amiss (told [] ms) ≡ found_in ms (lowest (repeats_by (tagged_at ms)) (length ms)) (length ms)
  amiss_first = let z : 0 + length ms ≡ length ms = omega arith in rw z at (amiss_from [] ms stands_first)
