-- What the starts of a text tell of its names: whether each is amiss is whether an earlier name of the same object has its bytes.
--     told_text    the theorem
-- Assumes nothing.
use mathlib.Core.Bool.{Bool, true, false, cond, ◌&&◌, ◌||◌}
use mathlib.Core.List.{List, [], ◌∷◌, ◌++◌}
use mathlib.Core.Path.{◌≡◌, refl, ap, sym, ◌∙◌}
use Prim.Native.Nat.{ℕ, suc, ◌+◌, ◌≤◌, ◌<◌}
use native.Mathlib.Omega.{arith}
use borrow.Author.Tests.{ne_eqb, eq-eqb}
use lib.Dec.{eqb}
use lib.ListN.{length}
use Rattle.text.specs.Part.{same_bytes}
use Rattle.jsontext.specs.Text.{spaces, plain, escape, unit, Str, Value, null, truth, falsity, num, str, empty_array, array, empty_object, object, Elements, last, more, Members, last_m, more_m, value, elements, members, Text}
use Rattle.jsontext.specs.Value.{unit_code, waiting, decoded}
use Rattle.jsontext.specs.Sightings.{What, a_value, a_name, an_escape}
use Rattle.jsontext.specs.Starts.{Start, among, string_starts, value_starts, element_starts, member_starts, text_starts}
use Rattle.naming.specs.Members.{values_in, elements_in, members_in, Named, named_in, value_names, element_names, member_names, text_names, has}

-- a name's start: the bytes from there on, and whether it is amiss
pub record Told : Type 0 where
  pub behind : List ℕ
  pub amiss : Bool

abbrev tell_by : What → Start → List Told → List Told
tell_by a_value s later = later
tell_by a_name s later = record { behind = s.seen.behind; amiss = s.amiss } ∷ later
tell_by an_escape s later = later

-- the names among the starts
unfoldable pub names_told : List Start → List Told
names_told [] = []
names_told (s ∷ ss) = tell_by s.seen.what s (names_told ss)

-- what is told of names after those of `done`
unfoldable pub told : List Named → List Named → List Told
told done [] = []
told done (x ∷ xs) = record { behind = x.behind; amiss = has done x.object x.name } ∷ told (x ∷ done) xs

-- `done` and then those, the last first
unfoldable pub gathered : List Named → List Named → List Named
gathered done [] = done
gathered done (x ∷ xs) = gathered (x ∷ done) xs

told_append : (done xs ys : List Named) → told done (xs ++ ys) ≡ told done xs ++ told (gathered done xs) ys
unfolding told gathered
told_append done [] ys = refl
told_append done (x ∷ xs) ys = ap (λ (l : List Told). record { behind = x.behind; amiss = has done x.object x.name } ∷ l) (told_append (x ∷ done) xs ys)

append_three : (xs ys zs : List Told) → (xs ++ ys) ++ zs ≡ xs ++ (ys ++ zs)
append_three [] ys zs = refl
append_three (x ∷ xs) ys zs = ap (λ (l : List Told). x ∷ l) (append_three xs ys zs)

append_none : (xs : List Told) → xs ++ [] ≡ xs
append_none [] = refl
append_none (x ∷ xs) = ap (λ (l : List Told). x ∷ l) (append_none xs)

-- ---- the numbers of objects

-- every number is at least lo and below hi
data Between (lo hi : ℕ) : List Named → Type 0 where
  b_none : Between lo hi []
  b_more : {x : Named} {xs : List Named} → lo ≤ x.object → x.object < hi → Between lo hi xs → Between lo hi (x ∷ xs)

between_append : (lo hi : ℕ) (xs ys : List Named) → Between lo hi xs → Between lo hi ys → Between lo hi (xs ++ ys)
between_append lo hi [] ys b c = c
between_append lo hi (x ∷ xs) ys (b_more l h b) c = b_more l h (between_append lo hi xs ys b c)

between_wider : (lo hi lo' hi' : ℕ) (xs : List Named) → lo' ≤ lo → hi ≤ hi' → Between lo hi xs → Between lo' hi' xs
between_wider lo hi lo' hi' [] l h b_none = b_none
between_wider lo hi lo' hi' (x ∷ xs) l h (b_more p q b) = b_more {x = x} (omega arith) (omega arith) (between_wider lo hi lo' hi' xs l h b)

between_gathered : (lo hi : ℕ) (done xs : List Named) → Between lo hi done → Between lo hi xs → Between lo hi (gathered done xs)
unfolding gathered
between_gathered lo hi done [] b c = b
between_gathered lo hi done (x ∷ xs) b (b_more l h c) = between_gathered lo hi (x ∷ done) xs (b_more l h b) c

-- names of objects that come later are no names of this one
other_object : (o p : ℕ) (b rest : Bool) → o < p → ((eqb p o && b) || rest) ≡ rest
other_object o p b rest h = rw (ne_eqb p o (omega arith))

has_none : (v : ℕ) (o : ℕ) (n : List ℕ) (done : List Named) → Between 0 v done → v ≤ o → has done o n ≡ false
unfolding has
has_none v o n [] b h = refl
has_none v o n (x ∷ xs) (b_more l u b) h = rw (ne_eqb x.object o (omega arith)) (has_none v o n xs b h)

has_gathered : (v hi o : ℕ) (n : List ℕ) (done xs : List Named) → o < v → Between v hi xs → has (gathered done xs) o n ≡ has done o n
unfolding gathered has
has_gathered v hi o n done [] h b = refl
has_gathered v hi o n done (x ∷ xs) h (b_more l u b) =
    has_gathered v hi o n (x ∷ done) xs h b ∙ other_object o x.object (same_bytes x.name n) (has done o n) (omega arith)

-- ---- the numbers of the names of a value

mutual
  unfolding values_in elements_in members_in value_names element_names member_names

  value_between : (v : ℕ) (x : Value) (rest : List ℕ) → Between v (v + values_in x) (value_names v x rest)
  value_between v null rest = b_none
  value_between v truth rest = b_none
  value_between v falsity rest = b_none
  value_between v (num n) rest = b_none
  value_between v (str s) rest = b_none
  value_between v (empty_array w) rest = b_none
  value_between v (array w vs) rest =
      between_wider (suc v) (suc v + elements_in vs) v (v + suc (elements_in vs)) (element_names (suc v) vs (0x5D ∷ rest)) (omega arith) (omega arith)
      (elements_between (suc v) vs (0x5D ∷ rest))
  value_between v (empty_object w) rest = b_none
  value_between v (object w ms) rest =
      between_wider v (suc v + members_in ms) v (v + suc (members_in ms)) (member_names v (suc v) ms (0x7D ∷ rest)) (omega arith) (omega arith)
      (members_between v (suc v) ms (0x7D ∷ rest) (omega arith))

  elements_between : (v : ℕ) (vs : Elements) (rest : List ℕ) → Between v (v + elements_in vs) (element_names v vs rest)
  elements_between v (last x w) rest = value_between v x (spaces w rest)
  elements_between v (more x w w' xs) rest =
      let end = spaces w (0x2C ∷ spaces w' (elements xs rest)) in
      between_append v (v + (values_in x + elements_in xs)) (value_names v x end) (element_names (v + values_in x) xs rest)
      (between_wider v (v + values_in x) v (v + (values_in x + elements_in xs)) (value_names v x end) (omega arith) (omega arith) (value_between v x end))
      (between_wider (v + values_in x) (v + values_in x + elements_in xs) v (v + (values_in x + elements_in xs)) (element_names (v + values_in x) xs rest) (omega arith) (omega arith)
      (elements_between (v + values_in x) xs rest))

  members_between : (o v : ℕ) (ms : Members) (rest : List ℕ) → o < v → Between o (v + members_in ms) (member_names o v ms rest)
  members_between o v (last_m s w w' x w'') rest h =
      b_more {x = named_in o (decoded s) (members (last_m s w w' x w'') rest)} (omega arith) (omega arith)
      (between_wider v (v + values_in x) o (v + values_in x) (value_names v x (spaces w'' rest)) (omega arith) (omega arith) (value_between v x (spaces w'' rest)))
  members_between o v (more_m s w w' x w'' w''' ms) rest h =
      let end = spaces w'' (0x2C ∷ spaces w''' (members ms rest)) in
      let hi = v + (values_in x + members_in ms) in
      b_more {x = named_in o (decoded s) (members (more_m s w w' x w'' w''' ms) rest)} (omega arith) (omega arith)
      (between_append o hi (value_names v x end) (member_names o (v + values_in x) ms rest)
      (between_wider v (v + values_in x) o hi (value_names v x end) (omega arith) (omega arith) (value_between v x end))
      (between_wider o (v + values_in x + members_in ms) o hi (member_names o (v + values_in x) ms rest) (omega arith) (omega arith)
      (members_between o (v + values_in x) ms rest (omega arith))))

-- ---- what the starts tell

after : (v : ℕ) (x : Value) (end : List ℕ) (done : List Named) → Between 0 v done → Between 0 (v + values_in x) (gathered done (value_names v x end))
after v x end done b =
    between_gathered 0 (v + values_in x) done (value_names v x end) (between_wider 0 v 0 (v + values_in x) done (omega arith) (omega arith) b)
    (between_wider v (v + values_in x) 0 (v + values_in x) (value_names v x end) (omega arith) (omega arith) (value_between v x end))

with_this : (o : ℕ) (n : List ℕ) (bs : List ℕ) (done : List Named) (names : List (List ℕ)) → ((z : List ℕ) → has done o z ≡ among names z)
    → (z : List ℕ) → has (named_in o n bs ∷ done) o z ≡ among (n ∷ names) z
unfolding has among
with_this o n bs done names t z = rw (eq-eqb o o refl, t z)

-- an object that opens has no names yet
none_yet : (v : ℕ) (n : List ℕ) (done : List Named) → Between 0 v done → has done v n ≡ among [] n
unfolding among
none_yet v n done b = has_none v v n done b (omega arith)

string_tells : (w : ℕ) (s : Str) (k : ℕ) (rest : List ℕ) (later : List Start) → names_told (string_starts w s k rest later) ≡ names_told later
unfolding string_starts names_told
string_tells w [] k rest later = refl
string_tells w (plain c p ∷ ps) k rest later = string_tells 0 ps k rest later
string_tells w (escape m ∷ ps) k rest later = string_tells 0 ps k rest later
string_tells w (unit h i j l ∷ ps) k rest later = string_tells (waiting (unit_code h i j l) ps) ps k rest later

module _ (most : ℕ) where
  mutual
    unfolding value_starts element_starts member_starts value_names element_names member_names names_told told

    value_tells : (x : Value) (k : ℕ) (rest : List ℕ) (later : List Start) (v : ℕ) (done : List Named)
        → Between 0 v done
        → names_told (value_starts most x k rest later) ≡ told done (value_names v x rest) ++ names_told later
    value_tells null k rest later v done b = refl
    value_tells truth k rest later v done b = refl
    value_tells falsity k rest later v done b = refl
    value_tells (num n) k rest later v done b = refl
    value_tells (str s) k rest later v done b = string_tells 0 s k (0x22 ∷ rest) later
    value_tells (empty_array w) k rest later v done b = refl
    value_tells (array w vs) k rest later v done b =
        elements_tell vs (suc k) (0x5D ∷ rest) later (suc v) done (between_wider 0 v 0 (suc v) done (omega arith) (omega arith) b)
    value_tells (empty_object w) k rest later v done b = refl
    value_tells (object w ms) k rest later v done b =
        members_tell [] ms (suc k) (0x7D ∷ rest) later v (suc v) done (omega arith) (between_wider 0 v 0 (suc v) done (omega arith) (omega arith) b)
        (λ n. none_yet v n done b)

    elements_tell : (vs : Elements) (k : ℕ) (rest : List ℕ) (later : List Start) (v : ℕ) (done : List Named)
        → Between 0 v done
        → names_told (element_starts most vs k rest later) ≡ told done (element_names v vs rest) ++ names_told later
    elements_tell (last x w) k rest later v done b = value_tells x k (spaces w rest) later v done b
    elements_tell (more x w w' xs) k rest later v done b =
        let end = spaces w (0x2C ∷ spaces w' (elements xs rest)) in
        let here = value_names v x end in
        value_tells x k end (element_starts most xs k rest later) v done b
        ∙ (ap (λ (l : List Told). told done here ++ l) (elements_tell xs k rest later (v + values_in x) (gathered done here) (after v x end done b))
        ∙ (sym (append_three (told done here) (told (gathered done here) (element_names (v + values_in x) xs rest)) (names_told later))
        ∙ ap (λ (l : List Told). l ++ names_told later) (sym (told_append done here (element_names (v + values_in x) xs rest)))))

    -- the object's names so far are those of `done` that have its number
    members_tell : (names : List (List ℕ)) (ms : Members) (k : ℕ) (rest : List ℕ) (later : List Start) (o v : ℕ) (done : List Named)
        → o < v
        → Between 0 v done
        → ((n : List ℕ) → has done o n ≡ among names n)
        → names_told (member_starts most names ms k rest later) ≡ told done (member_names o v ms rest) ++ names_told later
    members_tell names (last_m s w w' x w'') k rest later o v done h b t =
        let end = spaces w'' rest in
        let this = named_in o (decoded s) (members (last_m s w w' x w'') rest) in
        rw (t (decoded s))
        (ap (λ (l : List Told). record { behind = this.behind; amiss = among names (decoded s) } ∷ l)
        (string_tells 0 s k (0x22 ∷ spaces w (0x3A ∷ spaces w' (value x end))) (value_starts most x k end later)
        ∙ value_tells x k end later v (this ∷ done) (b_more {x = this} (omega arith) (omega arith) b)))
    members_tell names (more_m s w w' x w'' w''' ms) k rest later o v done h b t =
        let end = spaces w'' (0x2C ∷ spaces w''' (members ms rest)) in
        let this = named_in o (decoded s) (members (more_m s w w' x w'' w''' ms) rest) in
        let here = value_names v x end in
        let next = member_names o (v + values_in x) ms rest in
        let so : Between 0 v (this ∷ done) = b_more {x = this} (omega arith) (omega arith) b in
        rw (t (decoded s))
        (ap (λ (l : List Told). record { behind = this.behind; amiss = among names (decoded s) } ∷ l)
        (string_tells 0 s k (0x22 ∷ spaces w (0x3A ∷ spaces w' (value x end))) (value_starts most x k end (member_starts most (decoded s ∷ names) ms k rest later))
        ∙ (value_tells x k end (member_starts most (decoded s ∷ names) ms k rest later) v (this ∷ done) so
        ∙ (ap (λ (l : List Told). told (this ∷ done) here ++ l)
        (members_tell (decoded s ∷ names) ms k rest later o (v + values_in x) (gathered (this ∷ done) here) (omega arith) (after v x end (this ∷ done) so)
        (λ n. has_gathered v (v + values_in x) o n (this ∷ done) here h (value_between v x end) ∙ with_this o (decoded s) (members (more_m s w w' x w'' w''' ms) rest) done names t n))
        ∙ (sym (append_three (told (this ∷ done) here) (told (gathered (this ∷ done) here) next) (names_told later))
        ∙ ap (λ (l : List Told). l ++ names_told later) (sym (told_append (this ∷ done) here next)))))))

  pub told_text : (t : Text) → names_told (text_starts most t) ≡ told [] (text_names t)
  unfolding names_told
  told_text t = value_tells t.root 1 (spaces t.behind []) [] 0 [] b_none ∙ append_none (told [] (text_names t))
