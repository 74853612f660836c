-- The counters of the first pass are those of the value's rows and text (`tally` in breadth/specs/Tokens.antt).
--     value_adds    what a value adds to each level
--     tallied       the theorem
-- Assumes nothing.
use mathlib.Core.Bool.{Bool, true, false, cond}
use mathlib.Core.List.{List, [], ◌∷◌, ◌++◌}
use mathlib.Core.Option.{some}
use mathlib.Core.Path.{◌≡◌, refl, sym, ◌∙◌, ap}
use Prim.Native.Nat.{ℕ, suc, ◌+◌, ◌<◌}
use native.Mathlib.Omega.{arith}
use borrow.Author.Tests.{eqb-true, eqb-false}
use lib.Dec.{eqb}
use lib.ListN.{length, get_or, length-append, get_or-replicate}
use Rattle.sheet.specs.Kinds.{number_max}
use Rattle.jsontext.specs.Datum.{Datum}
use Rattle.jsontext.specs.Text.{spaces, Str, pieces, Value, null, truth, falsity, num, str, empty_array, array, empty_object, object, Elements, last, more, Members, last_m, more_m, value, elements, members, Text, bytes}
use Rattle.jsontext.specs.Value.{decoded, value_of, items_of, fields_of}
use Rattle.jsontext.specs.Automaton.{Bracket, square, curly, Role, as_value, as_name, ahead, after, name, start}
use Rattle.jsontext.specs.Along.{along}
use Rattle.jsontext.proofs.Doing.{string_does, value_does, elements_do, members_do}
use Rattle.jsontext.proofs.AlongValues.{text_along}
use Rattle.breadth.specs.Forest.{Label, bare, named, Head, Forest, empty, node, head_of, children, items, fields, tree}
use Rattle.breadth.specs.Breadth.{Entry, entry_of, walk}
use Rattle.breadth.specs.Sheet.{label_bytes, string_bytes}
use Rattle.breadth.specs.Counters.{one, size}
use Rattle.breadth.specs.Tokens as Tokens
use Rattle.breadth.proofs.Walks.{sum, sum_nil, sum_walk_same, sum_walk_other}
use Rattle.breadth.proofs.Passes.{counted_is}
use Rattle.breadth.proofs.Tallies as Tallies
use Rattle.reader.specs.Call.{datum_of}
use Rattle.tally.specs.Tallying.{Tally, levels, no_tally, name_more, tallying}
use Rattle.tally.proofs.Sizes.{str_size, decoded_size}
use Rattle.tally.proofs.Adding.{rest_as, orderly, hit, hit_sum, Adds, nothing, both, sums, name_more_lem, opening_adds, number_adds, pieces_adds}

-- a forest on level k, as seen from level j
node_sum : (w : Entry → ℕ) (j k : ℕ) (l : Label) (h : Head) (c s : Forest)
    → sum w j (walk k (node l h c s)) ≡ hit k j (w (entry_of l h c)) + (sum w j (walk (suc k) c) + sum w j (walk k s))
node_sum w j k l h c s = go (eqb k j) refl
  where
    go : (t : Bool) → eqb k j ≡ t → sum w j (walk k (node l h c s)) ≡ cond t (w (entry_of l h c)) 0 + (sum w j (walk (suc k) c) + sum w j (walk k s))
    go true e = let same = eqb-true k j e in rw same (sum_walk_same w j l h c s)
    go false e = sum_walk_other w j k l h c s (eqb-false k j e) ∙ omega arith

module _ (j : ℕ) where
  empty_sum : (w : Entry → ℕ) (k : ℕ) → sum w j (walk k empty) ≡ 0
  unfolding walk
  empty_sum w k = sum_nil w j

  -- what a value adds: itself and its string, and its children
  abbrev Gives : Datum → ℕ → Tally → Tally → Type 0
  Gives v k s t = Adds j (hit k j 1 + sum one j (walk (suc k) (children v))) (hit k j (length (string_bytes (head_of v))) + sum size j (walk (suc k) (children v))) s t

  -- and what trees on level k add
  abbrev Gives-all : Forest → ℕ → Tally → Tally → Type 0
  Gives-all f k s t = Adds j (sum one j (walk k f)) (sum size j (walk k f)) s t

  no_bytes : (k : ℕ) → hit k j 0 ≡ 0
  no_bytes k = go (eqb k j)
    where
      go : (t : Bool) → ◌≡◌ {A = ℕ} (cond t 0 0) 0
      go true = refl
      go false = refl

  alone : (k n : ℕ) {s t : Tally} → Adds j (hit k j 1) (hit k j n) s t
      → Adds j (hit k j 1 + sum one j (walk (suc k) empty)) (hit k j n + sum size j (walk (suc k) empty)) s t
  alone k n x = sums j (omega (arith, empty_sum one (suc k))) (omega (arith, empty_sum size (suc k))) x

  bare_alone : (k : ℕ) {s t : Tally} → Adds j (hit k j 1) 0 s t
      → Adds j (hit k j 1 + sum one j (walk (suc k) empty)) (hit k j 0 + sum size j (walk (suc k) empty)) s t
  bare_alone k x = alone k 0 (sums j refl (sym (no_bytes k)) x)

  string_adds : (r : Role) (ks : List Bracket) (x : Str) (rest : List ℕ) (s : Tally) → s.high ≡ false
      → Adds j 0 (hit (length ks) j (length (decoded x))) s (string_does tallying rest_as r ks x rest s)
  unfolding tallying
  string_adds r ks x rest s e =
      sums j refl (ap (λ (b : Bool). hit (length ks) j (str_size b x)) e ∙ ap (hit (length ks) j) (decoded_size x)) (pieces_adds j ks r x (0x22 ∷ rest) s)

  -- after an opening quote no surrogate stands before
  quoted : (ks : List Bracket) (bs : List ℕ) (s : Tally) → (tallying ahead ks 0x22 bs s).high ≡ false
  unfolding tallying
  quoted ks bs s = refl

  -- a closing bracket adds nothing
  shut_adds : (ks : List Bracket) (b : ℕ) (rest : List ℕ) {n m : ℕ} {s t : Tally} → Adds j n m s t → Adds j n m s (tallying after ks b rest t)
  unfolding tallying
  shut_adds ks b rest x = x

  -- a name on level k
  name_adds : (ks : List Bracket) (x : Str) (end : List ℕ) (s : Tally)
      → Adds j 0 (hit (length ks) j (length (decoded x))) s (string_does tallying rest_as as_name ks x end (tallying name ks 0x22 (pieces x (0x22 ∷ end)) s))
  unfolding tallying
  name_adds ks x end s = sums j refl (omega arith) (both j (name_more_lem j s) (string_adds as_name ks x end (name_more s) refl))

  -- a tree with its label, and the trees after it
  tree_adds : (l : Label) (v : Datum) (f : Forest) (k : ℕ) {s t u o : Tally} → Adds j 0 (hit k j (length (label_bytes l))) s t → Gives v k t u → Gives-all f k u o
      → Gives-all (node l (head_of v) (children v) f) k s o
  tree_adds l v f k x y z =
      let L : ℕ = length (label_bytes l) in
      let S : ℕ = length (string_bytes (head_of v)) in
      let whole : hit k j L + hit k j S ≡ hit k j (length (label_bytes l ++ string_bytes (head_of v))) =
      hit_sum k j L S ∙ ap (hit k j) (sym (length-append (label_bytes l) (string_bytes (head_of v)))) in
      sums j
      (omega (arith, node_sum one j k l (head_of v) (children v) f))
      (omega (arith, node_sum size j k l (head_of v) (children v) f, whole))
      (both j (both j x y) z)

  unlabelled : (k : ℕ) (s : Tally) → Adds j 0 (hit k j (length (label_bytes bare))) s s
  unlabelled k s = sums j refl (sym (no_bytes k)) (nothing j s)

  no_more : (k : ℕ) (s : Tally) → Gives-all empty k s s
  no_more k s = sums j (sym (empty_sum one k)) (sym (empty_sum size k)) (nothing j s)

  mutual
    unfolding value_does value_of

    pub value_adds : (v : Value) (ks : List Bracket) (rest : List ℕ) (s : Tally) → Gives (value_of number_max v) (length ks) s (value_does tallying rest_as ks v rest s)
    value_adds null ks rest s = bare_alone (length ks) (opening_adds j ks 0x6E (0x75 ∷ 0x6C ∷ 0x6C ∷ rest) s (omega arith))
    value_adds truth ks rest s = bare_alone (length ks) (opening_adds j ks 0x74 (0x72 ∷ 0x75 ∷ 0x65 ∷ rest) s (omega arith))
    value_adds falsity ks rest s = bare_alone (length ks) (opening_adds j ks 0x66 (0x61 ∷ 0x6C ∷ 0x73 ∷ 0x65 ∷ rest) s (omega arith))
    value_adds (num n) ks rest s = bare_alone (length ks) (number_adds j ks n rest s)
    value_adds (str x) ks rest s =
        let t : Tally = tallying ahead ks 0x22 (pieces x (0x22 ∷ rest)) s in
        alone (length ks) (length (decoded x))
        (sums j (omega arith) (omega arith) (both j (opening_adds j ks 0x22 (pieces x (0x22 ∷ rest)) s (omega arith)) (string_adds as_value ks x rest t (quoted ks (pieces x (0x22 ∷ rest)) s))))
    value_adds (empty_array w) ks rest s = bare_alone (length ks) (shut_adds (square ∷ ks) 0x5D rest (opening_adds j ks 0x5B (spaces w (0x5D ∷ rest)) s (omega arith)))
    value_adds (array w vs) ks rest s =
        let bs : List ℕ = spaces w (elements vs (0x5D ∷ rest)) in
        let t : Tally = tallying ahead ks 0x5B bs s in
        shut_adds (square ∷ ks) 0x5D rest
        (sums j refl (omega (arith, no_bytes (length ks))) (both j (opening_adds j ks 0x5B bs s (omega arith)) (elements_add vs (square ∷ ks) (0x5D ∷ rest) t)))
    value_adds (empty_object w) ks rest s = bare_alone (length ks) (shut_adds (curly ∷ ks) 0x7D rest (opening_adds j ks 0x7B (spaces w (0x7D ∷ rest)) s (omega arith)))
    value_adds (object w ms) ks rest s =
        let bs : List ℕ = spaces w (members ms (0x7D ∷ rest)) in
        let t : Tally = tallying ahead ks 0x7B bs s in
        shut_adds (curly ∷ ks) 0x7D rest
        (sums j refl (omega (arith, no_bytes (length ks))) (both j (opening_adds j ks 0x7B bs s (omega arith)) (members_add ms (curly ∷ ks) (0x7D ∷ rest) t)))

    elements_add : (vs : Elements) (ks : List Bracket) (rest : List ℕ) (s : Tally) → Gives-all (items (items_of number_max vs)) (length ks) s (elements_do tallying rest_as ks vs rest s)
    elements_add (last v w) ks rest s =
        let t : Tally = value_does tallying rest_as ks v (spaces w rest) s in
        tree_adds bare (value_of number_max v) empty (length ks) (unlabelled (length ks) s) (value_adds v ks (spaces w rest) s) (no_more (length ks) t)
    elements_add (more v w w' vs) ks rest s =
        let next : List ℕ = spaces w (0x2C ∷ spaces w' (elements vs rest)) in
        let t : Tally = value_does tallying rest_as ks v next s in
        tree_adds bare (value_of number_max v) (items (items_of number_max vs)) (length ks) (unlabelled (length ks) s) (value_adds v ks next s) (elements_add vs ks rest t)

    members_add : (ms : Members) (ks : List Bracket) (rest : List ℕ) (s : Tally) → Gives-all (fields (fields_of number_max ms)) (length ks) s (members_do tallying rest_as ks ms rest s)
    members_add (last_m x w w' v w'') ks rest s =
        let next : List ℕ = spaces w'' rest in
        let end : List ℕ = spaces w (0x3A ∷ spaces w' (value v next)) in
        let t : Tally = string_does tallying rest_as as_name ks x end (tallying name ks 0x22 (pieces x (0x22 ∷ end)) s) in
        let u : Tally = value_does tallying rest_as ks v next t in
        tree_adds (named (decoded x)) (value_of number_max v) empty (length ks) (name_adds ks x end s) (value_adds v ks next t) (no_more (length ks) u)
    members_add (more_m x w w' v w'' w''' ms) ks rest s =
        let next : List ℕ = spaces w'' (0x2C ∷ spaces w''' (members ms rest)) in
        let end : List ℕ = spaces w (0x3A ∷ spaces w' (value v next)) in
        let t : Tally = string_does tallying rest_as as_name ks x end (tallying name ks 0x22 (pieces x (0x22 ∷ end)) s) in
        let u : Tally = value_does tallying rest_as ks v next t in
        tree_adds (named (decoded x)) (value_of number_max v) (fields (fields_of number_max ms)) (length ks) (name_adds ks x end s) (value_adds v ks next t) (members_add ms ks rest u)

  text_adds : (t : Text) → Gives-all (tree (datum_of t)) 0 no_tally (along tallying (bytes t) (some start) no_tally)
  text_adds t =
      let end : List ℕ = spaces t.behind [] in
      let u : Tally = value_does tallying rest_as [] t.root end no_tally in
      rw (text_along tallying rest_as orderly t no_tally)
      (tree_adds bare (datum_of t) empty 0 (unlabelled 0 no_tally) (value_adds t.root [] end no_tally) (no_more 0 u))

-- each level's counters after a text
pub record Tallied (t : Text) (s : Tally) : Type 0 where
  pub values_long : length s.values ≡ levels
  pub texts_long : length s.texts ≡ levels
  pub values_are : (j : ℕ) → j < levels → get_or s.values j 0 ≡ Tokens.tally one 0 (λ i. 0) (Tokens.tokens (tree (datum_of t))) j
  pub texts_are : (j : ℕ) → j < levels → get_or s.texts j 0 ≡ Tokens.tally size 0 (λ i. 0) (Tokens.tokens (tree (datum_of t))) j

by_one : (f : Forest) (j : ℕ) → sum one j (walk 0 f) ≡ Tokens.tally one 0 (λ i. 0) (Tokens.tokens f) j
by_one f j = sym (counted_is one (walk 0 f) j) ∙ sym (ap (λ (g : ℕ → ℕ). g j) (Tallies.tallied one (λ l h n. refl) f))

by_size : (f : Forest) (j : ℕ) → sum size j (walk 0 f) ≡ Tokens.tally size 0 (λ i. 0) (Tokens.tokens f) j
by_size f j = sym (counted_is size (walk 0 f) j) ∙ sym (ap (λ (g : ℕ → ℕ). g j) (Tallies.tallied size (λ l h n. refl) f))

pub tallied : (t : Text) → Tallied t (along tallying (bytes t) (some start) no_tally)
tallied t =
    let f : Forest = tree (datum_of t) in
    record {
      values_long = (text_adds 0 t).values_long;
      texts_long = (text_adds 0 t).texts_long;
      values_are = λ j h. (text_adds j t).values_more h ∙ ap (λ (n : ℕ). n + sum one j (walk 0 f)) (get_or-replicate levels j 0 0 h) ∙ omega (arith, by_one f j);
      texts_are = λ j h. (text_adds j t).texts_more h ∙ ap (λ (n : ℕ). n + sum size j (walk 0 f)) (get_or-replicate levels j 0 0 h) ∙ omega (arith, by_size f j);
    }
