-- The rows of a forest, each with its children: an array's are without labels, an object's names differ, and a number is within its bounds, if the forest is so.
--     all_kin     every row
-- Assumes nothing.
use mathlib.Core.Bool.{true, false}
use mathlib.Core.List.{List, [], ◌∷◌, ◌++◌}
use mathlib.Core.Logic.{⊎_elim}
use mathlib.Core.Path.{◌≡◌, refl, sym, ap, ◌∙◌}
use Prim.Native.Nat.{ℕ, zero, suc, ◌+◌, ◌-◌, ◌≤◌, ◌<◌}
use native.Mathlib.Omega.{arith}
use lib.ListN.{length, get_or}
use Rattle.breadth.specs.Forest.{Label, bare, Head, a_null, a_bool, a_number, a_string, an_array, an_object, Forest, empty, node, trees}
use Rattle.breadth.specs.Breadth.{Event, entry_of, event, walk}
use Rattle.text.specs.declared.Range.{Range}
use Rattle.sheet.specs.declared.kind.RowKind.{RowKind}
use Rattle.sheet.specs.declared.kind.RowKind.TheVariants.{Null, False, True, Number, String, Array, Object}
use Rattle.breadth.specs.Sheet.{KindRow, label_bytes, head_kind, first_word, count_word, label_range, row_for, rows, text}
use Rattle.sheet.specs.Doc.{Doc, Child}
use Rattle.breadth.specs.Meaning.{no_row, rows_doc}
use Rattle.breadth.specs.Counters.{one, size}
use Rattle.laws.proofs.Tests.{le_or_lt}
use Rattle.breadth.proofs.Lists.{same_or_not}
use Rattle.sheet.specs.Kinds.{number_ok}
use Rattle.breadth.proofs.Walks.{sum, sum_nil, sum_append, sum_same, sum_other, sum_walk_same, sum_walk_other, shallow, high}
use Rattle.breadth.proofs.Places.{row_made}
use Rattle.breadth.proofs.Fair.{child_range}
use Rattle.breadth.proofs.Meant.{apart}
use Rattle.breadth.proofs.Readback.{read_back, next, next_child, next_sibling, Stands, splits, stands_down, stands_on, value_here, name_here}

abbrev pub none : Range
none = record { start = 0; length = 0 }

-- ---- what a forest's trees are called

abbrev pub name_at : Forest → ℕ → List ℕ
name_at empty i = []
name_at (node l h c s) zero = label_bytes l
name_at (node l h c s) (suc i) = name_at s i

abbrev pub AllBare : Forest → Type 0
AllBare empty = Unit {0}
AllBare (node l h c s) = (l ≡ bare) × AllBare s

abbrev pub Differ : Forest → Type 0
Differ c = (i j : ℕ) → i < j → j < trees c → name_at c i ≡ name_at c j → ⊥

abbrev pub Good : Head → Forest → Type 0
Good a_null c = Unit {0}
Good (a_bool b) c = Unit {0}
Good (a_number d s) c = number_ok d s ≡ true
Good (a_string bs) c = Unit {0}
Good an_array c = AllBare c
Good an_object c = Differ c

abbrev pub GoodForest : Forest → Type 0
GoodForest empty = Unit {0}
GoodForest (node l h c s) = Good h c × GoodForest c × GoodForest s

module _ (f : Forest) (root : trees f ≡ 1) where
  abbrev pub doc : Doc
  doc = rows_doc (rows f) (text f)

  abbrev pub label_of : ℕ → Range
  label_of r = (get_or (rows f) r no_row).label

  abbrev pub kind_at : ℕ → RowKind
  kind_at r = (get_or (rows f) r no_row).kind

  -- a number's row holds these two words
  abbrev Held : Head → ℕ → Type 0
  Held h r = (d s : ℕ) → h ≡ a_number d s → ((get_or (rows f) r no_row).first ≡ d) × ((get_or (rows f) r no_row).count ≡ s)

  module _ (l : Label) (h : Head) (c s : Forest) (k j : ℕ) (pre post : List Event) (t : Stands f root (node l h c s) k j pre post) where
    pub label_here : label_of (next f root k pre) ≡ label_range l (high size k (walk 0 f) + sum size k pre)
    unfolding row_for
    label_here = ap (λ (x : KindRow). x.label) (row_made f pre (walk (suc k) c ++ (walk k s ++ post)) k (entry_of l h c) (splits f root l h c s k j pre post t) root)

    kind_here : kind_at (next f root k pre) ≡ head_kind h
    unfolding row_for
    kind_here = ap (λ (x : KindRow). x.kind) (row_made f pre (walk (suc k) c ++ (walk k s ++ post)) k (entry_of l h c) (splits f root l h c s k j pre post t) root)

    held_here : Held h (next f root k pre)
    unfolding row_for
    held_here d s₁ e =
        let m = row_made f pre (walk (suc k) c ++ (walk k s ++ post)) k (entry_of l h c) (splits f root l h c s k j pre post t) root in
        let start : ℕ = high size k (walk 0 f) + sum size k pre + length (label_bytes l) in (
          ap (λ (x : KindRow). x.first) m ∙ ap (λ (x : Head). first_word x (trees c) (high one (suc k) (walk 0 f) + sum one (suc k) pre) start) e,
          ap (λ (x : KindRow). x.count) m ∙ ap (λ (x : Head). count_word x (trees c)) e,
        )

  bare_of : (c : Forest) (k j : ℕ) (pre post : List Event) → Stands f root c k j pre post → AllBare c → (i : ℕ) → i < trees c → label_of (next f root k pre + i) ≡ none
  bare_of empty k j pre post t b i q = absurd (omega arith)
  bare_of (node l h c s) k j pre post t b zero q =
      let z : next f root k pre + 0 ≡ next f root k pre = omega arith in
      rw z (label_here l h c s k j pre post t ∙ ap (λ (x : Label). label_range x (high size k (walk 0 f) + sum size k pre)) b.0)
  bare_of (node l h c s) k j pre post t b (suc i) q =
      let z : next f root k pre + suc i ≡ next f root k (pre ++ event k (entry_of l h c) ∷ walk (suc k) c) + i = omega (arith, next_sibling f root k pre (entry_of l h c) c) in
      rw z (bare_of s k j (pre ++ event k (entry_of l h c) ∷ walk (suc k) c) post (stands_on f root l h c s k j pre post t) b.1 i (omega arith))

  names_of : (c : Forest) (k j : ℕ) (pre post : List Event) → Stands f root c k j pre post → (i : ℕ) → i < trees c → doc.name (next f root k pre + i) ≡ name_at c i
  names_of empty k j pre post t i q = absurd (omega arith)
  names_of (node l h c s) k j pre post t zero q =
      let z : next f root k pre + 0 ≡ next f root k pre = omega arith in
      rw z (name_here f root l h c s k j pre post t)
  names_of (node l h c s) k j pre post t (suc i) q =
      let z : next f root k pre + suc i ≡ next f root k (pre ++ event k (entry_of l h c) ∷ walk (suc k) c) + i = omega (arith, next_sibling f root k pre (entry_of l h c) c) in
      rw z (names_of s k j (pre ++ event k (entry_of l h c) ∷ walk (suc k) c) post (stands_on f root l h c s k j pre post t) i (omega arith))

  -- ---- a row's children

  pub record Kin (r : ℕ) : Type 0 where
    pub items_bare : kind_at r ≡ Array → (k : ℕ) → Child doc r k → label_of k ≡ none
    pub number_fits : kind_at r ≡ Number → number_ok (get_or (rows f) r no_row).first (get_or (rows f) r no_row).count ≡ true
    pub names_differ : kind_at r ≡ Object → (k l : ℕ) → Child doc r k → Child doc r l → k < l → doc.name k ≡ doc.name l → ⊥

  -- a row that is neither
  other_kin : (r : ℕ) (kind : RowKind) → kind_at r ≡ kind → (kind ≡ Array → ◌≡◌ {A = ℕ} 0 1) → (kind ≡ Object → ◌≡◌ {A = ℕ} 0 1) → (kind ≡ Number → ◌≡◌ {A = ℕ} 0 1) → Kin r
  other_kin r kind q a o n =
      record {
        items_bare = λ x k c. apart (a (sym q ∙ x));
        number_fits = λ x. apart (n (sym q ∙ x));
        names_differ = λ x k l c d b e. apart (o (sym q ∙ x));
      }

  module _ (r first : ℕ) (c : Forest)
      (named_so : (i : ℕ) → i < trees c → doc.name (first + i) ≡ name_at c i)
      (bare_so : AllBare c → (i : ℕ) → i < trees c → label_of (first + i) ≡ none) where
    in_range : (h : Head) → doc.value r ≡ read_back h (trees c) first → (k : ℕ) → Child doc r k → (first ≤ k) × (k < first + trees c)
    in_range h v k ch = child_range h (trees c) first k (rw v at ch.after) (rw v at ch.within)

    name_of : (k : ℕ) → (first ≤ k) × (k < first + trees c) → doc.name k ≡ name_at c (k - first)
    name_of k q =
        let z : k ≡ first + (k - first) = omega arith in
        ap doc.name z ∙ named_so (k - first) (omega arith)

    kin_by : (h : Head) → kind_at r ≡ head_kind h → doc.value r ≡ read_back h (trees c) first → Held h r → Good h c → Kin r
    kin_by a_null q v w g = other_kin r Null q (λ x. cc) (λ x. cc) (λ x. cc)
    kin_by (a_bool true) q v w g = other_kin r True q (λ x. cc) (λ x. cc) (λ x. cc)
    kin_by (a_bool false) q v w g = other_kin r False q (λ x. cc) (λ x. cc) (λ x. cc)
    kin_by (a_number d s) q v w g =
        record {
          items_bare = λ x k ch. apart (cc);
          number_fits = λ x. rw ((w d s refl).0, (w d s refl).1) g;
          names_differ = λ x k l ck cl b e. apart (cc);
        }
    kin_by (a_string bs) q v w g = other_kin r String q (λ x. cc) (λ x. cc) (λ x. cc)
    kin_by an_array q v w g =
        record {
          items_bare =
              λ (x : kind_at r ≡ Array) (k : ℕ) (ch : Child doc r k).
              let n = in_range an_array v k ch in
              let z : k ≡ first + (k - first) = omega arith in
              ap label_of z ∙ bare_so g (k - first) (omega arith);
          number_fits = λ x. apart (cc);
          names_differ = λ x k l ck cl b e. apart (cc);
        }
    kin_by an_object q v w g =
        record {
          items_bare = λ x k ch. apart (cc);
          number_fits = λ x. apart (cc);
          names_differ =
              λ (x : kind_at r ≡ Object) (k l : ℕ) (ck : Child doc r k) (cl : Child doc r l) (b : k < l) (e : doc.name k ≡ doc.name l).
              let n = in_range an_object v k ck in
              let m = in_range an_object v l cl in
              g (k - first) (l - first) (omega arith) (omega arith) (sym (name_of k n) ∙ e ∙ name_of l m);
        }

  kin_here : (l : Label) (h : Head) (c s : Forest) (k j : ℕ) (pre post : List Event) → Stands f root (node l h c s) k j pre post → Good h c → Kin (next f root k pre)
  kin_here l h c s k j pre post t g =
      let d = stands_down f root l h c s k j pre post t in
      let z = next_child f root k pre (entry_of l h c) in
      let pre₁ = pre ++ event k (entry_of l h c) ∷ [] in
      let r = next f root k pre in
      kin_by r (next f root (suc k) pre) c
      (λ i q. rw z at (names_of c (suc k) r pre₁ (walk k s ++ post) d i q))
      (λ b i q. rw z at (bare_of c (suc k) r pre₁ (walk k s ++ post) d b i q))
      h (kind_here l h c s k j pre post t) (value_here f root l h c s k j pre post t) (held_here l h c s k j pre post t) g

  -- ---- all rows

  pub all_kin : (g : Forest) (k j : ℕ) (pre post : List Event) → Stands f root g k j pre post → GoodForest g
      → (i r : ℕ) → next f root i pre ≤ r → r < next f root i pre + sum one i (walk k g) → Kin r
  all_kin empty k j pre post t g i r p q = absurd (unfold walk in omega (arith, sum_nil one i))
  all_kin (node l h c s) k j pre post t g i r p q =
      let e = entry_of l h c in
      let pre₁ = pre ++ event k e ∷ [] in
      let pre₂ = pre ++ event k e ∷ walk (suc k) c in
      let below = all_kin c (suc k) (next f root k pre) pre₁ (walk k s ++ post) (stands_down f root l h c s k j pre post t) g.1 i r in
      let on = all_kin s k j pre₂ post (stands_on f root l h c s k j pre post t) g.2 i r in
      let a₁ = sum_append one i pre (event k e ∷ []) in
      let a₂ = sum_append one i pre (event k e ∷ walk (suc k) c) in
      ⊎_elim
      (λ (z : k ≡ i).
      let w : sum one i (walk k (node l h c s)) ≡ 1 + (sum one i (walk (suc k) c) + sum one i (walk k s)) = rw z (sum_walk_same one i l h c s) in
      let u : sum one i (walk (suc k) c) ≡ 0 = rw z (shallow one c (suc i) i (omega arith)) in
      let v : sum one i (event k e ∷ walk (suc k) c) ≡ 1 + sum one i (walk (suc k) c) = rw z (sum_same one i e (walk (suc i) c)) in
      ⊎_elim
      (λ (m : suc (next f root i pre) ≤ r). on (omega arith) (omega arith))
      (λ (m : r < suc (next f root i pre)).
      let y : r ≡ next f root i pre = omega arith in
      rw (y, ← z) (kin_here l h c s k j pre post t g.0))
      (le_or_lt (suc (next f root i pre)) r))
      (λ (n : k ≡ i → ⊥).
      let w = sum_walk_other one i k l h c s n in
      let v = sum_other one i k e (walk (suc k) c) n in
      let v₁ = sum_other one i k e [] n in
      ⊎_elim
      (λ (m : next f root i pre + sum one i (walk (suc k) c) ≤ r). on (omega arith) (omega arith))
      (λ (m : r < next f root i pre + sum one i (walk (suc k) c)). below (omega (arith, sum_nil one i)) (omega (arith, sum_nil one i)))
      (le_or_lt (next f root i pre + sum one i (walk (suc k) c)) r))
      (same_or_not k i)
