-- The rows and the text of a value, read back, mean the value.
--     means_root    the theorem
-- Assumes nothing.
use mathlib.Core.Bool.{true, false}
use mathlib.Core.List.{List, [], ◌∷◌, ◌++◌, append_assoc, append-nil}
use mathlib.Core.Path.{◌≡◌, refl, sym, ap, ◌∙◌}
use Prim.Native.Nat.{ℕ, suc, ◌+◌, ◌<◌}
use native.Mathlib.Omega.{arith}
use lib.ListN.{length}
use Rattle.jsontext.specs.Datum.{Datum, null, bool, number, string, array, object, Items, no_item, item, Fields, no_field, field}
use Rattle.decimal.specs.Value.{signed, billionths}
use Rattle.text.specs.Part.{part}
use Rattle.breadth.specs.Number.{digits_word, scale_of}
use Rattle.breadth.specs.Forest.{Label, bare, named, Head, a_null, a_bool, a_number, a_string, an_array, an_object, Forest, empty, node, trees, head_of, children, items, fields, tree}
use Rattle.breadth.specs.Breadth.{Entry, Event, entry_of, event, walk, on, above, breadth}
use Rattle.breadth.specs.Sheet.{text_of, label_bytes, string_bytes, label_range, head_kind, first_word, count_word, first_or_none, row_for, weigh, count_of, owner_of, rows, text}
use Rattle.sheet.specs.Doc as D
use Rattle.sheet.specs.Doc.{Value, Doc}
use Rattle.sheet.specs.Record.{value_by}
use Rattle.breadth.specs.Meaning.{part_at, rows_doc, item_count, field_count, Fitting, FittingItems, FittingFields, Means, MeansItems, MeansFields}
use Rattle.breadth.specs.Counters.{one, size}
use Rattle.breadth.proofs.Digits.{number_back}
use Rattle.breadth.proofs.Lists.{weigh_append, weigh_size}
use Rattle.breadth.proofs.Walks.{sum, sum_append, sum_same, sum_other, sum_nil, shallow, high, high_zero, high_even, Splits, even_before}
use Rattle.breadth.proofs.Rows.{label_read, string_read, owner_at}
use Rattle.breadth.proofs.Places.{ahead, placed, row_is, row_made}

-- what a reader finds of a value
abbrev pub read_back : Head → ℕ → ℕ → Value
read_back a_null count first = D.null
read_back (a_bool b) count first = D.bool b
read_back (a_number d s) count first = D.number (billionths (signed d) s)
read_back (a_string bs) count first = D.string bs
read_back an_array count first = D.array (first_or_none count first) count
read_back an_object count first = D.object (first_or_none count first) count

pub read_head : (h : Head) (ts : List ℕ) (count first start : ℕ) → part_at ts start (length (string_bytes h)) ≡ string_bytes h
    → value_by (head_kind h) ts (first_word h count first start) (count_word h count) ≡ read_back h count first
read_head a_null ts count first start p = refl
read_head (a_bool true) ts count first start p = refl
read_head (a_bool false) ts count first start p = refl
read_head (a_number d s) ts count first start p = refl
read_head (a_string bs) ts count first start p = ap D.string p
read_head an_array ts count first start p = refl
read_head an_object ts count first start p = refl

pub read_label : (l : Label) (ts : List ℕ) (start : ℕ) → part_at ts start (length (label_bytes l)) ≡ label_bytes l
    → part_at ts (label_range l start).start (label_range l start).length ≡ label_bytes l
unfolding part
read_label bare ts start p = refl
read_label (named bs) ts start p = p

items_counted : (vs : Items) → trees (items vs) ≡ item_count vs
items_counted no_item = refl
items_counted (item v vs) = ap suc (items_counted vs)

pub fields_counted : (ms : Fields) → trees (fields ms) ≡ field_count ms
fields_counted no_field = refl
fields_counted (field n v ms) = ap suc (fields_counted ms)

module _ (f : Forest) (root : trees f ≡ 1) where
  abbrev pub doc : Doc
  doc = rows_doc (rows f) (text f)

  -- the row that is next on level k after the values `pre`
  abbrev pub next : ℕ → List Event → ℕ
  next k pre = high one k (walk 0 f) + sum one k pre

  module _ (pre post : List Event) (k : ℕ) (e : Entry) (h : Splits f 0 pre k e post) where
    start_text : high size k (walk 0 f) + sum size k pre ≡ length (text_of (ahead f pre post k e h))
    start_text = sym (weigh_append size (above k (walk 0 f)) (on k pre)) ∙ weigh_size (ahead f pre post k e h)

    value_read : doc.value (next k pre) ≡ read_back e.head e.count (next (suc k) pre)
    unfolding rows_doc row_for text
    value_read =
        let s = string_read (ahead f pre post k e h) e (placed f pre post k e h).0 in
        rw (row_made f pre post k e h root, start_text, (placed f pre post k e h).1)
        (read_head e.head (text_of (ahead f pre post k e h ++ e ∷ (placed f pre post k e h).0)) e.count (next (suc k) pre) (length (text_of (ahead f pre post k e h)) + length (label_bytes e.label)) s)

    name_read : doc.name (next k pre) ≡ label_bytes e.label
    unfolding rows_doc row_for text
    name_read =
        let s = label_read (ahead f pre post k e h) e (placed f pre post k e h).0 in
        rw (row_made f pre post k e h root, start_text, (placed f pre post k e h).1)
        (read_label e.label (text_of (ahead f pre post k e h ++ e ∷ (placed f pre post k e h).0)) (length (text_of (ahead f pre post k e h))) s)

    owner_read : doc.owner (next k pre) ≡ owner_of (breadth f) (next k pre)
    unfolding rows_doc row_for
    owner_read = rw (row_made f pre post k e h root)

    -- the children's rows name it
    children_owned : (i : ℕ) → i < e.count → owner_of (breadth f) (next (suc k) pre + i) ≡ next k pre
    children_owned i b =
        let at : next (suc k) pre + i ≡ 1 + weigh count_of (ahead f pre post k e h) + i =
        omega (arith, weigh_append count_of (above k (walk 0 f)) (on k pre), high_even f k, (even_before f 0 k pre post e h).1) in
        rw (at, (placed f pre post k e h).1) (owner_at (ahead f pre post k e h) (placed f pre post k e h).0 e i b) ∙ row_is f pre post k e h

  -- ---- the next rows after a value, and after its children

  pub next_child : (k : ℕ) (pre : List Event) (e : Entry) → next (suc k) (pre ++ event k e ∷ []) ≡ next (suc k) pre
  next_child k pre e = omega (arith, sum_append one (suc k) pre (event k e ∷ []), sum_other one (suc k) k e [] (omega arith), sum_nil one (suc k))

  pub next_sibling : (k : ℕ) (pre : List Event) (e : Entry) (c : Forest) → next k (pre ++ event k e ∷ walk (suc k) c) ≡ suc (next k pre)
  next_sibling k pre e c = omega (arith, sum_append one k pre (event k e ∷ walk (suc k) c), sum_same one k e (walk (suc k) c), shallow one c (suc k) k (omega arith))

  -- ---- the meaning

  from_first : (j x : ℕ) (vs : Items) → MeansItems doc j x vs → MeansItems doc j (first_or_none (trees (items vs)) x) vs
  from_first j x no_item m = m
  from_first j x (item v vs) m = m

  from_first' : (j x : ℕ) (ms : Fields) → MeansFields doc j x ms → MeansFields doc j (first_or_none (trees (fields ms)) x) ms
  from_first' j x no_field m = m
  from_first' j x (field n v ms) m = m

  -- the values of a forest stand after `pre`, from level k on, and row j is their trees' owner
  pub record Stands (g : Forest) (k j : ℕ) (pre post : List Event) : Type 0 where
    pub is : walk 0 f ≡ pre ++ (walk k g ++ post)
    pub owned : (i : ℕ) → i < trees g → owner_of (breadth f) (next k pre + i) ≡ j

  module _ (l : Label) (h : Head) (c s : Forest) (k j : ℕ) (pre post : List Event) (t : Stands (node l h c s) k j pre post) where
    pub splits : Splits f 0 pre k (entry_of l h c) (walk (suc k) c ++ (walk k s ++ post))
    unfolding walk
    splits = t.is ∙ ap (λ (x : List Event). pre ++ event k (entry_of l h c) ∷ x) (append_assoc (walk (suc k) c) (walk k s) post)

    pub stands_down : Stands c (suc k) (next k pre) (pre ++ event k (entry_of l h c) ∷ []) (walk k s ++ post)
    stands_down =
        record {
          is = splits ∙ sym (append_assoc pre (event k (entry_of l h c) ∷ []) (walk (suc k) c ++ (walk k s ++ post)));
          owned = λ i b. rw (next_child k pre (entry_of l h c)) (children_owned pre (walk (suc k) c ++ (walk k s ++ post)) k (entry_of l h c) splits i b);
        }

    pub stands_on : Stands s k j (pre ++ event k (entry_of l h c) ∷ walk (suc k) c) post
    stands_on =
        record {
          is = splits ∙ sym (append_assoc pre (event k (entry_of l h c) ∷ walk (suc k) c) (walk k s ++ post));
          owned = λ (i : ℕ) (b : i < trees s).
              let z : next k (pre ++ event k (entry_of l h c) ∷ walk (suc k) c) + i ≡ next k pre + suc i = omega (arith, next_sibling k pre (entry_of l h c) c) in
              rw z (t.owned (suc i) (omega arith));
        }

    owner_here : doc.owner (next k pre) ≡ j
    owner_here =
        let z : next k pre ≡ next k pre + 0 = omega arith in
        owner_read pre (walk (suc k) c ++ (walk k s ++ post)) k (entry_of l h c) splits ∙ ap (owner_of (breadth f)) z ∙ t.owned 0 (omega arith)

    pub value_here : doc.value (next k pre) ≡ read_back h (trees c) (next (suc k) pre)
    value_here = value_read pre (walk (suc k) c ++ (walk k s ++ post)) k (entry_of l h c) splits

    pub name_here : doc.name (next k pre) ≡ label_bytes l
    name_here = name_read pre (walk (suc k) c ++ (walk k s ++ post)) k (entry_of l h c) splits

  mutual
    means : (v : Datum) → Fitting v → (l : Label) (s : Forest) (k j : ℕ) (pre post : List Event) → Stands (node l (head_of v) (children v) s) k j pre post → Means doc (next k pre) v
    means null u l s k j pre post t = value_here l a_null empty s k j pre post t
    means (bool b) u l s k j pre post t = value_here l (a_bool b) empty s k j pre post t
    means (number z) u l s k j pre post t = value_here l (a_number (digits_word z) (scale_of z)) empty s k j pre post t ∙ ap D.number (number_back z u)
    means (string bs) u l s k j pre post t = value_here l (a_string bs) empty s k j pre post t
    means (array vs) u l s k j pre post t = (
      first_or_none (trees (items vs)) (next (suc k) pre),
      value_here l an_array (items vs) s k j pre post t ∙ ap (D.array (first_or_none (trees (items vs)) (next (suc k) pre))) (items_counted vs),
      from_first (next k pre) (next (suc k) pre) vs
          (rw (next_child k pre (entry_of l an_array (items vs))) at
          (means_items vs u (suc k) (next k pre) (pre ++ event k (entry_of l an_array (items vs)) ∷ []) (walk k s ++ post) (stands_down l an_array (items vs) s k j pre post t))),
    )
    means (object ms) u l s k j pre post t = (
      first_or_none (trees (fields ms)) (next (suc k) pre),
      value_here l an_object (fields ms) s k j pre post t ∙ ap (D.object (first_or_none (trees (fields ms)) (next (suc k) pre))) (fields_counted ms),
      from_first' (next k pre) (next (suc k) pre) ms
          (rw (next_child k pre (entry_of l an_object (fields ms))) at
          (means_fields ms u.1 (suc k) (next k pre) (pre ++ event k (entry_of l an_object (fields ms)) ∷ []) (walk k s ++ post) (stands_down l an_object (fields ms) s k j pre post t))),
    )

    means_items : (vs : Items) → FittingItems vs → (k j : ℕ) (pre post : List Event) → Stands (items vs) k j pre post → MeansItems doc j (next k pre) vs
    means_items no_item u k j pre post t = tt
    means_items (item v vs) u k j pre post t = (
      owner_here bare (head_of v) (children v) (items vs) k j pre post t,
      means v u.0 bare (items vs) k j pre post t,
      rw (next_sibling k pre (entry_of bare (head_of v) (children v)) (children v)) at
          (means_items vs u.1 k j (pre ++ event k (entry_of bare (head_of v) (children v)) ∷ walk (suc k) (children v)) post (stands_on bare (head_of v) (children v) (items vs) k j pre post t)),
    )

    means_fields : (ms : Fields) → FittingFields ms → (k j : ℕ) (pre post : List Event) → Stands (fields ms) k j pre post → MeansFields doc j (next k pre) ms
    means_fields no_field u k j pre post t = tt
    means_fields (field n v ms) u k j pre post t = (
      owner_here (named n) (head_of v) (children v) (fields ms) k j pre post t,
      name_here (named n) (head_of v) (children v) (fields ms) k j pre post t,
      means v u.0 (named n) (fields ms) k j pre post t,
      rw (next_sibling k pre (entry_of (named n) (head_of v) (children v)) (children v)) at
          (means_fields ms u.1 k j (pre ++ event k (entry_of (named n) (head_of v) (children v)) ∷ walk (suc k) (children v)) post (stands_on (named n) (head_of v) (children v) (fields ms) k j pre post t)),
    )

pub nothing_before : (f : Forest) → high one 0 (walk 0 f) + sum one 0 [] ≡ 0
nothing_before f = omega (arith, sum_nil one 0, high_zero one (walk 0 f))

pub stands_root : (v : Datum) → Stands (tree v) refl (tree v) 0 0 [] []
stands_root v =
    record {
      is = sym (append-nil (walk 0 (tree v)));
      owned =
          λ (i : ℕ) (b : i < 1).
          let z : high one 0 (walk 0 (tree v)) + sum one 0 [] + i ≡ 0 = omega (arith, nothing_before (tree v)) in
          ap (owner_of (breadth (tree v))) z;
    }

pub means_root : (v : Datum) → Fitting v → Means (rows_doc (rows (tree v)) (text (tree v))) 0 v
means_root v u = rw (nothing_before (tree v)) at (means (tree v) refl v u bare empty 0 0 [] [] (stands_root v))
