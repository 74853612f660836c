-- The record of a value is well formed, and its rows' levels are their values' depths.
--     rows_counted    as many rows as values
--     well_formed     children, owners
--     row_level       the rows of a level have that level by their owners too
-- Assumes nothing.
use mathlib.Core.List.{List, [], ◌∷◌, ◌++◌}
use mathlib.Core.Logic.{⊎_elim}
use mathlib.Core.Path.{◌≡◌, refl, sym, ap, subst, ◌∙◌}
use Prim.Native.Nat.{ℕ, zero, suc, ◌+◌, ◌-◌, ◌≤◌, ◌<◌}
use native.Mathlib.Nat.{eq-or-lt_of_le}
use native.Mathlib.Omega.{arith}
use lib.ListN.{length, get_or, take, drop, length-append}
use lib.Seq.{split_at, length-take-le, take-suc, take-add, take-length, take-append_seam, get_or-append_seam}
use Rattle.jsontext.specs.Datum.{Datum}
use Rattle.breadth.specs.Forest.{Forest, trees, values, tree}
use Rattle.breadth.specs.Breadth.{Entry, walk, depth, on, above, breadth}
use Rattle.breadth.specs.Sheet.{weigh, count_of, first_one_of, owner_of, start_of, text_of, label_bytes, string_bytes, no_entry, row_for, row_of, rows, text}
use Rattle.sheet.specs.Doc as D
use Rattle.sheet.specs.Doc.{Doc, Child}
use Rattle.breadth.specs.Meaning.{part_at, rows_doc, Shaped}
use Rattle.breadth.specs.Counters.{one}
use Rattle.sheet.proofs.Levels.{level_root, level_under}
use Rattle.laws.proofs.Tests.{le_or_lt}
use Rattle.breadth.proofs.Lists.{weigh_append, weigh_one}
use Rattle.breadth.proofs.Walks.{sum, deep, high, high_next, high_all, high_even, on_trees, total_one}
use Rattle.breadth.proofs.Rows.{owns, owner_at, row_at, rows_long, same_length, string_read}
use Rattle.breadth.proofs.Places.{levels_split}
use Rattle.breadth.proofs.Readback.{read_back, read_head}
use Rattle.breadth.proofs.Fair.{FairForest, Fair, fair_at, fair_above, fair_walk, fair_tree, child_range, range_child, childless}

pub rows_counted : (f : Forest) → length (rows f) ≡ values f
unfolding rows breadth
rows_counted f = rows_long (breadth f) 0 (length (breadth f)) ∙ sym (weigh_one (breadth f)) ∙ high_all one f 0 (depth f) (omega arith) ∙ total_one f

-- ---- the record

-- how many rows the levels above level k have
abbrev pub rows_above : Forest → ℕ → ℕ
rows_above f k = length (above k (walk 0 f))

-- row r is on level k
pub record On (f : Forest) (k r : ℕ) : Type 0 where
  pub low : rows_above f k ≤ r
  pub below : r < rows_above f (suc k)
  pub shallow : k < depth f

module _ (f : Forest) (root : trees f ≡ 1) (fair : FairForest f) where
  abbrev doc : Doc
  doc = rows_doc (rows f) (text f)

  abbrev es : List Entry
  es = breadth f

  abbrev H : ℕ → ℕ
  H k = rows_above f k

  -- how many children the first r rows have
  abbrev S : ℕ → ℕ
  S r = weigh count_of (take r es)

  -- ---- one row, by its number

  module _ (j : ℕ) (h : j < length es) where
    abbrev e : Entry
    e = get_or es j no_entry

    is : es ≡ take j es ++ e ∷ drop (suc j) es
    is = split_at es j no_entry h

    long : length (take j es) ≡ j
    long = length-take-le j es (omega arith)

    value_at : doc.value j ≡ read_back e.head e.count (first_one_of es j)
    unfolding rows_doc rows text row_of row_for
    value_at =
        let s : part_at (text_of es) (start_of es j + length (label_bytes e.label)) (length (string_bytes e.head)) ≡ string_bytes e.head =
        rw (sym is) at (string_read (take j es) e (drop (suc j) es)) in
        rw (row_at es j h) (read_head e.head (text_of es) e.count (first_one_of es j) (start_of es j + length (label_bytes e.label)) s)

    owner_of_lem : doc.owner j ≡ owner_of es j
    unfolding rows_doc rows row_of row_for
    owner_of_lem = rw (row_at es j h)

    fair_here : Fair e
    unfolding breadth
    fair_here = fair_at es j h (fair_above (depth f) (walk 0 f) (fair_walk f 0 fair))

    S-next : S (suc j) ≡ S j + e.count
    S-next = rw (take-suc es j no_entry h) (weigh_append count_of (take j es) (e ∷ []) ∙ unfold weigh in omega arith)

    range_of : (k : ℕ) → Child doc j k → (first_one_of es j ≤ k) × (k < first_one_of es j + e.count)
    range_of k c = child_range e.head e.count (first_one_of es j) k (rw value_at at c.after) (rw value_at at c.within)

    child_of : (k : ℕ) → first_one_of es j ≤ k → k < first_one_of es j + e.count → Child doc j k
    child_of k p q =
        let r = range_child e.head e.count (first_one_of es j) k fair_here p q in
        record { after = rw value_at r.0; within = rw value_at r.1 }

    owned : (k : ℕ) → first_one_of es j ≤ k → k < first_one_of es j + e.count → owner_of es k ≡ j
    owned k p q =
        let z : k ≡ 1 + weigh count_of (take j es) + (k - first_one_of es j) = omega arith in
        let o : owner_of (take j es ++ e ∷ drop (suc j) es) (1 + weigh count_of (take j es) + (k - first_one_of es j)) ≡ length (take j es) =
        owner_at (take j es) (drop (suc j) es) e (k - first_one_of es j) (omega arith) in
        ap (owner_of es) z ∙ (rw (sym is) at o) ∙ long

  -- ---- sums up to a row, and the levels

  S-climbs : (a b : ℕ) → a ≤ b → S a ≤ S b
  S-climbs a b p =
      let z : b ≡ a + (b - a) = omega arith in
      let t : S b ≡ S a + weigh count_of (take (b - a) (drop a es)) = ap S z ∙ ap (weigh count_of) (take-add a (b - a) es) ∙ weigh_append count_of (take a es) (take (b - a) (drop a es)) in
      omega arith

  H-is : (k : ℕ) → H k ≡ high one k (walk 0 f)
  H-is k = sym (weigh_one (above k (walk 0 f)))

  H-next : (k : ℕ) → H (suc k) ≡ H k + sum one k (walk 0 f)
  H-next k = omega (arith, H-is k, H-is (suc k), high_next one k (walk 0 f))

  H-zero : H 0 ≡ 0
  unfolding above
  H-zero = refl

  H-some : (k : ℕ) → 1 ≤ H (suc k)
  H-some zero = omega (arith, H-next 0, on_trees f 0)
  H-some (suc k) = omega (arith, H-next (suc k), H-some k)

  all_rows : length es ≡ H (depth f)
  unfolding breadth
  all_rows = refl

  -- the children of the levels above level k are the rows above level k + 1, but for the root
  S-level : (k : ℕ) → k ≤ depth f → 1 + S (H k) ≡ H (suc k)
  S-level k p =
      let t : take (H k) es ≡ above k (walk 0 f) = prefix in
      let u : S (H k) ≡ high count_of k (walk 0 f) = ap (weigh count_of) t in
      omega (arith, high_even f k, H-is (suc k))
    where
      prefix : take (H k) (breadth f) ≡ above k (walk 0 f)
      prefix =
          ⊎_elim
          (λ (q : k ≡ depth f). unfold breadth in rw q (take-length (above (depth f) (walk 0 f))))
          (λ (q : k < depth f). let s = levels_split (walk 0 f) k (depth f) q in unfold breadth in rw s.1 (take-append_seam (above k (walk 0 f)) (on k (walk 0 f) ++ s.0)))
          (eq-or-lt_of_le p)

  locate : (d r : ℕ) → d ≤ depth f → r < H d → (k : ℕ) × On f k r
  locate zero r p h = absurd (nothing h)
    where
      nothing : r < H 0 → ⊥
      nothing z = omega (arith, H-zero)
  locate (suc d) r p h =
      ⊎_elim
      (λ (l : H d ≤ r). (d, record { low = l; below = h; shallow = p }))
      (λ (l : r < H d). locate d r (omega arith) l)
      (le_or_lt (H d) r)

  level_of : (r : ℕ) → r < length es → (k : ℕ) × On f k r
  level_of r h = locate (depth f) r (omega arith) (omega (arith, all_rows))

  first_after : (r : ℕ) → r < length es → r < first_one_of es r
  first_after r h =
      let l = level_of r h in
      omega (arith, S-level l.0 (omega (arith, l.1.shallow)), S-climbs (H l.0) r l.1.low, l.1.below)

  children_inside : length es ≡ 1 + S (length es)
  children_inside =
      omega (arith, S-level (depth f) (omega arith), all_rows, ap S all_rows, H-next (depth f), deep one f 0 (depth f) (omega arith))

  -- ---- the theorems

  in_row : (k : ℕ) → 0 < k → k < length es → Child doc (doc.owner k) k × (doc.owner k < length es)
  in_row k p h =
      let o = owns es (k - 1) (omega (arith, children_inside, ap (weigh count_of) (take-length es))) in
      let j = length o.before in
      let q : j < length es = omega (arith, ap length o.is, length-append o.before (o.owner ∷ o.rest)) in
      let t : take j es ≡ o.before = ap (take j) o.is ∙ take-append_seam o.before (o.owner ∷ o.rest) in
      let u : get_or es j no_entry ≡ o.owner = ap (λ (x : List Entry). get_or x j no_entry) o.is ∙ get_or-append_seam o.before o.owner o.rest no_entry in
      let s : S j ≡ weigh count_of o.before = ap (weigh count_of) t in
      let n : (get_or es j no_entry).count ≡ o.owner.count = ap (λ (x : Entry). x.count) u in
      let a : first_one_of es j ≤ k = omega (arith, o.low) in
      let b : k < first_one_of es j + (get_or es j no_entry).count = omega (arith, o.high) in
      let w : doc.owner k ≡ j = owner_of_lem k h ∙ owned j q k a b in
      rw w (child_of j q k a b, q)

  owners_first : (k : ℕ) → 0 < k → k < length es → doc.owner k < k
  owners_first k p h =
      let c = in_row k p h in
      omega (arith, (range_of (doc.owner k) c.1 k c.0).0, first_after (doc.owner k) c.1)

  inside : (j k : ℕ) (h : j < length es) → Child doc j k → k < length es
  inside j k h c = omega (arith, (range_of j h k c).1, S-next j h, S-climbs (suc j) (length es) h, children_inside)

  formed : Shaped doc (length es)
  formed =
      record {
        some = omega (arith, children_inside);
        child_after = λ (j k : ℕ) (h : j < length es) (c : Child doc j k). omega (arith, first_after j h, (range_of j h k c).0);
        child_inside = inside;
        child_owner = λ j k h c. owner_of_lem k (inside j k h c) ∙ owned j h k (range_of j h k c).0 (range_of j h k c).1;
        placed = λ k p h. (in_row k p h).0;
        owner_before = owners_first;
        root_owner = owner_of_lem 0 (omega (arith, children_inside));
        no_children = λ j h z. rw (value_at j h) (childless (e j h).head (e j h).count (first_one_of es j) (rw (value_at j h) at z));
      }

  -- ---- levels

  -- a row's owner is on the level above
  owner_level : (k r : ℕ) → r < length es → On f (suc k) r → On f k (doc.owner r)
  owner_level k r h o =
      let p : 0 < r = omega (arith, o.low, H-some k) in
      let c = in_row r p h in
      let j = doc.owner r in
      let q = range_of j c.1 r c.0 in
      record {
        low = ⊎_elim (λ (l : H k ≤ j). l)
            (λ (l : j < H k). absurd (omega (arith, S-level k (omega (arith, o.shallow)), S-climbs (suc j) (H k) l, S-next j c.1, o.low, q.1)))
            (le_or_lt (H k) j);
        below = ⊎_elim (λ (l : H (suc k) ≤ j). absurd (omega (arith, S-level (suc k) (omega (arith, o.shallow)), S-climbs (H (suc k)) j l, o.below, q.0)))
            (λ (l : j < H (suc k)). l)
            (le_or_lt (H (suc k)) j);
        shallow = omega (arith, o.shallow);
      }

  level_row : (k r : ℕ) → r < length es → On f k r → D.level doc.owner r ≡ k + 1
  level_row zero r h o =
      let z : r ≡ 0 = omega (arith, o.below, H-next 0, on_trees f 0, H-zero) in
      rw z (level_root doc.owner)
  level_row (suc k) r h o =
      let u = owner_level k r h o in
      let p : 0 < r = omega (arith, o.low, H-some k) in
      level_under doc.owner r (owners_first r p h) ∙ rw (level_row k (doc.owner r) (in_row r p h).1 u) (omega arith)

-- ---- the same of a value's record

abbrev pub record_of : Datum → Doc
record_of v = rows_doc (rows (tree v)) (text (tree v))

pub well_formed : (v : Datum) → Shaped (record_of v) (length (rows (tree v)))
well_formed v = subst (Shaped (record_of v)) (same_length (tree v)) (formed (tree v) refl (fair_tree v))

-- every row is on a level above the depth
pub row_on : (v : Datum) (r : ℕ) → r < length (rows (tree v)) → (k : ℕ) × On (tree v) k r
row_on v r h = level_of (tree v) refl (fair_tree v) r (omega (arith, same_length (tree v)))

-- and its level by owners, which counts from 1, is the same
pub row_level : (v : Datum) (k r : ℕ) → r < length (rows (tree v)) → On (tree v) k r → D.level (record_of v).owner r ≡ k + 1
row_level v k r h o = level_row (tree v) refl (fair_tree v) k r (omega (arith, same_length (tree v))) o
