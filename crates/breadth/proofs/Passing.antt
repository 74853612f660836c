-- Every row of a value's sheet passes the record check.
--     rows_pass    the theorem
-- Assumes nothing.
use mathlib.Core.Bool.{Bool, true, false, not, ◌&&◌, ◌||◌}
use mathlib.Core.List.{List}
use mathlib.Core.Logic.{⊎_elim}
use mathlib.Core.Path.{◌≡◌, refl, sym, ap, subst, ◌∙◌}
use Prim.Native.Nat.{ℕ, zero, suc, ◌+◌, ◌-◌, ◌≤◌, ◌<◌}
use native.Mathlib.Nat.{eq-zero-or-pos}
use native.Mathlib.Omega.{arith}
use borrow.Author.Tests.{lt-ltb, le-leb, eq-eqb, ne_eqb}
use lib.Dec.{eqb, leb, ltb}
use lib.ListN.{length, get_or}
use Rattle.laws.proofs.Tests.{le_or_lt, both}
use Rattle.laws.proofs.Searches.{holds_at, at_least, at_most_end}
use Rattle.text.specs.declared.Range.{Range}
use Rattle.text.specs.Part.{fits}
use Rattle.sheet.specs.declared.kind.RowKind.{RowKind}
use Rattle.sheet.specs.declared.kind.RowKind.TheVariants.{Null, False, True, Number, String, Array, Object}
use Rattle.sheet.specs.declared.record.Row.{Row}
use Rattle.sheet.specs.Kinds.{kind_number, is_kind, kind_of, holds_children}
use Rattle.sheet.specs.Doc.{Doc, first_child, child_count, Child}
use Rattle.sheet.specs.Record.{rows_word, text_word, value_by, row_at, owner_at}
use Rattle.sheet.specs.Faults.{none, in_range, children_ok, content_ok, label_ok, placed_under, stranger, owns_ok, place_ok, row_ok}
use Rattle.jsontext.specs.Datum.{Datum}
use Rattle.breadth.specs.Forest.{Head, a_null, a_bool, a_number, a_string, an_array, an_object, tree}
use Rattle.breadth.specs.Breadth.{Entry, breadth, walk}
use Rattle.breadth.specs.Sheet.{KindRow, head_kind, first_word, count_word, row_for, owner_of, label_bytes, rows, text}
use Rattle.breadth.specs.Meaning.{no_row, rows_doc, Shaped, Labelled, Fitting}
use Rattle.breadth.specs.Words.{worded, sheet_words}
use Rattle.breadth.specs.Counters.{one, size}
use Rattle.breadth.proofs.Walks.{sum, high}
use Rattle.breadth.proofs.Places.{row, row_made}
use Rattle.breadth.proofs.Numbers.{every_row}
use Rattle.breadth.proofs.Meant.{apart}
use Rattle.breadth.proofs.Shape.{well_formed}
use Rattle.breadth.proofs.Names.{labelled}
use Rattle.breadth.proofs.Readwords.{Trailed, trailed, row_in_is}

pub kind_back : (k : RowKind) → kind_of (kind_number k) ≡ k
unfolding kind_of
kind_back Null = refl
kind_back False = refl
kind_back True = refl
kind_back Number = refl
kind_back String = refl
kind_back Array = refl
kind_back Object = refl

kind_known : (k : RowKind) → is_kind (kind_number k) ≡ true
kind_known Null = refl
kind_known False = refl
kind_known True = refl
kind_known Number = refl
kind_known String = refl
kind_known Array = refl
kind_known Object = refl

none_is : (a b : ℕ) → a ≡ 0 → b ≡ 0 → none a b ≡ true
none_is a b p q = both (eqb a 0) (eqb b 0) (eq-eqb a 0 p) (eq-eqb b 0 q)

or_right : (a b : Bool) → b ≡ true → (a || b) ≡ true
or_right true b p = refl
or_right false b p = p

-- ---- scalars without content

abbrev Still : RowKind → ℕ → ℕ → Type 0
Still Null first count = (first ≡ 0) × (count ≡ 0)
Still False first count = (first ≡ 0) × (count ≡ 0)
Still True first count = (first ≡ 0) × (count ≡ 0)
Still Number first count = Unit {0}
Still String first count = Unit {0}
Still Array first count = Unit {0}
Still Object first count = Unit {0}

still_for : (h : Head) (c first start : ℕ) → Still (head_kind h) (first_word h c first start) (count_word h c)
still_for a_null c first start = (refl, refl)
still_for (a_bool true) c first start = (refl, refl)
still_for (a_bool false) c first start = (refl, refl)
still_for (a_number d s) c first start = tt
still_for (a_string bs) c first start = tt
still_for an_array c first start = tt
still_for an_object c first start = tt

abbrev StillRow : KindRow → Type 0
StillRow r = Still r.kind r.first r.count

still_row : (e : Entry) (first owner start : ℕ) → StillRow (row_for e first owner start)
unfolding row_for
still_row e first owner start = still_for e.head e.count first (start + length (label_bytes e.label))

module _ (v : Datum) (u : Fitting v) where
  abbrev rs : List KindRow
  rs = rows (tree v)

  abbrev ts : List ℕ
  ts = text (tree v)

  abbrev doc : Doc
  doc = rows_doc rs ts

  abbrev ws : List ℕ
  ws = sheet_words rs (length ts)

  abbrev at : ℕ → KindRow
  at j = get_or rs j no_row

  sizes : Trailed ws (length rs) (length ts)
  sizes = trailed rs (length ts)

  shape : Shaped doc (length rs)
  shape = well_formed v

  labels : Labelled rs ts
  labels = labelled v u

  still : (r : ℕ) → r < length rs → StillRow (at r)
  still r h =
      let n = every_row (tree v) r h in
      let k = n.level in
      let e = n.entry in
      let made = ap (λ (x : ℕ). get_or rs x no_row) (sym n.row_is) ∙ row_made (tree v) n.pre n.post k e n.splits refl in
      subst StillRow (sym made)
      (still_row e (high one (suc k) (walk 0 (tree v)) + sum one (suc k) n.pre) (owner_of (breadth (tree v)) (row (tree v) n.pre n.post k e n.splits)) (high size k (walk 0 (tree v)) + sum size k n.pre))

  value_is : (j : ℕ) (kind : RowKind) → (at j).kind ≡ kind → doc.value j ≡ value_by kind ts (at j).first (at j).count
  unfolding rows_doc
  value_is j kind e = ap (λ (x : RowKind). value_by x ts (at j).first (at j).count) e

  owner_is : (j : ℕ) → doc.owner j ≡ (at j).owner
  unfolding rows_doc
  owner_is j = refl

  -- ---- a container's children

  module _ (j : ℕ) (h : j < length rs) (first count : ℕ) (f : first_child (doc.value j) ≡ first) (c : child_count (doc.value j) ≡ count) where
    child : (k : ℕ) → first ≤ k → k < first + count → Child doc j k
    child k p q = record { after = omega arith; within = omega arith }

    children_pass : children_ok (length rs) j first count ≡ true
    children_pass =
        ⊎_elim
        (λ (z : count ≡ 0).
        let y : first ≡ 0 = sym f ∙ shape.no_children j h (c ∙ z) in
        rw (none_is first count y z))
        (λ (p : 0 < count).
        let a = shape.child_after j first h (child first (omega arith) (omega arith)) in
        let b = shape.child_inside j (first + count - 1) h (child (first + count - 1) (omega arith) (omega arith)) in
        or_right (none first count) (ltb 0 count && (ltb j first && leb (first + count) (length rs)))
        (rw (lt-ltb 0 count p, lt-ltb j first a, le-leb (first + count) (length rs) (omega arith))))
        (eq-zero-or-pos count)

    -- no row of the range names another owner
    none_strange : (k : ℕ) → first ≤ k → k < first + count → not (eqb (owner_at ws k) j) ≡ false
    none_strange k p q =
        let c = child k p q in
        let e : owner_at ws k ≡ j =
        ap (λ (r : Row). r.owner) (row_in_is rs (length ts) k (shape.child_inside j k h c)) ∙ sym (owner_is k) ∙ shape.child_owner j k h c in
        ap not (eq-eqb (owner_at ws k) j e)

    own_pass : eqb (stranger ws j first count) (first + count) ≡ true
    own_pass =
        let test : ℕ → Bool = λ k. not (eqb (owner_at ws k) j) in
        let end = at_most_end test count first in
        ⊎_elim
        (λ (l : first + count ≤ stranger ws j first count). eq-eqb (stranger ws j first count) (first + count) (omega arith))
        (λ (l : stranger ws j first count < first + count).
        let hit : not (eqb (owner_at ws (stranger ws j first count)) j) ≡ true = holds_at test count first l in
        let low : first ≤ stranger ws j first count = at_least test count first in
        let miss = none_strange (stranger ws j first count) low l in
        apart (cc))
        (le_or_lt (first + count) (stranger ws j first count))

  content_pass : (j : ℕ) → j < length rs → (kind : RowKind) → (at j).kind ≡ kind → Still kind (at j).first (at j).count
      → content_ok kind (length ts) (length rs) j (at j).first (at j).count ≡ true
  unfolding fits
  content_pass j h Null e s = none_is (at j).first (at j).count s.0 s.1
  content_pass j h False e s = none_is (at j).first (at j).count s.0 s.1
  content_pass j h True e s = none_is (at j).first (at j).count s.0 s.1
  content_pass j h Number e s = labels.numbers_fit j h e
  content_pass j h String e s = le-leb ((at j).first + (at j).count) (length ts) (labels.strings_fit j h e)
  content_pass j h Array e s = children_pass j h (at j).first (at j).count (ap first_child (value_is j Array e)) (ap child_count (value_is j Array e))
  content_pass j h Object e s = children_pass j h (at j).first (at j).count (ap first_child (value_is j Object e)) (ap child_count (value_is j Object e))

  owns_pass : (j : ℕ) → j < length rs → (kind : RowKind) → (at j).kind ≡ kind
      → (not (holds_children kind) || eqb (stranger ws j (at j).first (at j).count) ((at j).first + (at j).count)) ≡ true
  owns_pass j h Null e = refl
  owns_pass j h False e = refl
  owns_pass j h True e = refl
  owns_pass j h Number e = refl
  owns_pass j h String e = refl
  owns_pass j h Array e = own_pass j h (at j).first (at j).count (ap first_child (value_is j Array e)) (ap child_count (value_is j Array e))
  owns_pass j h Object e = own_pass j h (at j).first (at j).count (ap first_child (value_is j Object e)) (ap child_count (value_is j Object e))

  -- ---- a row's place

  childless : (o k : ℕ) → first_child (doc.value o) ≡ 0 → child_count (doc.value o) ≡ 0 → Child doc o k → ◌≡◌ {A = ℕ} 0 1
  childless o k f c ch = omega (arith, ch.after, ch.within)

  in_range_lem : (o k first count : ℕ) → first_child (doc.value o) ≡ first → child_count (doc.value o) ≡ count → Child doc o k → in_range first count k ≡ true
  in_range_lem o k first count f c ch = rw (le-leb first k (omega (arith, ch.after)), lt-ltb k (first + count) (omega (arith, ch.within)))

  under : (o k : ℕ) (kind : RowKind) → o < length rs → k < length rs → (at o).kind ≡ kind → Child doc o k
      → (label_ok kind (length ts) (at k).label && in_range (at o).first (at o).count k) ≡ true
  unfolding fits
  under o k Null h g e ch = let w = value_is o Null e in apart (childless o k (ap first_child w) (ap child_count w) ch)
  under o k False h g e ch = let w = value_is o False e in apart (childless o k (ap first_child w) (ap child_count w) ch)
  under o k True h g e ch = let w = value_is o True e in apart (childless o k (ap first_child w) (ap child_count w) ch)
  under o k Number h g e ch = let w = value_is o Number e in apart (childless o k (ap first_child w) (ap child_count w) ch)
  under o k String h g e ch = let w = value_is o String e in apart (childless o k (ap first_child w) (ap child_count w) ch)
  under o k Array h g e ch =
      let w = value_is o Array e in
      let b = labels.items_bare o k h e ch in
      both (none (at k).label.start (at k).label.length) (in_range (at o).first (at o).count k)
      (none_is (at k).label.start (at k).label.length (ap (λ (x : Range). x.start) b) (ap (λ (x : Range). x.length) b))
      (in_range_lem o k (at o).first (at o).count (ap first_child w) (ap child_count w) ch)
  under o k Object h g e ch =
      let w = value_is o Object e in
      both (leb ((at k).label.start + (at k).label.length) (length ts)) (in_range (at o).first (at o).count k)
      (le-leb ((at k).label.start + (at k).label.length) (length ts) (labels.labels_fit k g))
      (in_range_lem o k (at o).first (at o).count (ap first_child w) (ap child_count w) ch)

  row_is : (j : ℕ) → j < length rs → row_at ws j ≡ worded (at j)
  row_is j h = row_in_is rs (length ts) j h

  place_pass : (j : ℕ) → j < length rs → place_ok ws j (worded (at j)) ≡ true
  unfolding place_ok
  place_pass zero h =
      let b = labels.root_bare in
      rw (eq-eqb 0 0 refl)
      (both (eqb (at 0).owner 0) (none (at 0).label.start (at 0).label.length)
      (eq-eqb (at 0).owner 0 (sym (owner_is 0) ∙ shape.root_owner))
      (none_is (at 0).label.start (at 0).label.length (ap (λ (x : Range). x.start) b) (ap (λ (x : Range). x.length) b)))
  place_pass (suc j) h =
      let o = (at (suc j)).owner in
      let z = owner_is (suc j) in
      let l : o < length rs = omega (arith, shape.owner_before (suc j) (omega arith) h) in
      let ch : Child doc o (suc j) = subst (λ (x : ℕ). Child doc x (suc j)) z (shape.placed (suc j) (omega arith) h) in
      rw (ne_eqb (suc j) 0 (omega arith))
      (both (ltb o (rows_word ws)) (placed_under (row_at ws o) (suc j) (text_word ws) (at (suc j)).label)
      (ap (ltb o) sizes.rows_word_is ∙ lt-ltb o (length rs) l)
      (rw (row_is o l, sizes.text_word_is, kind_back (at o).kind) (under o (suc j) (at o).kind l h refl ch)))

  pub rows_pass : (j : ℕ) → j < length rs → row_ok ws j ≡ true
  unfolding row_ok owns_ok
  rows_pass j h =
      let row = worded (at j) in
      let k = (at j).kind in
      rw (row_is j h, sizes.rows_word_is, sizes.text_word_is, kind_back k)
      (both (is_kind (kind_number k) && content_ok k (length ts) (length rs) j (at j).first (at j).count)
      (place_ok ws j row && (not (holds_children k) || eqb (stranger ws j (at j).first (at j).count) ((at j).first + (at j).count)))
      (both (is_kind (kind_number k)) (content_ok k (length ts) (length rs) j (at j).first (at j).count) (kind_known k) (content_pass j h k refl (still j h)))
      (both (place_ok ws j row) (not (holds_children k) || eqb (stranger ws j (at j).first (at j).count) ((at j).first + (at j).count)) (place_pass j h) (owns_pass j h k refl)))
