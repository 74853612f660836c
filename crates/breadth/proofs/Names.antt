-- The labels and strings of a value's sheet: within the text, none for the root and an array's children, no two alike in an object.
--     labelled    the theorem
-- Assumes nothing.
use mathlib.Core.Bool.{true, false}
use mathlib.Core.List.{[]}
use mathlib.Core.Path.{◌≡◌, refl, sym, ap, subst, ◌∙◌}
use Prim.Native.Nat.{ℕ, zero, suc, ◌+◌, ◌-◌, ◌≤◌, ◌<◌}
use native.Mathlib.Omega.{arith}
use lib.ListN.{length, get_or, length-append}
use Rattle.jsontext.specs.Datum.{Datum, null, bool, number, string, array, object, Items, no_item, item, Fields, no_field, field}
use Rattle.breadth.specs.Forest.{Label, bare, named, Head, a_null, a_bool, a_number, a_string, an_array, an_object, Forest, empty, trees, head_of, children, items, fields, tree}
use Rattle.breadth.specs.Breadth.{Entry, walk, breadth, depth}
use Rattle.sheet.specs.declared.kind.RowKind.TheVariants.{String}
use Rattle.breadth.specs.Sheet.{KindRow, label_bytes, string_bytes, head_kind, first_word, count_word, label_range, row_for, owner_of, rows, text}
use Rattle.breadth.specs.Meaning.{no_row, name_in, Apart, Fitting, FittingItems, FittingFields, Labelled}
use Rattle.breadth.specs.Counters.{one, size}
use Rattle.breadth.proofs.Digits.{number_ok_lem}
use Rattle.breadth.proofs.Walks.{sum, sum_nil, high}
use Rattle.breadth.proofs.Places.{row, row_made}
use Rattle.breadth.proofs.Passes.{now_is, locate, rows_high}
use Rattle.breadth.proofs.Texts.{fits}
use Rattle.breadth.proofs.Numbers.{every_row}
use Rattle.breadth.proofs.Meant.{apart}
use Rattle.breadth.proofs.Readback.{fields_counted, nothing_before, stands_root, splits}
use Rattle.breadth.proofs.Kin.{name_at, AllBare, Differ, Good, GoodForest, Kin, label_here, all_kin}

module _ (f : Forest) (root : trees f ≡ 1) where
  -- ---- ranges within the text

  label_fits : (l : Label) (start total : ℕ) → start + length (label_bytes l) ≤ total → (label_range l start).start + (label_range l start).length ≤ total
  label_fits bare start total p = omega arith
  label_fits (named bs) start total p = p

  string_fits : (h : Head) (c first start total : ℕ) → head_kind h ≡ String → start + length (string_bytes h) ≤ total → first_word h c first start + count_word h c ≤ total
  string_fits a_null c first start total q p = apart (cc)
  string_fits (a_bool true) c first start total q p = apart (cc)
  string_fits (a_bool false) c first start total q p = apart (cc)
  string_fits (a_number d s) c first start total q p = apart (cc)
  string_fits (a_string bs) c first start total q p = p
  string_fits an_array c first start total q p = apart (cc)
  string_fits an_object c first start total q p = apart (cc)

  -- a row's ranges lie within the text
  abbrev Fits : KindRow → Type 0
  Fits x = (x.label.start + x.label.length ≤ length (text f)) × (x.kind ≡ String → x.first + x.count ≤ length (text f))

  fits_for : (e : Entry) (first owner start : ℕ) → start + size e ≤ length (text f) → Fits (row_for e first owner start)
  unfolding row_for
  fits_for e first owner start p =
      let two = length-append (label_bytes e.label) (string_bytes e.head) in (
        label_fits e.label start (length (text f)) (omega arith),
        λ (q : head_kind e.head ≡ String). string_fits e.head e.count first (start + length (label_bytes e.label)) (length (text f)) q (omega arith),
      )

  ranges_fit : (r : ℕ) → r < length (rows f) → Fits (get_or (rows f) r no_row)
  ranges_fit r h =
      let n = every_row f r h in
      let k = n.level in
      let e = n.entry in
      let made = ap (λ (x : ℕ). get_or (rows f) x no_row) (sym n.row_is) ∙ row_made f n.pre n.post k e n.splits root in
      subst Fits (sym made)
      (fits_for e (high one (suc k) (walk 0 f) + sum one (suc k) n.pre) (owner_of (breadth f) (row f n.pre n.post k e n.splits)) (high size k (walk 0 f) + sum size k n.pre)
      (omega (arith, fits f n.pre n.post k e n.splits, now_is size (walk 0 f) n.pre k)))

-- ---- values

names_in : (ms : Fields) (i : ℕ) → name_at (fields ms) i ≡ name_in ms i
names_in no_field i = refl
names_in (field n v ms) zero = refl
names_in (field n v ms) (suc i) = names_in ms i

differ : (ms : Fields) → Apart ms → Differ (fields ms)
differ ms a i j p q e = a i j p (omega (arith, fields_counted ms)) (sym (names_in ms i) ∙ e ∙ names_in ms j)

all_bare : (vs : Items) → AllBare (items vs)
all_bare no_item = tt
all_bare (item v vs) = (refl, all_bare vs)

good_head : (v : Datum) → Fitting v → Good (head_of v) (children v)
good_head null u = tt
good_head (bool b) u = tt
good_head (number z) u = number_ok_lem z u
good_head (string bs) u = tt
good_head (array vs) u = all_bare vs
good_head (object ms) u = differ ms u.0

mutual
  good_children : (v : Datum) → Fitting v → GoodForest (children v)
  good_children null u = tt
  good_children (bool b) u = tt
  good_children (number z) u = tt
  good_children (string bs) u = tt
  good_children (array vs) u = good_items vs u
  good_children (object ms) u = good_fields ms u.1

  good_items : (vs : Items) → FittingItems vs → GoodForest (items vs)
  good_items no_item u = tt
  good_items (item v vs) u = (good_head v u.0, good_children v u.0, good_items vs u.1)

  good_fields : (ms : Fields) → FittingFields ms → GoodForest (fields ms)
  good_fields no_field u = tt
  good_fields (field n v ms) u = (good_head v u.0, good_children v u.0, good_fields ms u.1)

kin_of : (v : Datum) → Fitting v → (r : ℕ) → r < length (rows (tree v)) → Kin (tree v) refl r
kin_of v u r h =
    let k = locate one (walk 0 (tree v)) (depth (tree v)) r (omega (arith, rows_high (tree v))) in
    all_kin (tree v) refl (tree v) 0 0 [] [] (stands_root v) (good_head v u, good_children v u, tt) k.0 r
    (omega (arith, sum_nil one k.0, k.1)) (omega (arith, sum_nil one k.0, k.2))

pub labelled : (v : Datum) → Fitting v → Labelled (rows (tree v)) (text (tree v))
labelled v u =
    let f = tree v in
    record {
      root_bare = rw (nothing_before f) at (label_here f refl bare (head_of v) (children v) empty 0 0 [] [] (stands_root v));
      labels_fit = λ j h. (ranges_fit f refl j h).0;
      strings_fit = λ j h q. (ranges_fit f refl j h).1 q;
      numbers_fit = λ j h q. (kin_of v u j h).number_fits q;
      items_bare = λ j k h q c. (kin_of v u j h).items_bare q k c;
      names_differ = λ j k l h q c d b e. (kin_of v u j h).names_differ q k l c d b e;
    }
