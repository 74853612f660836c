-- The names of an object's children, as names that lie among the words, and the lowest of all that is repeated.
--     names_lie                  they lie as the search for a repeated name asks
--     repeated_at                a child's name is repeated if it is among those of its siblings
--     root_not, other_not        the root's is not, nor that of a child of anything but an object
--     lowered_none, lowered-object      the lower of a row and the lowest such child
--     Least, least_none, least_more, least_end     the lowest of all, owner by owner
-- Assumes nothing.
use mathlib.Core.Bool.{true, false, ◌&&◌, and-false}
use mathlib.Core.List.{List}
use mathlib.Core.Logic.{⊎_elim}
use mathlib.Core.Path.{◌≡◌, refl, sym, ap, ◌∙◌}
use Prim.Native.Nat.{ℕ, min, ◌+◌, ◌-◌, ◌*◌, ◌≤◌, ◌<◌}
use native.Mathlib.Nat.{eq-or-lt_of_le, eq-zero-or-pos, min-eq_left, min-eq_right}
use native.Mathlib.Omega.{arith}
use lib.ListN.{length}
use borrow.Author.Tests.{le-ltb}
use Rattle.laws.specs.Lowest.{lowest}
use Rattle.laws.proofs.Tests.{le_or_lt}
use Rattle.laws.proofs.Searches.{clear_below, holds_at, lowest_is}
use Rattle.names.specs.declared.Names.{Names}
use Rattle.names.specs.Names.{name_at, first_same, repeats_by, repeats_at, Lying}
use Rattle.names.proofs.Repeats.{repeats_is, repeats_agree}
use Rattle.sheet.specs.declared.kind.RowKind.{RowKind}
use Rattle.sheet.specs.declared.kind.RowKind.TheVariants.{Null, False, True, Number, String, Array, Object}
use Rattle.sheet.specs.declared.record.RecordForm.{RecordForm}
use Rattle.sheet.specs.Kinds.{kind_of, holds_children, is_object_kind}
use Rattle.sheet.specs.Doc.{Child, is_object, first_child, value_kind}
use Rattle.sheet.specs.Record.{row_words, rows_word, text_word, row_at, owner_at, doc_of}
use Rattle.sheet.specs.Faults.{row_ok, repeated}
use Rattle.sheet.specs.Accepted.{Laid, Lowered}
use Rattle.sheet.proofs.Trailers.{form_rows}
use Rattle.sheet.proofs.Labels.{labels_lie, label_name}
use Rattle.sheet.proofs.Rows.{row_facts, children_facts, label_fits, owner_inside}
use Rattle.sheet.proofs.Values.{kind_by}
use Rattle.sheet.proofs.Owners.{Under, value_here, first_here, under, child, children_of, owner_is, placed_at}

-- the first of any names is repeated by none
first_not : (name : ℕ → List ℕ) → repeats_by name 0 ≡ false
first_not name = repeats_is name 0 ∙ le-ltb (first_same name 0) 0 (omega arith)

pub object_holds : (kind : RowKind) → is_object_kind kind ≡ true → holds_children kind ≡ true
object_holds Null h = h
object_holds False h = h
object_holds True h = h
object_holds Number h = h
object_holds String h = h
object_holds Array h = refl
object_holds Object h = refl

-- the lowest of all the repeated names of rows whose owner stands before o, or the number of rows
pub record Least (ws ts : List ℕ) (o least : ℕ) : Type 0 where
  pub within : least ≤ rows_word ws
  pub none_below : (j : ℕ) → j < rows_word ws → owner_at ws j < o → j < least → repeated (doc_of ws ts) j ≡ false
  pub is_one : least < rows_word ws → repeated (doc_of ws ts) least ≡ true

module _ (ws ts : List ℕ) (form : RecordForm) (laid : Laid ws form) where
  passes : (j : ℕ) → j < rows_word ws → row_ok ws j ≡ true
  passes j h = laid.rows_ok j (omega (arith, form_rows ws form laid.formed))

  kind_here : (o : ℕ) → o < rows_word ws → value_kind ((doc_of ws ts).value o) ≡ kind_of (row_at ws o).kind
  kind_here o h =
      ap value_kind (value_here ws ts (rows_word ws) refl passes o h) ∙ kind_by ts (row_at ws o).first (row_at ws o).count (kind_of (row_at ws o).kind)

  -- a child's name, by its owner
  by_owner : (o j : ℕ) → owner_at ws j ≡ o
      → repeated (doc_of ws ts) j
      ≡ (is_object ((doc_of ws ts).value o) && repeats_by (λ i. (doc_of ws ts).name (first_child ((doc_of ws ts).value o) + i)) (j - first_child ((doc_of ws ts).value o)))
  unfolding repeated doc_of
  by_owner o j e = rw e

  root_not : repeated (doc_of ws ts) 0 ≡ false
  root_not =
      let first = first_child ((doc_of ws ts).value (owner_at ws 0)) in
      let z : 0 - first ≡ 0 = omega arith in
      by_owner (owner_at ws 0) 0 refl ∙ rw (z, first_not (λ i. (doc_of ws ts).name (first + i))) (and-false (is_object ((doc_of ws ts).value (owner_at ws 0))))

  other_not : (o j : ℕ) → o < rows_word ws → is_object_kind (kind_of (row_at ws o).kind) ≡ false → Child (doc_of ws ts) o j → repeated (doc_of ws ts) j ≡ false
  other_not o j h none c =
      by_owner o j (owner_is ws ts (rows_word ws) refl passes o j h (under ws ts (rows_word ws) refl passes o j h c))
      ∙ rw (ap is_object_kind (kind_here o h) ∙ none)

  module _ (o : ℕ) (h : o < rows_word ws) (object : is_object_kind (kind_of (row_at ws o).kind) ≡ true) where
    holds_here : holds_children (kind_of (row_at ws o).kind) ≡ true
    holds_here = object_holds (kind_of (row_at ws o).kind) object

    pub children_end : (row_at ws o).first + (row_at ws o).count ≤ rows_word ws
    children_end = (children_facts (text_word ws) (rows_word ws) o (row_at ws o) (row_facts ws o (passes o h)).fields_fine holds_here).within

    in_range_lem : (i : ℕ) → i < (row_at ws o).count → Under ws o ((row_at ws o).first + i)
    in_range_lem i l = record { holds = holds_here; low = omega arith; high = omega arith }

    pub repeated_at : (i : ℕ) → i < (row_at ws o).count → repeated (doc_of ws ts) ((row_at ws o).first + i) ≡ repeats_by (λ k. (doc_of ws ts).name ((row_at ws o).first + k)) i
    repeated_at i l =
        let e : ((row_at ws o).first + i) - (row_at ws o).first ≡ i = omega arith in
        by_owner o ((row_at ws o).first + i) (owner_is ws ts (rows_word ws) refl passes o ((row_at ws o).first + i) h (in_range_lem i l))
        ∙ rw (ap is_object_kind (kind_here o h) ∙ object, first_here ws ts (rows_word ws) refl passes o h holds_here, e)

    -- the children's names, among the words
    module _ (names : Names) (at_base : names.base ≡ form.start + row_words * (row_at ws o).first + 4) (by : names.stride ≡ row_words) (all : names.count ≡ (row_at ws o).count) where
      child_below : (i : ℕ) → i < names.count → (row_at ws o).first + i < rows_word ws
      child_below i l = (children_of ws ts (rows_word ws) refl passes o ((row_at ws o).first + i) h (in_range_lem i (omega arith))).1

      pub names_lie : length ts ≡ text_word ws → Lying ws ts names
      names_lie text =
          labels_lie ws ts form laid.formed (row_at ws o).first names at_base by text
          (omega (arith, form_rows ws form laid.formed, children_end, all))
          (λ i l. label_fits ws ((row_at ws o).first + i) (passes ((row_at ws o).first + i) (child_below i l)))

      agree : (i : ℕ) → i < (row_at ws o).count → repeats_at ws ts names i ≡ repeated (doc_of ws ts) ((row_at ws o).first + i)
      agree i l = repeats_agree (name_at ws ts names) (λ k. (doc_of ws ts).name ((row_at ws o).first + k)) i (λ k g. label_name ws ts form laid.formed (row_at ws o).first names at_base by k) ∙ sym (repeated_at i l)

      module _ (at : ℕ) (e : at ≡ lowest (repeats_at ws ts names) names.count) where
        -- a child before the one that was found
        clear_child : (j : ℕ) → Child (doc_of ws ts) o j → j < (row_at ws o).first + at → repeated (doc_of ws ts) j ≡ false
        clear_child j c l =
            let u = under ws ts (rows_word ws) refl passes o j h c in
            let i = j - (row_at ws o).first in
            let q : (row_at ws o).first + i ≡ j = omega (arith, u.low) in
            let inside : i < (row_at ws o).count = omega (arith, u.low, u.high) in
            ap (repeated (doc_of ws ts)) (sym q)
            ∙ sym (agree i inside)
            ∙ clear_below (repeats_at ws ts names) names.count 0 i (omega arith) (omega arith) (omega (arith, u.low))

        pub lowered_past : (least : ℕ) → names.count ≤ at → Lowered (doc_of ws ts) o least least
        lowered_past least past =
            record {
              lower = omega arith;
              clear =
                  λ (j : ℕ) (c : Child (doc_of ws ts) o j) (l : j < least).
                  clear_child j c (omega (arith, (under ws ts (rows_word ws) refl passes o j h c).high));
              found_one = λ (l : least < least). absurd (omega arith);
            }

        pub lowered_at : (least r : ℕ) → at < names.count → r ≡ min ((row_at ws o).first + at) least → Lowered (doc_of ws ts) o least r
        lowered_at least r some q =
            ⊎_elim
            (λ (l : (row_at ws o).first + at ≤ least).
            let is : r ≡ (row_at ws o).first + at = q ∙ min-eq_left l in
            record {
              lower = omega arith;
              clear = λ (j : ℕ) (c : Child (doc_of ws ts) o j) (g : j < r). clear_child j c (omega arith);
              found_one = λ g. rw is (sym (agree at (omega arith)) ∙ rw e (holds_at (repeats_at ws ts names) names.count 0 (omega arith)));
            })
            (λ (l : least < (row_at ws o).first + at).
            let is : r ≡ least = q ∙ min-eq_right (less_le l) in
            record {
              lower = omega arith;
              clear = λ (j : ℕ) (c : Child (doc_of ws ts) o j) (g : j < r). clear_child j c (omega arith);
              found_one = λ (g : r < least). absurd (omega arith);
            })
            (le_or_lt ((row_at ws o).first + at) least)
          where
            less_le : least < (row_at ws o).first + at → least ≤ (row_at ws o).first + at
            less_le g = omega arith

  pub lowered_none : (o least : ℕ) → o < rows_word ws → is_object_kind (kind_of (row_at ws o).kind) ≡ false → Lowered (doc_of ws ts) o least least
  lowered_none o least h none =
      record { lower = omega arith; clear = λ j c l. other_not o j h none c; found_one = λ (l : least < least). absurd (omega arith) }

  pub least_none : Least ws ts 0 (rows_word ws)
  least_none =
      record {
        within = omega arith;
        none_below = λ (j : ℕ) (h : j < rows_word ws) (l : owner_at ws j < 0) (g : j < rows_word ws). absurd (omega arith);
        is_one = λ (l : rows_word ws < rows_word ws). absurd (omega arith);
      }

  pub least_more : (o least r : ℕ) → o < rows_word ws → Least ws ts o least → Lowered (doc_of ws ts) o least r → Least ws ts (o + 1) r
  least_more o least r h a b =
      record {
        within = omega (arith, a.within, b.lower);
        none_below = λ (j : ℕ) (l : j < rows_word ws) (g : owner_at ws j < o + 1) (k : j < r).
            ⊎_elim
            (λ (e : owner_at ws j ≡ o). ⊎_elim (λ (z : j ≡ 0). rw z root_not) (λ (p : 0 < j). b.clear j (own j p l e) k) (eq-zero-or-pos j))
            (λ (q : owner_at ws j < o). a.none_below j l q (omega (arith, b.lower)))
            (eq-or-lt_of_le (less_le (owner_at ws j) o g));
        is_one = λ (l : r < rows_word ws).
            ⊎_elim (λ (e : r ≡ least). rw e (a.is_one (omega arith))) (λ (q : r < least). b.found_one q) (eq-or-lt_of_le b.lower);
      }
    where
      less_le : (x y : ℕ) → x < y + 1 → x ≤ y
      less_le x y g = omega arith

      own : (j : ℕ) → 0 < j → j < rows_word ws → owner_at ws j ≡ o → Child (doc_of ws ts) o j
      own j p l e =
          let at = placed_at ws ts (rows_word ws) refl passes j p l in
          rw e at (child ws ts (rows_word ws) refl passes (owner_at ws j) j at.0 at.1)

  pub least_end : (o least : ℕ) → rows_word ws ≤ o → Least ws ts o least → least ≡ lowest (repeated (doc_of ws ts)) (rows_word ws)
  least_end o least past a =
      lowest_is (repeated (doc_of ws ts)) (rows_word ws) least a.within
      (λ (j : ℕ) (l : j < least). a.none_below j (omega (arith, a.within)) (omega (arith, owner_below j (omega (arith, a.within)))) l)
      a.is_one
    where
      owner_below : (j : ℕ) → j < rows_word ws → owner_at ws j < rows_word ws
      owner_below j l = owner_inside ws j l (passes j l)
