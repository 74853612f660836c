-- What the pass that only says yes tells of a row, and of all rows.
--     met_at                           a row that was met
--     leaf, empty, holding, full       a row without children, and one with them
--     root_told                        the table at the start
--     no_fault, no_name, no_level      where every row is in order, no line of the table but 13 applies
-- Assumes nothing.
use mathlib.Core.Bool.{true, false, not, ◌&&◌, or-true}
use mathlib.Core.List.{List}
use mathlib.Core.Logic.{⊎_elim}
use mathlib.Core.Path.{◌≡◌, refl, sym, ap, ◌∙◌}
use Prim.Native.Nat.{ℕ, zero, suc, ◌+◌, ◌-◌, ◌≤◌, ◌<◌}
use native.Mathlib.Numerals.{add-one}
use native.Mathlib.Omega.{arith}
use lib.Dec.{eqb}
use lib.ListN.{length, get_or, set, length-set}
use lib.Seq.{get_or-set_same, get_or-set_other}
use borrow.Author.Tests.{eqb-true, eqb-false, eq-eqb, ne_eqb}
use Rattle.laws.specs.Lowest.{lowest, lowest_from}
use Rattle.laws.proofs.Tests.{decide, both}
use Rattle.laws.proofs.Searches.{none_found}
use Rattle.utf8.proofs.Tests.{clash}
use Rattle.sheet.specs.declared.kind.RowKind.{RowKind}
use Rattle.sheet.specs.declared.record.Row.{Row}
use Rattle.sheet.specs.declared.record.RecordForm.{RecordForm}
use Rattle.sheet.specs.Kinds.{kind_of, holds_children, is_object_kind}
use Rattle.sheet.specs.Doc.{Child, level}
use Rattle.sheet.specs.Record.{rows_word, text_word, row_at, owner_at, doc_of}
use Rattle.sheet.specs.Faults.{fields_ok, root_ok, place_ok, stranger, owns_ok, row_ok, at_fault, repeated, too_deep, level_refused}
use Rattle.sheet.specs.Accepted.{Formed, Laid, Lowered}
use Rattle.sheet.proofs.Trailers.{form_rows}
use Rattle.sheet.proofs.Rows.{children_facts}
use Rattle.sheet.proofs.Levels.{level_root}
use Rattle.sheet.proofs.Owners.{under}
use Rattle.sheet.proofs.Siblings.{Least, object_holds, repeated_at, lowered_none, least_none, least_more, least_end}
use Rattle.recordcheck.specs.Order.{Placed, Levelled, Holding, Held, Apart, Ordered}
use Rattle.recordcheck.proofs.Children.{nothing, owns}

module _ (ws : List ℕ) (j : ℕ) where
  childless : holds_children (kind_of (row_at ws j).kind) ≡ false → owns_ok ws j (row_at ws j) ≡ true
  unfolding owns_ok
  childless none = rw none

  unpeopled : (row_at ws j).count ≡ 0 → owns_ok ws j (row_at ws j) ≡ true
  unfolding owns_ok lowest_from
  unpeopled e =
      let first = (row_at ws j).first in
      let z : stranger ws j first (row_at ws j).count ≡ first + (row_at ws j).count = rw e (omega arith) in
      rw (eq-eqb (stranger ws j first (row_at ws j).count) (first + (row_at ws j).count) z) (or-true (not (holds_children (kind_of (row_at ws j).kind))))

-- a row whose level stands in the table was met
pub met_at : {ws : List ℕ} {n : ℕ} {table : List ℕ} → Levelled ws n table → {j at : ℕ} → at ≡ j → j < n → 0 < get_or table at 0 → Placed ws j (get_or table at 0)
met_at {ws} {n} {table} t {j} {at} e h some =
    let q : get_or table at 0 ≡ get_or table j 0 = ap (λ (k : ℕ). get_or table k 0) e in
    rw q (t.met j h (omega arith))

-- row j, which was met, whose fields are in order
module _ (ws ts : List ℕ) (form : RecordForm) (formed : Formed ws form) (j : ℕ) (h : j < form.rows) (row : Row) (read : row ≡ row_at ws j)
    (size : ℕ) (text : size ≡ text_word ws) (fields : fields_ok size form.rows j row ≡ true) (deep : ℕ) (placed : Placed ws j deep)
  where
    fields_good : fields_ok (text_word ws) (rows_word ws) j (row_at ws j) ≡ true
    fields_good = rw (text, read, form_rows ws form formed) at fields

    good : owns_ok ws j (row_at ws j) ≡ true → row_ok ws j ≡ true
    unfolding row_ok
    good own =
        both (fields_ok (text_word ws) (rows_word ws) j (row_at ws j)) (place_ok ws j (row_at ws j) && owns_ok ws j (row_at ws j)) fields_good
        (both (place_ok ws j (row_at ws j)) (owns_ok ws j (row_at ws j)) placed.place_good own)

    above : level (owner_at ws) j < level_refused
    above = omega (arith, placed.level_is, placed.shallow)

    kind_read : kind_of row.kind ≡ kind_of (row_at ws j).kind
    kind_read = ap (λ (r : Row). kind_of r.kind) read

    pub leaf : (kind : RowKind) → kind ≡ kind_of row.kind → holds_children kind ≡ false → Ordered ws ts j
    leaf kind e none =
        let here : holds_children (kind_of (row_at ws j).kind) ≡ false = ap holds_children (sym (e ∙ kind_read)) ∙ none in
        record {
          row_good = good (childless ws j here);
          above = above;
          apart = λ t. absurd (clash (object_holds (kind_of (row_at ws j).kind) t) here);
        }

    pub empty : row.count ≡ 0 → Ordered ws ts j
    empty e =
        let zero_here : (row_at ws j).count ≡ 0 = sym (ap (λ (r : Row). r.count) read) ∙ e in
        record {
          row_good = good (unpeopled ws j zero_here);
          above = above;
          apart = λ t. record { none_repeats = λ (i : ℕ) (l : i < (row_at ws j).count). nothing i (omega (arith, zero_here)) };
        }

    pub holding : (kind : RowKind) → kind_of row.kind ≡ kind → holds_children kind ≡ true → (row.count ≡ 0 → ⊥) → deep + 1 < level_refused
        → Holding ws form kind j (deep + 1) row.first row.count
    holding kind e holds some low =
        let here : kind_of (row_at ws j).kind ≡ kind = sym kind_read ∙ e in
        let f = children_facts (text_word ws) (rows_word ws) j (row_at ws j) fields_good (ap holds_children here ∙ holds) in
        let a = ap (λ (r : Row). r.first) read in
        let b = ap (λ (r : Row). r.count) read in
        record {
          formed = formed;
          below = h;
          kind_is = here;
          holds = holds;
          first_is = a;
          count_is = b;
          after = rw a (f.after (row_at ws j).first (omega arith) (omega (arith, some, b)));
          within = omega (arith, f.within, a, b, form_rows ws form formed);
          deeper = ap (λ (l : ℕ). l + 1) placed.level_is;
          shallow = low;
        }

    pub full : (kind : RowKind) → Holding ws form kind j (deep + 1) row.first row.count → Held ws kind j row.first row.count
        → (is_object_kind kind ≡ true → Apart ws ts row.first row.count) → Ordered ws ts j
    full kind holding held apart =
        record {
          row_good = good (owns holding held);
          above = above;
          apart = λ t. rw (holding.first_is, holding.count_is) at (apart (ap is_object_kind (sym holding.kind_is) ∙ t));
        }

-- the table with the root's level alone
pub root_told : (ws : List ℕ) (n : ℕ) (table : List ℕ) → root_ok (row_at ws 0) ≡ true → n ≤ length table → ((p : ℕ) → get_or table p 0 ≡ 0)
    → 0 < n → Levelled ws n (set table 0 1)
unfolding place_ok
root_told ws n table root long clear some =
    record {
      room = rw (length-set table 0 1) long;
      met =
          λ (k : ℕ) (g : k < n) (p : 0 < get_or (set table 0 1) k 0).
          ⊎_elim
          (λ (q : eqb k 0 ≡ true).
          rw (eqb-true k 0 q, get_or-set_same table 0 1 0 (omega arith))
          (record { place_good = root; level_is = sym (level_root (owner_at ws)); shallow = omega arith }))
          (λ (q : eqb k 0 ≡ false).
          let o = get_or-set_other table 0 k 1 0 (eqb-false k 0 q) ∙ clear k in
          nothing 0 (omega (arith, o)))
          (decide (eqb k 0));
    }

-- ---- all rows
module _ (ws ts : List ℕ) (form : RecordForm) (formed : Formed ws form) (all : (j : ℕ) → j < form.rows → Ordered ws ts j) where
  each : (j : ℕ) → j < rows_word ws → Ordered ws ts j
  each j h = all j (omega (arith, form_rows ws form formed))

  pub laid : Laid ws form
  laid = record { formed = formed; rows_ok = λ j h. (all j h).row_good }

  pub no_fault : rows_word ws ≤ lowest (at_fault ws) (rows_word ws)
  no_fault =
      let e = none_found (at_fault ws) (rows_word ws) 0 (λ i l h. ap not (each i (omega arith)).row_good) in
      omega arith

  pub no_level : rows_word ws ≤ lowest (too_deep ws) (rows_word ws)
  no_level =
      let e = none_found (too_deep ws) (rows_word ws) 0 (λ i l h. ne_eqb (level (owner_at ws) i) level_refused (λ q. omega (arith, (each i (omega arith)).above))) in
      omega arith

  passes : (j : ℕ) → j < rows_word ws → row_ok ws j ≡ true
  passes j h = (each j h).row_good

  lowered : (o : ℕ) → o < rows_word ws → Lowered (doc_of ws ts) o (rows_word ws) (rows_word ws)
  lowered o h =
      ⊎_elim
      (λ (t : is_object_kind (kind_of (row_at ws o).kind) ≡ true).
      record {
        lower = omega arith;
        clear =
            λ (j : ℕ) (c : Child (doc_of ws ts) o j) (l : j < rows_word ws).
            let u = under ws ts (rows_word ws) refl passes o j h c in
            let i = j - (row_at ws o).first in
            let q : (row_at ws o).first + i ≡ j = omega (arith, u.low) in
            let inside : i < (row_at ws o).count = omega (arith, u.low, u.high) in
            ap (repeated (doc_of ws ts)) (sym q) ∙ repeated_at ws ts form laid o h t i inside ∙ ((each o h).apart t).none_repeats i inside;
        found_one = λ (l : rows_word ws < rows_word ws). absurd (omega arith);
      })
      (λ (t : is_object_kind (kind_of (row_at ws o).kind) ≡ false). lowered_none ws ts form laid o (rows_word ws) h t)
      (decide (is_object_kind (kind_of (row_at ws o).kind)))

  least : (o : ℕ) → o ≤ rows_word ws → Least ws ts o (rows_word ws)
  least zero h = least_none ws ts form laid
  least (suc o) h =
      rw (← add-one o) (least_more ws ts form laid o (rows_word ws) (rows_word ws) (omega arith) (least o (omega arith)) (lowered o (omega arith)))

  pub no_name : rows_word ws ≤ lowest (repeated (doc_of ws ts)) (rows_word ws)
  no_name =
      let e = least_end ws ts form laid (rows_word ws) (rows_word ws) (omega arith) (least (rows_word ws) (omega arith)) in
      omega arith
