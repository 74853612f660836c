-- The children of a row, as the pass that only says yes meets them.
--     not_child, by_label    which rows are
--     told            each is told its level
--     owns            then the row owns them
--     labels_fit      and the names of an object's children lie within the text
-- Assumes nothing.
use mathlib.Core.Bool.{true, false, not, ◌&&◌}
use mathlib.Core.List.{List}
use mathlib.Core.Logic.{⊎_elim}
use mathlib.Core.Path.{◌≡◌, sym, ap, ◌∙◌}
use Prim.Native.Nat.{ℕ, ◌+◌, ◌-◌, ◌<◌}
use native.Mathlib.Omega.{arith}
use lib.Dec.{eqb}
use lib.ListN.{get_or, set, length-set}
use lib.Seq.{get_or-set_same, get_or-set_other}
use borrow.Author.Tests.{eqb-true, eqb-false, eq-eqb, ne_eqb, le-leb, lt-ltb}
use Rattle.laws.proofs.Tests.{decide, left, right}
use Rattle.laws.proofs.Searches.{none_found}
use Rattle.text.specs.Part.{fits, part}
use Rattle.sheet.specs.declared.kind.RowKind.{RowKind}
use Rattle.sheet.specs.declared.kind.RowKind.TheVariants.{Object}
use Rattle.sheet.specs.declared.record.Row.{Row}
use Rattle.sheet.specs.declared.record.RecordForm.{RecordForm}
use Rattle.sheet.specs.Doc.{level}
use Rattle.sheet.specs.Record.{rows_word, text_word, row_at, owner_at, doc_of}
use Rattle.sheet.specs.Faults.{label_ok, place_ok, stranger, owns_ok}
use Rattle.sheet.proofs.Levels.{level_under}
use Rattle.sheet.proofs.Trailers.{form_rows}
use Rattle.recordcheck.specs.Order.{Placed, Levelled, child_ok, Holding, Held}

pub nothing : {A : Type 0} (k : ℕ) → k < 0 → A
nothing k h = absurd (none h)
  where
    none : k < 0 → ⊥
    none z = omega arith

-- whether row c is a child of row j, as the row that was read tells it
module _ (ws : List ℕ) (kind : RowKind) (j c : ℕ) (row : Row) (read : row ≡ row_at ws c) where
  by_row : child_ok ws kind j c ≡ (eqb row.owner j && label_ok kind (text_word ws) row.label)
  by_row = ap (λ (r : Row). eqb r.owner j && label_ok kind (text_word ws) r.label) (sym read)

  pub not_child : (row.owner ≡ j → ⊥) → false ≡ child_ok ws kind j c
  not_child other = sym (by_row ∙ rw (ne_eqb row.owner j other))

  pub by_label : row.owner ≡ j → (size : ℕ) → size ≡ text_word ws → label_ok kind size row.label ≡ child_ok ws kind j c
  by_label same size e = sym (by_row ∙ rw (eq-eqb row.owner j same, e))

-- the name of a row that was read, and of an object's child that it lies within the text
pub named : (ws ts : List ℕ) (c : ℕ) (row : Row) → row ≡ row_at ws c → part ts row.label ≡ (doc_of ws ts).name c
unfolding doc_of
named ws ts c row read = rw read

pub label_fits : (ws : List ℕ) (j c : ℕ) (row : Row) → row ≡ row_at ws c → {size : ℕ} → size ≡ text_word ws → child_ok ws Object j c ≡ true → fits size row.label ≡ true
label_fits ws j c row read e ok =
    rw (e, read) (right (eqb (owner_at ws c) j) (fits (text_word ws) (row_at ws c).label) ok)

module _ {ws : List ℕ} {form : RecordForm} {kind : RowKind} {j deep first count : ℕ} (h : Holding ws form kind j deep first count) where
  -- child i of row j
  module _ (i : ℕ) (l : i < count) (ok : child_ok ws kind j (first + i) ≡ true) where
    owner_is : owner_at ws (first + i) ≡ j
    owner_is = eqb-true (owner_at ws (first + i)) j (left (eqb (owner_at ws (first + i)) j) (label_ok kind (text_word ws) (row_at ws (first + i)).label) ok)

    label_good : label_ok kind (text_word ws) (row_at ws (first + i)).label ≡ true
    label_good = right (eqb (owner_at ws (first + i)) j) (label_ok kind (text_word ws) (row_at ws (first + i)).label) ok

    place_good : place_ok ws (first + i) (row_at ws (first + i)) ≡ true
    unfolding place_ok
    place_good =
        simp (
          ne_eqb (first + i) 0 (λ e. omega (arith, h.after)),
          owner_is,
          lt-ltb j (rows_word ws) (omega (arith, h.below, form_rows ws form h.formed)),
          h.kind_is,
          label_good,
          ← h.first_is,
          ← h.count_is,
          le-leb first (first + i) (omega arith),
          lt-ltb (first + i) (first + count) (omega arith),
        )

    level_here : deep ≡ level (owner_at ws) (first + i)
    level_here =
        h.deeper
        ∙ sym (level_under (owner_at ws) (first + i) (omega (arith, owner_is, h.after)) ∙ ap (λ (k : ℕ). level (owner_at ws) k + 1) owner_is)

    placed : Placed ws (first + i) deep
    placed = record { place_good = place_good; level_is = level_here; shallow = h.shallow }

    pub told : {table : List ℕ} (at : ℕ) → at ≡ first + i → Levelled ws form.rows table → Levelled ws form.rows (set table at deep)
    told {table} at e t =
        record {
          room = rw (length-set table at deep) t.room;
          met =
              λ (k : ℕ) (g : k < form.rows) (p : 0 < get_or (set table at deep) k 0).
              ⊎_elim
              (λ (q : eqb k at ≡ true).
              let s : k ≡ at = eqb-true k at q in
              rw (s, get_or-set_same table at deep 0 (omega (arith, t.room, s)), e) placed)
              (λ (q : eqb k at ≡ false).
              let o = get_or-set_other table at k deep 0 (eqb-false k at q) in
              rw o (t.met k g (rw o at p)))
              (decide (eqb k at));
        }

  pub owns : Held ws kind j first count → owns_ok ws j (row_at ws j) ≡ true
  unfolding owns_ok
  owns held =
      let e : stranger ws j first count ≡ first + count =
      none_found (λ k. not (eqb (owner_at ws k) j)) count first
      (λ k a b.
      let q : first + (k - first) ≡ k = omega arith in
      let o = owner_is (k - first) (omega arith) (held.each (k - first) (omega arith)) in
      ap not (eq-eqb (owner_at ws k) j (rw q at o))) in
      simp (h.kind_is, h.holds, ← h.first_is, ← h.count_is, eq-eqb (stranger ws j first count) (first + count) e)

pub labels_fit : {ws : List ℕ} {j first count : ℕ} → Held ws Object j first count
    → (i : ℕ) → i < count → fits (text_word ws) (row_at ws (first + i)).label ≡ true
labels_fit {ws} {j} {first} held i l =
    right (eqb (owner_at ws (first + i)) j) (fits (text_word ws) (row_at ws (first + i)).label) (held.each i l)
