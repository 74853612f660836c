-- The value of a row, by the row that was read.
--     value_in, value_read              a row below the number of rows has the value that its words stand for
--     kind_by, first_by, count_by       the value's kind and children are those of the words
--     kind_read                         the row's kind is its value's
--     with_children, no_children        its children, if its kind can have them and if not
--     name_read, string_read, number_read       its name, its bytes and its number, if no row breaks the layout
-- Assumes nothing.
use mathlib.Core.Bool.{true, false}
use mathlib.Core.List.{List}
use mathlib.Core.Path.{◌≡◌, refl, sym, ap, ◌∙◌}
use Prim.Native.Nat.{ℕ, ◌<◌}
use native.Mathlib.Omega.{arith}
use lib.Dec.{leb}
use lib.IntN.{ℤ, nat_abs}
use borrow.Author.Tests.{lt-ltb, leb-true}
use Rattle.laws.proofs.Tests.{left, right}
use Rattle.decimal.specs.declared.Decimal.{Decimal}
use Rattle.decimal.specs.Value.{scale_max, signed, billionths, Plain, OfWord}
use Rattle.text.specs.Part.{fits, part}
use Rattle.sheet.specs.declared.kind.RowKind.{RowKind}
use Rattle.sheet.specs.declared.kind.RowKind.TheVariants.{Null, False, True, Number, String, Array, Object}
use Rattle.sheet.specs.declared.record.Row.{Row}
use Rattle.sheet.specs.declared.record.RecordForm.{RecordForm}
use Rattle.sheet.specs.Kinds.{is_kind, kind_of, holds_children, number_max, number_ok}
use Rattle.sheet.specs.Doc.{number, string, value_kind, first_child, child_count}
use Rattle.sheet.specs.Record.{rows_word, text_word, row_at, value_by, doc_of}
use Rattle.sheet.specs.Faults.{content_ok}
use Rattle.sheet.specs.Accepted.{Formed, Laid, ChildrenRead, NameRead, StringRead, NumberRead}
use Rattle.sheet.proofs.Trailers.{form_rows}
use Rattle.sheet.proofs.Rows.{row_facts, label_fits}

pub value_in : (ws ts : List ℕ) (j : ℕ) → j < rows_word ws → (doc_of ws ts).value j ≡ value_by (kind_of (row_at ws j).kind) ts (row_at ws j).first (row_at ws j).count
unfolding doc_of
value_in ws ts j h = rw (lt-ltb j (rows_word ws) h)

module _ (ts : List ℕ) (first count : ℕ) where
  pub kind_by : (kind : RowKind) → value_kind (value_by kind ts first count) ≡ kind
  kind_by Null = refl
  kind_by False = refl
  kind_by True = refl
  kind_by Number = refl
  kind_by String = refl
  kind_by Array = refl
  kind_by Object = refl

  pub first_by : (kind : RowKind) → holds_children kind ≡ true → first_child (value_by kind ts first count) ≡ first
  first_by Null h = cc
  first_by False h = cc
  first_by True h = cc
  first_by Number h = cc
  first_by String h = cc
  first_by Array h = refl
  first_by Object h = refl

  pub count_by : (kind : RowKind) → holds_children kind ≡ true → child_count (value_by kind ts first count) ≡ count
  count_by Null h = cc
  count_by False h = cc
  count_by True h = cc
  count_by Number h = cc
  count_by String h = cc
  count_by Array h = refl
  count_by Object h = refl

  -- a kind that can have no children has none
  pub first_none : (kind : RowKind) → holds_children kind ≡ false → first_child (value_by kind ts first count) ≡ 0
  first_none Null h = refl
  first_none False h = refl
  first_none True h = refl
  first_none Number h = refl
  first_none String h = refl
  first_none Array h = cc
  first_none Object h = cc

  pub count_none : (kind : RowKind) → holds_children kind ≡ false → child_count (value_by kind ts first count) ≡ 0
  count_none Null h = refl
  count_none False h = refl
  count_none True h = refl
  count_none Number h = refl
  count_none String h = refl
  count_none Array h = cc
  count_none Object h = cc

  -- a value that is a number has the number's words, within their bounds
  number_by : (kind : RowKind) (size n j : ℕ) (z : ℤ) → content_ok kind size n j first count ≡ true → value_by kind ts first count ≡ number z
      → (billionths (signed first) count ≡ z) × (number_ok first count ≡ true)
  number_by Null size n j z t e = (cc, cc)
  number_by False size n j z t e = (cc, cc)
  number_by True size n j z t e = (cc, cc)
  number_by Number size n j z t e = (cc, t)
  number_by String size n j z t e = (cc, cc)
  number_by Array size n j z t e = (cc, cc)
  number_by Object size n j z t e = (cc, cc)

  -- a value that is a string has its range, within the text
  string_by : (kind : RowKind) (size n j : ℕ) (bytes : List ℕ) → content_ok kind size n j first count ≡ true → value_by kind ts first count ≡ string bytes
      → (part ts (record { start = first; length = count }) ≡ bytes) × (fits size (record { start = first; length = count }) ≡ true)
  string_by Null size n j bytes t e = (cc, cc)
  string_by False size n j bytes t e = (cc, cc)
  string_by True size n j bytes t e = (cc, cc)
  string_by Number size n j bytes t e = (cc, cc)
  string_by String size n j bytes t e = (cc, t)
  string_by Array size n j bytes t e = (cc, cc)
  string_by Object size n j bytes t e = (cc, cc)

module _ (ws : List ℕ) (form : RecordForm) (j : ℕ) (row : Row) (formed : Formed ws form) (h : j < form.rows) (read : row ≡ row_at ws j) where
  pub value_read : (ts : List ℕ) → (doc_of ws ts).value j ≡ value_by (kind_of row.kind) ts row.first row.count
  value_read ts = value_in ws ts j (omega (arith, form_rows ws form formed)) ∙ rw read

  pub kind_read : (ts : List ℕ) → kind_of row.kind ≡ value_kind ((doc_of ws ts).value j)
  kind_read ts = sym (ap value_kind (value_read ts) ∙ kind_by ts row.first row.count (kind_of row.kind))

  pub with_children : holds_children (kind_of row.kind) ≡ true → ChildrenRead ws j (record { first = row.first; count = row.count })
  with_children e =
      record {
        first_is = λ ts. sym (ap first_child (value_read ts) ∙ first_by ts row.first row.count (kind_of row.kind) e);
        count_is = λ ts. sym (ap child_count (value_read ts) ∙ count_by ts row.first row.count (kind_of row.kind) e);
      }

  pub no_children : holds_children (kind_of row.kind) ≡ false → ChildrenRead ws j (record { first = 0; count = 0 })
  no_children e =
      record {
        first_is = λ ts. sym (ap first_child (value_read ts) ∙ first_none ts row.first row.count (kind_of row.kind) e);
        count_is = λ ts. sym (ap child_count (value_read ts) ∙ count_none ts row.first row.count (kind_of row.kind) e);
      }

module _ (ws : List ℕ) (form : RecordForm) (j : ℕ) (row : Row) (laid : Laid ws form) (h : j < form.rows) (read : row ≡ row_at ws j) where
  content : content_ok (kind_of row.kind) (text_word ws) (rows_word ws) j row.first row.count ≡ true
  content =
      rw read
      (right (is_kind (row_at ws j).kind) (content_ok (kind_of (row_at ws j).kind) (text_word ws) (rows_word ws) j (row_at ws j).first (row_at ws j).count)
      (row_facts ws j (laid.rows_ok j h)).fields_fine)

  pub name_read : NameRead ws j row.label
  unfolding doc_of
  name_read = record { name_is = λ ts. rw read; name_fits = rw read (label_fits ws j (laid.rows_ok j h)) }

  as_string : (ts bytes : List ℕ) → (doc_of ws ts).value j ≡ string bytes
      → (part ts (record { start = row.first; length = row.count }) ≡ bytes) × (fits (text_word ws) (record { start = row.first; length = row.count }) ≡ true)
  as_string ts bytes e =
      string_by ts row.first row.count (kind_of row.kind) (text_word ws) (rows_word ws) j bytes content
      (sym (value_read ws form j row laid.formed h read ts) ∙ e)

  pub string_read : StringRead ws j (record { start = row.first; length = row.count })
  string_read = record { string_is = λ ts bytes e. (as_string ts bytes e).0; string_fits = λ ts bytes e. (as_string ts bytes e).1 }

  as_number : (ts : List ℕ) (z : ℤ) → (doc_of ws ts).value j ≡ number z → (billionths (signed row.first) row.count ≡ z) × (number_ok row.first row.count ≡ true)
  as_number ts z e =
      number_by ts row.first row.count (kind_of row.kind) (text_word ws) (rows_word ws) j z content
      (sym (value_read ws form j row laid.formed h read ts) ∙ e)

  within_limits : (d : Decimal) → OfWord row.first row.count d → number_ok row.first row.count ≡ true → Plain d
  within_limits d o t =
      let t1 = leb (nat_abs (signed row.first)) number_max in
      let t2 = leb row.count scale_max in
      let a = leb-true (nat_abs (signed row.first)) number_max (left t1 t2 t) in
      let b = leb-true row.count scale_max (right t1 t2 t) in
      record { small = omega (arith, o.size); few = omega (arith, o.same) }

  pub number_read : (d : Decimal) → OfWord row.first row.count d → NumberRead ws j d
  number_read d o =
      record {
        number_is = λ ts z e. o.means ∙ (as_number ts z e).0;
        number_plain = λ ts z e. within_limits d o (as_number ts z e).1;
      }
