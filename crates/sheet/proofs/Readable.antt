-- Whether a row's name and string are UTF-8, as the code asks it, and what acceptance says of them.
--     string_kind, no_string       a row is a string by its kind's number, or has no bytes
--     bad_name, by_string, fine    what is known of the name, and then of the string, settles the row
--     all_fine                     where every range of the text is UTF-8
--     readable, name_readable      the strings and names of rows that are not at fault
-- Assumes nothing.
use mathlib.Core.Bool.{true, false, not, ◌&&◌}
use mathlib.Core.List.{List, []}
use mathlib.Core.Logic.{⊎_elim}
use mathlib.Core.Path.{◌≡◌, refl, sym, ap, ◌∙◌}
use Prim.Native.Nat.{ℕ, ◌<◌}
use lib.Dec.{eqb}
use lib.ListN.{length}
use borrow.Author.Tests.{eq-eqb, eqb-true, eqb-false, not-false}
use Rattle.laws.proofs.Tests.{decide, left, right}
use Rattle.text.specs.Part.{fits, part}
use Rattle.utf8.specs.Encoding.{none, encode_all, Utf8}
use Rattle.utf8.specs.Automaton.{is_utf8}
use Rattle.reach.specs.Reach.{AllUtf8}
use Rattle.utf8.proofs.Tests.{clash}
use Rattle.utf8.proofs.Meaning.{utf8_is}
use Rattle.sheet.specs.declared.kind.RowKind.{RowKind}
use Rattle.sheet.specs.declared.kind.RowKind.TheVariants.{Null, False, True, Number, String, Array, Object}
use Rattle.sheet.specs.declared.record.Row.{Row}
use Rattle.sheet.specs.declared.record.RecordForm.{RecordForm}
use Rattle.sheet.specs.Kinds.{kind_number, kind_of}
use Rattle.sheet.specs.Doc.{string, string_bytes, Doc}
use Rattle.sheet.specs.Record.{text_word, row_at, value_by, doc_of}
use Rattle.sheet.specs.Faults.{not_utf8}
use Rattle.sheet.specs.Accepted.{Laid}
use Rattle.sheet.proofs.Values.{value_read, name_read, string_read}

pub other : {A : Type 0} (a b : ℕ) → eqb a b ≡ false → a ≡ b → A
other a b f e = absurd (clash (eq-eqb a b e) f)

module _ (ts : List ℕ) (first count : ℕ) where
  pub string_kind : (kind : RowKind) → kind_number kind ≡ kind_number String → value_by kind ts first count ≡ string (part ts (record { start = first; length = count }))
  string_kind Null e = other 0 4 refl e
  string_kind False e = other 1 4 refl e
  string_kind True e = other 2 4 refl e
  string_kind Number e = other 3 4 refl e
  string_kind String e = refl
  string_kind Array e = other 5 4 refl e
  string_kind Object e = other 6 4 refl e

  pub no_string : (kind : RowKind) → (kind_number kind ≡ kind_number String → ⊥) → string_bytes (value_by kind ts first count) ≡ []
  no_string Null n = refl
  no_string False n = refl
  no_string True n = refl
  no_string Number n = refl
  no_string String n = absurd (n refl)
  no_string Array n = refl
  no_string Object n = refl

empty : is_utf8 [] ≡ true
unfolding encode_all
empty = (utf8_is []).1 (record { values = []; scalars = none; encoded = refl })

module _ (ws ts : List ℕ) (form : RecordForm) (laid : Laid ws form) (long : length ts ≡ text_word ws) (j : ℕ) (h : j < form.rows) (row : Row) (read : row ≡ row_at ws j) where
  abbrev d : Doc
  d = doc_of ws ts

  pub label_within : fits (length ts) row.label ≡ true
  label_within = rw long (name_read ws form j row laid h read).name_fits

  name_is : part ts row.label ≡ d.name j
  name_is = (name_read ws form j row laid h read).name_is ts

  value_is : d.value j ≡ value_by (kind_of row.kind) ts row.first row.count
  value_is = value_read ws form j row laid.formed h read ts

  pub bad_name : is_utf8 (part ts row.label) ≡ false → not_utf8 d j ≡ true
  unfolding not_utf8
  bad_name e = rw (sym name_is, e)

  pub fine : is_utf8 (part ts row.label) ≡ true → (kind_number (kind_of row.kind) ≡ kind_number String → ⊥) → not_utf8 d j ≡ false
  unfolding not_utf8
  fine e n =
      let none : string_bytes (d.value j) ≡ [] = ap string_bytes value_is ∙ no_string ts row.first row.count (kind_of row.kind) n in
      rw (sym name_is, e, none, empty)

  module _ (s : kind_number (kind_of row.kind) ≡ kind_number String) where
    bytes_are : d.value j ≡ string (part ts (record { start = row.first; length = row.count }))
    bytes_are = value_is ∙ string_kind ts row.first row.count (kind_of row.kind) s

    pub string_within : fits (length ts) (record { start = row.first; length = row.count }) ≡ true
    string_within = rw long ((string_read ws form j row laid h read).string_fits ts _ bytes_are)

    pub by_string : is_utf8 (part ts row.label) ≡ true → not_utf8 d j ≡ not (is_utf8 (part ts (record { start = row.first; length = row.count })))
    unfolding not_utf8
    by_string e = rw (sym name_is, e, ap string_bytes bytes_are)

  pub all_fine : AllUtf8 ts → not_utf8 d j ≡ false
  all_fine a =
      let name = a.each row.label label_within in
      let number = kind_number (kind_of row.kind) in
      ⊎_elim
      (λ (t : eqb number (kind_number String) ≡ true).
      let s = eqb-true number (kind_number String) t in
      by_string s name ∙ ap not (a.each (record { start = row.first; length = row.count }) (string_within s)))
      (λ (t : eqb number (kind_number String) ≡ false). fine name (eqb-false number (kind_number String) t))
      (decide (eqb number (kind_number String)))

-- ---- rows that are not at fault
module _ (d : Doc) (j : ℕ) (f : not_utf8 d j ≡ false) where
  both : (is_utf8 (d.name j) && is_utf8 (string_bytes (d.value j))) ≡ true
  unfolding not_utf8
  both = not-false (is_utf8 (d.name j) && is_utf8 (string_bytes (d.value j))) f

  pub name_readable : Utf8 (d.name j)
  name_readable = (utf8_is (d.name j)).0 (left (is_utf8 (d.name j)) (is_utf8 (string_bytes (d.value j))) both)

  pub readable : (bytes : List ℕ) → d.value j ≡ string bytes → Utf8 bytes
  readable bytes e =
      (utf8_is bytes).0 (rw (ap string_bytes e) at (right (is_utf8 (d.name j)) (is_utf8 (string_bytes (d.value j))) both))
