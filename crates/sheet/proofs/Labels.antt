-- The labels of neighbouring rows, as names that lie among the words.
--     label_name        their bytes are the rows' names
--     labels_lie        they lie as the search for a repeated name asks
-- Assumes nothing.
use mathlib.Core.Bool.{true}
use mathlib.Core.List.{List}
use mathlib.Core.Path.{◌≡◌, ap}
use Prim.Native.Nat.{ℕ, ◌+◌, ◌*◌, ◌≤◌, ◌<◌}
use native.Mathlib.Omega.{arith}
use lib.ListN.{length}
use Rattle.text.specs.Part.{fits, part}
use Rattle.names.specs.declared.Names.{Names}
use Rattle.names.specs.Names.{range_at, name_at, Lying}
use Rattle.sheet.specs.declared.record.RecordForm.{RecordForm}
use Rattle.sheet.specs.Record.{row_words, text_word, form_of, row_at, doc_of}
use Rattle.sheet.specs.Accepted.{Formed}
use Rattle.sheet.proofs.Trailers.{form_few, row_inside}

module _ (ws ts : List ℕ) (form : RecordForm) (formed : Formed ws form) (first : ℕ) (names : Names)
    (at_base : names.base ≡ form.start + row_words * first + 4) (by : names.stride ≡ row_words)
  where
    label_range : (i : ℕ) → range_at ws names i ≡ (row_at ws (first + i)).label
    unfolding row_at
    label_range i =
        let s = ap (λ (f : RecordForm). f.start) formed.same_form in
        let e : form.start + row_words * first + 4 + row_words * i ≡ (form_of ws).start + row_words * (first + i) + 4 = omega arith in
        let g : form.start + row_words * first + 4 + row_words * i + 1 ≡ (form_of ws).start + row_words * (first + i) + 5 = omega arith in
        rw (at_base, by, g, e)

    pub label_name : (i : ℕ) → name_at ws ts names i ≡ (doc_of ws ts).name (first + i)
    unfolding doc_of
    label_name i = ap (part ts) (label_range i)

    pub labels_lie : length ts ≡ text_word ws → first + names.count ≤ form.rows
        → ((i : ℕ) → i < names.count → fits (text_word ws) (row_at ws (first + i)).label ≡ true) → Lying ws ts names
    labels_lie text within fit =
        record {
          inside = λ (i : ℕ) (l : i < names.count). rw (at_base, by) (omega (arith, row_inside ws form formed (first + i) (omega arith)));
          fitting = λ (i : ℕ) (l : i < names.count). rw (text, label_range i) (fit i l);
          few = omega (arith, form_few ws form formed);
        }
