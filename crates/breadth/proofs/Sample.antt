-- One value by computation: {"b": [1.5, "x", {}], "a": {"": "yz"}}. Its rows and its text, and what the two passes write into longer areas.
-- Assumes nothing.
use mathlib.Core.List.{List, [], ◌∷◌, ◌++◌}
use mathlib.Core.Path.{◌≡◌, refl}
use Prim.Native.Nat.{ℕ}
use lib.IntN.{pos}
use lib.ListN.{replicate}
use Rattle.laws.specs.Lowest.{lowest_from}
use Rattle.breadth.specs.Number.{scale_of, size_of, digits_word}
use Rattle.jsontext.specs.Datum.{Datum, number, string, array, object, no_item, item, no_field, field}
use Rattle.breadth.specs.Forest.{tree}
use Rattle.breadth.specs.Breadth.{walk, on, above, breadth}
use Rattle.sheet.specs.declared.kind.RowKind.{RowKind}
use Rattle.sheet.specs.declared.kind.RowKind.TheVariants.{Number, String, Array, Object}
use Rattle.breadth.specs.Sheet.{KindRow, weigh, text_of, owners_from, no_entry, row_for, row_of, rows_from, rows, text}
use Rattle.breadth.specs.Counters.{one, size, bump, after, counted, starts, owner_by, write_rows, write_text}
use Rattle.breadth.specs.Tokens.{tokens, open_row, close_row, tally, begin, run, run_text}

abbrev sample : Datum
sample =
    object
    (field (98 ∷ []) (array (item (number (pos 1_500_000_000)) (item (string (120 ∷ [])) (item (object no_field) no_item))))
    (field (97 ∷ []) (object (field [] (string (121 ∷ 122 ∷ [])) no_field)) no_field))

abbrev line : RowKind → ℕ → ℕ → ℕ → ℕ → ℕ → KindRow
line kind first count owner start size = record { kind = kind; first = first; count = count; owner = owner; label = record { start = start; length = size } }

abbrev sample_rows : List KindRow
sample_rows =
    line Object 1 2 0 0 0
    ∷ line Array 3 3 0 0 1
    ∷ line Object 6 1 0 1 1
    ∷ line Number 15 1 1 0 0
    ∷ line String 2 1 1 0 0
    ∷ line Object 0 0 1 0 0
    ∷ line String 3 2 2 3 0
    ∷ []

abbrev sample_text : List ℕ
sample_text = 98 ∷ 97 ∷ 120 ∷ 121 ∷ 122 ∷ []

rows_sample : rows (tree sample) ≡ sample_rows
unfolding lowest_from scale_of size_of digits_word walk on above breadth weigh text_of owners_from no_entry row_for row_of rows_from rows
rows_sample = refl

text_sample : text (tree sample) ≡ sample_text
unfolding walk on above breadth text_of text
text_sample = refl

pass_sample : write_rows (starts one (walk 0 (tree sample))) (starts size (walk 0 (tree sample))) (walk 0 (tree sample)) (replicate 8 (line Number 9 9 9 9 9)) ≡ sample_rows ++ line Number 9 9 9 9 9 ∷ []
unfolding lowest_from scale_of size_of digits_word walk row_for bump after counted starts owner_by write_rows
pass_sample = refl

text_pass_sample : write_text (starts size (walk 0 (tree sample))) (walk 0 (tree sample)) (replicate 6 0) ≡ sample_text ++ 0 ∷ []
unfolding walk bump after counted starts write_text
text_pass_sample = refl

run_sample : run 0 (begin one (tokens (tree sample))) (begin size (tokens (tree sample))) (tokens (tree sample)) (replicate 8 (line Number 9 9 9 9 9)) ≡ sample_rows ++ line Number 9 9 9 9 9 ∷ []
unfolding lowest_from scale_of size_of digits_word tokens open_row close_row tally begin bump owner_by run
run_sample = refl

text_run_sample : run_text 0 (begin size (tokens (tree sample))) (tokens (tree sample)) (replicate 6 0) ≡ sample_text ++ 0 ∷ []
unfolding tokens tally begin bump run_text
text_run_sample = refl
