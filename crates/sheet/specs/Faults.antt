-- Refusals 1 to 4 and 13 of a record sheet (paper 01, "Record sheet" and "Refusal table"; request #102 for 13, which is asked after 3 and before 4).
-- Assumes nothing.
use Rattle.std.specs.Prelude.{Bool, false, cond, not, ◌&&◌, ◌||◌, List, [], ◌∷◌, ℕ, ◌+◌, ◌-◌, ◌*◌, eqb, leb, ltb, length}
use Rattle.text.specs.declared.Range.{Range}
use Rattle.text.specs.Part.{fits}
use Rattle.utf8.specs.Automaton.{is_utf8}
use Rattle.names.specs.Names.{repeats_by}
use Rattle.sheet.specs.declared.kind.RowKind.{RowKind}
use Rattle.sheet.specs.declared.kind.RowKind.TheVariants.{Null, False, True, Number, String, Array, Object}
use Rattle.sheet.specs.declared.record.Row.{Row}
use Rattle.laws.specs.Lowest.{lowest_from}
use Rattle.sheet.specs.Kinds.{is_kind, kind_of, holds_children, number_ok}
use Rattle.sheet.specs.Refusals.{Outcome, Line, lowest_line, first_line}
use Rattle.sheet.specs.Doc.{Doc, is_object, first_child, string_bytes, level}
use Rattle.sheet.specs.Record.{trailer_words, row_words, record_kind, rows_max, rows_word, back_word, text_word, kind_word, row_at, owner_at, doc_of}

-- ---- 1: the trailer

abbrev pub text_max : ℕ
text_max = 65_535

-- the trailer's words fit each other and a sheet of `size` words; sums and products are exact
abbrev pub trailer_fits : ℕ → ℕ → ℕ → ℕ → Bool
trailer_fits size rows back kind =
    eqb kind record_kind && (leb 1 rows && (leb rows rows_max && (eqb back (row_words * rows) && leb (back + trailer_words) size)))

unfoldable pub words_ok : List ℕ → Bool
words_ok ws = leb trailer_words (length ws) && trailer_fits (length ws) (rows_word ws) (back_word ws) (kind_word ws)

-- the text has the length that the trailer says, and is not too long
abbrev pub text_ok : List ℕ → ℕ → Bool
text_ok ws size = eqb (text_word ws) size && leb size text_max

-- ---- 2: a row

-- both numbers are 0
abbrev pub none : ℕ → ℕ → Bool
none a b = eqb a 0 && eqb b 0

-- i is one of the `count` numbers from `first` on
abbrev pub in_range : ℕ → ℕ → ℕ → Bool
in_range first count i = leb first i && ltb i (first + count)

-- the children of row j of n rows: none, written 0 and 0, or rows that stand after it
abbrev pub children_ok : ℕ → ℕ → ℕ → ℕ → Bool
children_ok n j first count = none first count || (ltb 0 count && (ltb j first && leb (first + count) n))

-- what a row of kinds 0 to 4 may hold, over a text of `size` bytes
abbrev pub scalar_ok : RowKind → ℕ → ℕ → ℕ → Bool
scalar_ok Null size first count = none first count
scalar_ok False size first count = none first count
scalar_ok True size first count = none first count
scalar_ok Number size first count = number_ok first count
scalar_ok String size first count = fits size (record { start = first; length = count })
scalar_ok Array size first count = false
scalar_ok Object size first count = false

-- what a row of any kind may hold
abbrev pub content_ok : RowKind → ℕ → ℕ → ℕ → ℕ → ℕ → Bool
content_ok kind size n j first count = cond (holds_children kind) (children_ok n j first count) (scalar_ok kind size first count)

-- the label of a child of such an owner: a name within the text under an object, none under an array; nothing else has children
abbrev pub label_ok : RowKind → ℕ → Range → Bool
label_ok Null size label = false
label_ok False size label = false
label_ok True size label = false
label_ok Number size label = false
label_ok String size label = false
label_ok Array size label = none label.start label.length
label_ok Object size label = fits size label

-- row j lies in the range of the owner it names
abbrev pub placed_under : Row → ℕ → ℕ → Range → Bool
placed_under owner j size label = label_ok (kind_of owner.kind) size label && in_range owner.first owner.count j

-- the lowest row of a range that names another owner than j, or the range's end
abbrev pub stranger : List ℕ → ℕ → ℕ → ℕ → ℕ
stranger ws j first count = lowest_from (λ k. not (eqb (owner_at ws k) j)) count first

-- the rows in the range of row j, if it can have children, name it as their owner
unfoldable pub owns_ok : List ℕ → ℕ → Row → Bool
owns_ok ws j row =
    not (holds_children (kind_of row.kind)) || eqb (stranger ws j row.first row.count) (row.first + row.count)

-- the row's kind is one of 01's, and its fields are what the kind may hold
abbrev pub fields_ok : ℕ → ℕ → ℕ → Row → Bool
fields_ok size n j row = is_kind row.kind && content_ok (kind_of row.kind) size n j row.first row.count

-- the root names itself and has no label
abbrev pub root_ok : Row → Bool
root_ok row = eqb row.owner 0 && none row.label.start row.label.length

-- every other row names one of the rows, and lies in its range
unfoldable pub place_ok : List ℕ → ℕ → Row → Bool
place_ok ws j row =
    cond (eqb j 0) (root_ok row)
    (ltb row.owner (rows_word ws) && placed_under (row_at ws row.owner) j (text_word ws) row.label)

unfoldable pub row_ok : List ℕ → ℕ → Bool
row_ok ws j =
    let row = row_at ws j in
    fields_ok (text_word ws) (rows_word ws) j row && (place_ok ws j row && owns_ok ws j row)

abbrev pub at_fault : List ℕ → ℕ → Bool
at_fault ws j = not (row_ok ws j)

-- ---- 3: a name that an earlier sibling has

-- an earlier child of the same object has row j's name
unfoldable pub repeated : Doc → ℕ → Bool
repeated d j =
    let siblings = d.value (d.owner j) in
    is_object siblings && repeats_by (λ i. d.name (first_child siblings + i)) (j - first_child siblings)

-- ---- 13: a text range that is not UTF-8

-- the row's name or, of a string, its bytes are not
unfoldable pub not_utf8 : Doc → ℕ → Bool
not_utf8 d j = not (is_utf8 (d.name j) && is_utf8 (string_bytes (d.value j)))

-- ---- 4: a row too deep

-- the first level that is refused
abbrev pub level_refused : ℕ
level_refused = 33

abbrev pub too_deep : List ℕ → ℕ → Bool
too_deep ws j = eqb (level (owner_at ws) j) level_refused

-- ---- the table

abbrev pub record_lines : List ℕ → List ℕ → List Line
record_lines ws ts =
    record { number = 1; applies = not (words_ok ws && text_ok ws (length ts)); place = 0 }
    ∷ lowest_line 2 0 (rows_word ws) (at_fault ws)
    ∷ lowest_line 3 0 (rows_word ws) (repeated (doc_of ws ts))
    ∷ lowest_line 13 0 (rows_word ws) (not_utf8 (doc_of ws ts))
    ∷ lowest_line 4 0 (rows_word ws) (too_deep ws)
    ∷ []

-- what the record check gives
unfoldable pub record_outcome : List ℕ → List ℕ → Outcome
record_outcome ws ts = first_line (record_lines ws ts) (rows_word ws)
