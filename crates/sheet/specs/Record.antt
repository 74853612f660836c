-- The record sheet (paper 01, "Record sheet"): the trailer is the last 4 words, the rows stand before it, 6 words each, and the words before row 0 change nothing.
-- Assumes nothing.
use Rattle.std.specs.Prelude.{true, false, cond, List, ℕ, ◌+◌, ◌-◌, ◌*◌, ltb, length, get_or}
use Rattle.decimal.specs.Value.{signed, billionths}
use Rattle.text.specs.Part.{part}
use Rattle.sheet.specs.declared.kind.RowKind.{RowKind}
use Rattle.sheet.specs.declared.kind.RowKind.TheVariants.{Null, False, True, Number, String, Array, Object}
use Rattle.sheet.specs.declared.record.Row.{Row}
use Rattle.sheet.specs.declared.record.RecordForm.{RecordForm}
use Rattle.sheet.specs.Kinds.{kind_of}
use Rattle.sheet.specs.Doc.{Value, null, bool, number, string, array, object, Doc}

abbrev pub trailer_words : ℕ
trailer_words = 4

abbrev pub row_words : ℕ
row_words = 6

abbrev pub record_kind : ℕ
record_kind = 1

abbrev pub rows_max : ℕ
rows_max = 1_024

-- ---- the trailer, by name

-- the word that stands `back` words before the end
abbrev pub from_end : List ℕ → ℕ → ℕ
from_end ws back = get_or ws (length ws - back) 0

abbrev pub rows_word : List ℕ → ℕ
rows_word ws = from_end ws 4

abbrev pub back_word : List ℕ → ℕ
back_word ws = from_end ws 3

abbrev pub text_word : List ℕ → ℕ
text_word ws = from_end ws 2

abbrev pub kind_word : List ℕ → ℕ
kind_word ws = from_end ws 1

-- where row 0 starts and how many rows there are
unfoldable pub form_of : List ℕ → RecordForm
form_of ws = record { start = length ws - trailer_words - back_word ws; rows = rows_word ws }

-- ---- the rows

-- word i of row j
abbrev pub word_at : List ℕ → ℕ → ℕ → ℕ
word_at ws j i = get_or ws ((form_of ws).start + row_words * j + i) 0

-- row j, its words by name
unfoldable pub row_at : List ℕ → ℕ → Row
row_at ws j =
    record {
      kind = word_at ws j 0;
      first = word_at ws j 1;
      count = word_at ws j 2;
      owner = word_at ws j 3;
      label = record { start = word_at ws j 4; length = word_at ws j 5 };
    }

abbrev pub owner_at : List ℕ → ℕ → ℕ
owner_at ws j = (row_at ws j).owner

-- the value that a kind, a first and a count stand for over a text
abbrev pub value_by : RowKind → List ℕ → ℕ → ℕ → Value
value_by Null ts first count = null
value_by False ts first count = bool false
value_by True ts first count = bool true
value_by Number ts first count = number (billionths (signed first) count)
value_by String ts first count = string (part ts (record { start = first; length = count }))
value_by Array ts first count = array first count
value_by Object ts first count = object first count

-- the record that the words and the text stand for; past the rows there are nulls
unfoldable pub doc_of : List ℕ → List ℕ → Doc
doc_of ws ts =
    record {
      value = λ j. let row = row_at ws j in cond (ltb j (rows_word ws)) (value_by (kind_of row.kind) ts row.first row.count) null;
      name = λ j. part ts (row_at ws j).label;
      owner = owner_at ws;
    }
