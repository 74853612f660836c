-- The rows and the text of a list of entries, by the row's number.
-- Assumes nothing.
use Rattle.std.specs.Prelude.{Bool, true, false, List, [], ◌∷◌, ◌++◌, ℕ, zero, suc, ◌+◌, length, get_or, take, replicate}
use Rattle.text.specs.declared.Range.{Range}
use Rattle.sheet.specs.declared.kind.RowKind.{RowKind}
use Rattle.sheet.specs.declared.kind.RowKind.TheVariants.{Null, False, True, Number, String, Array, Object}
use Rattle.breadth.specs.Forest.{Label, bare, named, Head, a_null, a_bool, a_number, a_string, an_array, an_object, Forest}
use Rattle.breadth.specs.Breadth.{Entry, breadth}

-- a row of a record sheet, its kind not yet a number
pub record KindRow : Type 0 where
  pub kind : RowKind
  pub first : ℕ
  pub count : ℕ
  pub owner : ℕ
  pub label : Range

-- ---- the text: row by row the label, then the string

abbrev pub label_bytes : Label → List ℕ
label_bytes bare = []
label_bytes (named bs) = bs

abbrev pub string_bytes : Head → List ℕ
string_bytes a_null = []
string_bytes (a_bool b) = []
string_bytes (a_number d s) = []
string_bytes (a_string bs) = bs
string_bytes an_array = []
string_bytes an_object = []

abbrev pub bytes_of : Entry → List ℕ
bytes_of e = label_bytes e.label ++ string_bytes e.head

unfoldable pub text_of : List Entry → List ℕ
text_of [] = []
text_of (e ∷ es) = bytes_of e ++ text_of es

-- ---- what a row's place in the list says

-- a sum over entries
unfoldable pub weigh : (Entry → ℕ) → List Entry → ℕ
weigh w [] = 0
weigh w (e ∷ es) = w e + weigh w es

abbrev pub count_of : Entry → ℕ
count_of e = e.count

-- the children's rows follow one another in the order of their owners, from row 1 on
abbrev pub first_one_of : List Entry → ℕ → ℕ
first_one_of es r = 1 + weigh count_of (take r es)

-- each row from number i on, once for each of its children
unfoldable pub owners_from : ℕ → List Entry → List ℕ
owners_from i [] = []
owners_from i (e ∷ es) = replicate e.count i ++ owners_from (suc i) es

abbrev pub owners : List Entry → List ℕ
owners es = 0 ∷ owners_from 0 es

abbrev pub owner_of : List Entry → ℕ → ℕ
owner_of es r = get_or (owners es) r 0

-- where the row's bytes start in the text
abbrev pub start_of : List Entry → ℕ → ℕ
start_of es r = length (text_of (take r es))

-- ---- the row

abbrev bool_kind : Bool → RowKind
bool_kind true = True
bool_kind false = False

abbrev pub head_kind : Head → RowKind
head_kind a_null = Null
head_kind (a_bool b) = bool_kind b
head_kind (a_number d s) = Number
head_kind (a_string bs) = String
head_kind an_array = Array
head_kind an_object = Object

-- an empty container's first child is 0
abbrev pub first_or_none : ℕ → ℕ → ℕ
first_or_none zero first = 0
first_or_none (suc n) first = first

abbrev pub first_word : Head → ℕ → ℕ → ℕ → ℕ
first_word a_null count first start = 0
first_word (a_bool b) count first start = 0
first_word (a_number d s) count first start = d
first_word (a_string bs) count first start = start
first_word an_array count first start = first_or_none count first
first_word an_object count first start = first_or_none count first

abbrev pub count_word : Head → ℕ → ℕ
count_word a_null count = 0
count_word (a_bool b) count = 0
count_word (a_number d s) count = s
count_word (a_string bs) count = length bs
count_word an_array count = count
count_word an_object count = count

abbrev pub label_range : Label → ℕ → Range
label_range bare start = record { start = 0; length = 0 }
label_range (named bs) start = record { start = start; length = length bs }

-- the row of an entry whose first child, owner and bytes stand there
unfoldable pub row_for : Entry → ℕ → ℕ → ℕ → KindRow
row_for e first owner start =
    record {
      kind = head_kind e.head;
      first = first_word e.head e.count first (start + length (label_bytes e.label));
      count = count_word e.head e.count;
      owner = owner;
      label = label_range e.label start;
    }

unfoldable pub no_entry : Entry
no_entry = record { label = bare; head = a_null; count = 0 }

-- row r
unfoldable pub row_of : List Entry → ℕ → KindRow
row_of es r = row_for (get_or es r no_entry) (first_one_of es r) (owner_of es r) (start_of es r)

-- the rows from number i on, as many as there are entries left
unfoldable pub rows_from : List Entry → ℕ → ℕ → List KindRow
rows_from es i zero = []
rows_from es i (suc n) = row_of es i ∷ rows_from es (suc i) n

unfoldable pub rows : Forest → List KindRow
rows f = rows_from (breadth f) 0 (length (breadth f))

unfoldable pub text : Forest → List ℕ
text f = text_of (breadth f)
