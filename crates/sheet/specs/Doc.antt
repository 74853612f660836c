-- A record as the rules of judgement see it: of each row its value, its name under its owner and its owner. That sheets are words is forgotten here.
-- Assumes nothing.
use Rattle.std.specs.Prelude.{Bool, true, false, List, [], ◌∷◌, ◌++◌, ℕ, zero, suc, ◌+◌, ◌≤◌, ◌<◌, get_or, ℤ}
use Rattle.sheet.specs.declared.kind.RowKind.{RowKind}
use Rattle.sheet.specs.declared.kind.RowKind.TheVariants.{Null, False, True, Number, String, Array, Object}
use Rattle.sheet.specs.Kinds.{is_object_kind}

-- a row's value: of a number how many billionths it is, of a string its bytes, of an array and an object the first child row and how many there are
pub data Value : Type 0 where
  null : Value
  bool : Bool → Value
  number : ℤ → Value
  string : List ℕ → Value
  array object : ℕ → ℕ → Value

pub record Doc : Type 0 where
  pub value : ℕ → Value
  pub name : ℕ → List ℕ
  pub owner : ℕ → ℕ

abbrev bool_kind : Bool → RowKind
bool_kind true = True
bool_kind false = False

-- the kind of a value
abbrev pub value_kind : Value → RowKind
value_kind null = Null
value_kind (bool b) = bool_kind b
value_kind (number z) = Number
value_kind (string bytes) = String
value_kind (array first count) = Array
value_kind (object first count) = Object

abbrev pub is_object : Value → Bool
is_object v = is_object_kind (value_kind v)

-- the first child and the number of children: 0 and 0 of a value that can have none
abbrev pub first_child : Value → ℕ
first_child null = 0
first_child (bool b) = 0
first_child (number z) = 0
first_child (string bytes) = 0
first_child (array first count) = first
first_child (object first count) = first

abbrev pub child_count : Value → ℕ
child_count null = 0
child_count (bool b) = 0
child_count (number z) = 0
child_count (string bytes) = 0
child_count (array first count) = count
child_count (object first count) = count

-- the bytes of a string; any other value has none
abbrev pub string_bytes : Value → List ℕ
string_bytes null = []
string_bytes (bool b) = []
string_bytes (number z) = []
string_bytes (string bytes) = bytes
string_bytes (array first count) = []
string_bytes (object first count) = []

-- row k is a child of row j
pub record Child (d : Doc) (j k : ℕ) : Type 0 where
  pub after : first_child (d.value j) ≤ k
  pub within : k < first_child (d.value j) + child_count (d.value j)

-- the levels of the first n rows, by the rows' owners: each row is one level below its owner. A row that has not been passed counts as level 0,
-- so the root, which is its own owner, is at level 1
unfoldable pub levels : (ℕ → ℕ) → ℕ → List ℕ
levels owner zero = []
levels owner (suc n) = levels owner n ++ ((get_or (levels owner n) (owner n) 0 + 1) ∷ [])

unfoldable pub level : (ℕ → ℕ) → ℕ → ℕ
level owner j = get_or (levels owner (suc j)) j 0
