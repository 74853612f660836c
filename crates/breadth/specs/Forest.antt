-- A JSON value as a forest: of each value its label, what it is by itself, its children and the siblings after it.
-- Assumes nothing.
use Rattle.std.specs.Prelude.{Bool, List, ℕ, suc, ◌+◌}
use Rattle.jsontext.specs.Datum.{Datum, null, bool, number, string, array, object, Items, no_item, item, Fields, no_field, field}
use Rattle.breadth.specs.Number.{digits_word, scale_of}

-- a value's name in an object; the root and an array's children have none
pub data Label : Type 0 where
  bare : Label
  named : List ℕ → Label

-- a value without its children; a number is its two words, digits and scale
pub data Head : Type 0 where
  a_null : Head
  a_bool : Bool → Head
  a_number : ℕ → ℕ → Head
  a_string : List ℕ → Head
  an_array an_object : Head

pub data Forest : Type 0 where
  empty : Forest
  node : Label → Head → Forest → Forest → Forest

-- how many trees a forest has
abbrev pub trees : Forest → ℕ
trees empty = 0
trees (node l h c s) = suc (trees s)

-- how many values
abbrev pub values : Forest → ℕ
values empty = 0
values (node l h c s) = suc (values c + values s)

abbrev pub head_of : Datum → Head
head_of null = a_null
head_of (bool b) = a_bool b
head_of (number z) = a_number (digits_word z) (scale_of z)
head_of (string bs) = a_string bs
head_of (array vs) = an_array
head_of (object ms) = an_object

abbrev mutual
  pub children : Datum → Forest
  children null = empty
  children (bool b) = empty
  children (number z) = empty
  children (string bs) = empty
  children (array vs) = items vs
  children (object ms) = fields ms

  pub items : Items → Forest
  items no_item = empty
  items (item v vs) = node bare (head_of v) (children v) (items vs)

  pub fields : Fields → Forest
  fields no_field = empty
  fields (field n v ms) = node (named n) (head_of v) (children v) (fields ms)

abbrev pub tree : Datum → Forest
tree v = node bare (head_of v) (children v) empty
