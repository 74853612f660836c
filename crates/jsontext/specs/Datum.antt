-- JSON values, with nothing left of how they are spelled in a text: a number is how many billionths it is, a string its bytes in UTF-8. The members of an object
-- stand in the order of the text.
-- Assumes nothing.
use Rattle.std.specs.Prelude.{Bool, List, ℕ, ℤ}

mutual
  pub data Datum : Type 0 where
    null : Datum
    bool : Bool → Datum
    number : ℤ → Datum
    string : List ℕ → Datum
    array : Items → Datum
    object : Fields → Datum

  pub data Items : Type 0 where
    no_item : Items
    item : Datum → Items → Items

  -- of each member its name and its value
  pub data Fields : Type 0 where
    no_field : Fields
    field : List ℕ → Datum → Fields → Fields
