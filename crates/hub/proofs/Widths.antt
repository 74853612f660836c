-- A JSON text of n values has at least 2n - 1 bytes: one for a value with none in it, and for one with m in it two brackets and m - 1 commas besides theirs. So the areas that
-- the C header says to be enough are: 6n + 4 words (`amphorust_words_for`), and fewer bytes of text than the JSON has (`made_short`).
--     rows_few    the theorem
-- Assumes nothing.
use mathlib.Core.List.{List, [], ◌∷◌}
use Prim.Native.Nat.{ℕ, suc, ◌+◌, ◌*◌, ◌≤◌}
use native.Mathlib.Omega.{arith}
use lib.ListN.{length}
use Rattle.sheet.specs.Kinds.{number_max}
use Rattle.jsontext.specs.Datum.{Datum}
use Rattle.jsontext.specs.Text.{spaces, Value, null, truth, falsity, num, str, empty_array, array, empty_object, object, Elements, last, more, Members, last_m, more_m, value, elements, members, Text, bytes}
use Rattle.jsontext.specs.Value.{value_of, items_of, fields_of}
use Rattle.breadth.specs.Forest.{values, children, items, fields, tree}
use Rattle.breadth.specs.Sheet.{rows}
use Rattle.breadth.proofs.Shape.{rows_counted}
use Rattle.reader.specs.Call.{datum_of}
use Rattle.reader.proofs.Lengths.{decoded_short, spaces_long, value_short}

-- how many values a value has, itself and all in it
abbrev many : Datum → ℕ
many v = suc (values (children v))

mutual
  unfolding value value_of

  pub value_wide : (v : Value) (rest : List ℕ) → 2 * many (value_of number_max v) + length rest ≤ suc (length (value v rest))
  value_wide null rest = omega arith
  value_wide truth rest = omega arith
  value_wide falsity rest = omega arith
  value_wide (num n) rest = omega (arith, value_short (num n) rest)
  value_wide (str s) rest = omega (arith, decoded_short 0 s (0x22 ∷ rest))
  value_wide (empty_array w) rest = omega (arith, spaces_long w (0x5D ∷ rest))
  value_wide (array w vs) rest = omega (arith, spaces_long w (elements vs (0x5D ∷ rest)), elements_wide vs (0x5D ∷ rest))
  value_wide (empty_object w) rest = omega (arith, spaces_long w (0x7D ∷ rest))
  value_wide (object w ms) rest = omega (arith, spaces_long w (members ms (0x7D ∷ rest)), members_wide ms (0x7D ∷ rest))

  pub elements_wide : (vs : Elements) (rest : List ℕ) → 2 * values (items (items_of number_max vs)) + length rest ≤ suc (length (elements vs rest))
  elements_wide (last v w) rest = omega (arith, value_wide v (spaces w rest), spaces_long w rest)
  elements_wide (more v w w' vs) rest =
      let others = elements vs rest in
      omega (arith, value_wide v (spaces w (0x2C ∷ spaces w' others)), spaces_long w (0x2C ∷ spaces w' others), spaces_long w' others, elements_wide vs rest)

  pub members_wide : (ms : Members) (rest : List ℕ) → 2 * values (fields (fields_of number_max ms)) + length rest ≤ suc (length (members ms rest))
  members_wide (last_m s w w' v w'') rest =
      let end = spaces w'' rest in
      let val = value v end in
      let bs = spaces w (0x3A ∷ spaces w' val) in
      omega (arith, decoded_short 0 s (0x22 ∷ bs), spaces_long w (0x3A ∷ spaces w' val), spaces_long w' val, value_wide v end, spaces_long w'' rest)
  members_wide (more_m s w w' v w'' w''' ms) rest =
      let others = members ms rest in
      let end = spaces w'' (0x2C ∷ spaces w''' others) in
      let val = value v end in
      let bs = spaces w (0x3A ∷ spaces w' val) in
      omega (
        arith,
        decoded_short 0 s (0x22 ∷ bs),
        spaces_long w (0x3A ∷ spaces w' val),
        spaces_long w' val,
        value_wide v end,
        spaces_long w'' (0x2C ∷ spaces w''' others),
        spaces_long w''' others,
        members_wide ms rest,
      )

pub rows_few : (t : Text) → 2 * length (rows (tree (datum_of t))) ≤ suc (length (bytes t))
unfolding bytes
rows_few t =
    let end = spaces t.behind [] in
    omega (arith, rows_counted (tree (datum_of t)), value_wide t.root end, spaces_long t.before (value t.root end))
