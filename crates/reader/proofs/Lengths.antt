-- The text that is made is shorter than the JSON text: every string is at least as long where it is written, and stands between quotes.
--     made_short    the theorem
--     value_short, elements_short, members_short    of each part
-- Assumes nothing.
use mathlib.Core.Bool.{Bool, true, false, cond, ◌&&◌}
use mathlib.Core.List.{List, [], ◌∷◌}
use mathlib.Core.Logic.{⊎_elim}
use mathlib.Core.Option.{none, some}
use mathlib.Core.Path.{◌≡◌, sym, ◌∙◌}
use Prim.Native.Nat.{ℕ, ◌+◌, ◌≤◌, ◌<◌}
use native.Mathlib.Omega.{arith}
use lib.ListN.{length, length-append}
use Rattle.laws.proofs.Tests.{le_or_lt}
use Rattle.sheet.specs.Kinds.{number_max}
use Rattle.jsontext.specs.Datum.{Datum}
use Rattle.jsontext.specs.Utf8.{encode}
use Rattle.jsontext.specs.Text.{Space, spaces, Digit, digits, digits1, Whole, nought, from, whole, Fraction, fraction, Sign, unsigned, plus, minus, signed, Exponent, exponent, Number, minus_if, number, Short, quote, backslash, slash, backspace, form_feed, line_feed, carriage_return, tabulator, plain, escape, unit, Str, pieces, Value, null, truth, falsity, num, str, empty_array, array, empty_object, object, Elements, last, more, Members, last_m, more_m, value, elements, members, Text, bytes}
use Rattle.jsontext.specs.Value.{short_code, unit_code, is_high, low_next, joined, decoded_after, decoded, value_of, items_of, fields_of}
use Rattle.jsontext.proofs.Strings.{encode_1, encode_2, encode_3, encode_4}
use Rattle.breadth.specs.Forest.{Forest, head_of, children, items, fields, tree}
use Rattle.breadth.specs.Breadth.{breadth, depth}
use Rattle.breadth.specs.Sheet.{string_bytes, text}
use Rattle.breadth.specs.Counters.{size}
use Rattle.breadth.proofs.Lists.{weigh_size}
use Rattle.breadth.proofs.Walks.{total, high_all}
use Rattle.reader.specs.Call.{datum_of, text_made}

-- ---- strings

encode_most : (c : ℕ) (bs : List ℕ) → length (encode c bs) ≤ 4 + length bs
encode_most c bs =
    ⊎_elim
    (λ (l : 0x80 ≤ c).
    ⊎_elim
    (λ (m : 0x800 ≤ c). ⊎_elim (λ (n : 0x10000 ≤ c). rw (encode_4 c bs n) (omega arith)) (λ (n : c < 0x10000). rw (encode_3 c bs m n) (omega arith)) (le_or_lt 0x10000 c))
    (λ (m : c < 0x800). rw (encode_2 c bs l m) (omega arith))
    (le_or_lt 0x800 c))
    (λ (l : c < 0x80). rw (encode_1 c bs l) (omega arith))
    (le_or_lt 0x80 c)

-- the same character before two lists
encode_rise : (c : ℕ) (xs bs : List ℕ) (d : ℕ) → length xs + d ≤ length bs → length (encode c xs) + d ≤ length (encode c bs)
encode_rise c xs bs d h =
    ⊎_elim
    (λ (l : 0x80 ≤ c).
    ⊎_elim
    (λ (m : 0x800 ≤ c). ⊎_elim (λ (n : 0x10000 ≤ c). rw (encode_4 c xs n, encode_4 c bs n) (omega arith)) (λ (n : c < 0x10000). rw (encode_3 c xs m n, encode_3 c bs m n) (omega arith)) (le_or_lt 0x10000 c))
    (λ (m : c < 0x800). rw (encode_2 c xs l m, encode_2 c bs l m) (omega arith))
    (le_or_lt 0x800 c))
    (λ (l : c < 0x80). rw (encode_1 c xs l, encode_1 c bs l) (omega arith))
    (le_or_lt 0x80 c)

short_ascii : (m : Short) → short_code m < 0x80
short_ascii quote = omega arith
short_ascii backslash = omega arith
short_ascii slash = omega arith
short_ascii backspace = omega arith
short_ascii form_feed = omega arith
short_ascii line_feed = omega arith
short_ascii carriage_return = omega arith
short_ascii tabulator = omega arith

pub decoded_short : (w : ℕ) (s : Str) (rest : List ℕ) → length (decoded_after w s) + length rest ≤ length (pieces s rest)
unfolding decoded_after pieces
decoded_short w [] rest = omega arith
decoded_short w (plain c p ∷ ps) rest = encode_rise c (decoded_after 0 ps) (pieces ps rest) (length rest) (decoded_short 0 ps rest)
decoded_short w (escape m ∷ ps) rest = rw (encode_1 (short_code m) (decoded_after 0 ps) (short_ascii m)) (omega (arith, decoded_short 0 ps rest))
decoded_short w (unit h i j k ∷ ps) rest =
    omega (arith, go (is_high c && low_next ps) (decoded_short c ps rest) (decoded_short 0 ps rest))
  where
    c : ℕ
    c = unit_code h i j k

    go : (b : Bool)
        → length (decoded_after c ps) + length rest ≤ length (pieces ps rest)
        → length (decoded_after 0 ps) + length rest ≤ length (pieces ps rest)
        → length (cond b (decoded_after c ps) (encode (joined w c) (decoded_after 0 ps))) + length rest ≤ 6 + length (pieces ps rest)
    go true p q = omega arith
    go false p q = omega (arith, encode_most (joined w c) (decoded_after 0 ps))

-- ---- white space and numbers take no less than nothing

pub spaces_long : (w : Space) (bs : List ℕ) → length bs ≤ length (spaces w bs)
unfolding spaces
spaces_long [] bs = omega arith
spaces_long (c ∷ w) bs = omega (arith, spaces_long w bs)

digits_long : (ds : List Digit) (bs : List ℕ) → length bs ≤ length (digits ds bs)
unfolding digits
digits_long [] bs = omega arith
digits_long (d ∷ ds) bs = omega (arith, digits_long ds bs)

signed_long : (s : Sign) (bs : List ℕ) → length bs ≤ length (signed s bs)
signed_long unsigned bs = omega arith
signed_long plus bs = omega arith
signed_long minus bs = omega arith

exponent_long : (x : Exponent) (bs : List ℕ) → length bs ≤ length (exponent x bs)
exponent_long none bs = omega arith
exponent_long (some e) bs = omega (arith, signed_long e.sign (digits1 e.places bs), digits_long e.places.others bs)

fraction_long : (f : Fraction) (bs : List ℕ) → length bs ≤ length (fraction f bs)
fraction_long none bs = omega arith
fraction_long (some ds) bs = omega (arith, digits_long ds.others bs)

whole_long : (i : Whole) (bs : List ℕ) → length bs < length (whole i bs)
whole_long nought bs = omega arith
whole_long (from d p ds) bs = omega (arith, digits_long ds bs)

minus_long : (b : Bool) (bs : List ℕ) → length bs ≤ length (minus_if b bs)
minus_long true bs = omega arith
minus_long false bs = omega arith

number_long : (n : Number) (bs : List ℕ) → length bs < length (number n bs)
number_long n bs =
    let x = exponent n.power bs in
    let f = fraction n.part x in
    let i = whole n.integer f in
    omega (arith, exponent_long n.power bs, fraction_long n.part x, whole_long n.integer f, minus_long n.negative i)

-- ---- values

-- how many bytes of text a value makes, its name left out
abbrev makes : Datum → ℕ
makes v = length (string_bytes (head_of v)) + total size (children v)

mutual
  unfolding value value_of

  pub value_short : (v : Value) (rest : List ℕ) → makes (value_of number_max v) + length rest < length (value v rest)
  value_short null rest = omega arith
  value_short truth rest = omega arith
  value_short falsity rest = omega arith
  value_short (num n) rest = omega (arith, number_long n rest)
  value_short (str s) rest = omega (arith, decoded_short 0 s (0x22 ∷ rest))
  value_short (empty_array w) rest = omega (arith, spaces_long w (0x5D ∷ rest))
  value_short (array w vs) rest = omega (arith, spaces_long w (elements vs (0x5D ∷ rest)), elements_short vs (0x5D ∷ rest))
  value_short (empty_object w) rest = omega (arith, spaces_long w (0x7D ∷ rest))
  value_short (object w ms) rest = omega (arith, spaces_long w (members ms (0x7D ∷ rest)), members_short ms (0x7D ∷ rest))

  pub elements_short : (vs : Elements) (rest : List ℕ) → total size (items (items_of number_max vs)) + length rest ≤ length (elements vs rest)
  elements_short (last v w) rest = omega (arith, value_short v (spaces w rest), spaces_long w rest)
  elements_short (more v w w' vs) rest =
      let others = elements vs rest in
      omega (arith, value_short v (spaces w (0x2C ∷ spaces w' others)), spaces_long w (0x2C ∷ spaces w' others), spaces_long w' others, elements_short vs rest)

  pub members_short : (ms : Members) (rest : List ℕ) → total size (fields (fields_of number_max ms)) + length rest ≤ length (members ms rest)
  members_short (last_m s w w' v w'') rest =
      let end = spaces w'' rest in
      let val = value v end in
      let bs = spaces w (0x3A ∷ spaces w' val) in
      omega (
        arith,
        length-append (decoded s) (string_bytes (head_of (value_of number_max v))),
        decoded_short 0 s (0x22 ∷ bs),
        spaces_long w (0x3A ∷ spaces w' val),
        spaces_long w' val,
        value_short v end,
        spaces_long w'' rest,
      )
  members_short (more_m s w w' v w'' w''' ms) rest =
      let others = members ms rest in
      let end = spaces w'' (0x2C ∷ spaces w''' others) in
      let val = value v end in
      let bs = spaces w (0x3A ∷ spaces w' val) in
      omega (
        arith,
        length-append (decoded s) (string_bytes (head_of (value_of number_max v))),
        decoded_short 0 s (0x22 ∷ bs),
        spaces_long w (0x3A ∷ spaces w' val),
        spaces_long w' val,
        value_short v end,
        spaces_long w'' (0x2C ∷ spaces w''' others),
        spaces_long w''' others,
        members_short ms rest,
      )

text_total : (f : Forest) → length (text f) ≡ total size f
unfolding text breadth
text_total f = sym (weigh_size (breadth f)) ∙ high_all size f 0 (depth f) (omega arith)

pub made_short : (t : Text) → length (text_made t) < length (bytes t)
unfolding bytes
made_short t =
    let end = spaces t.behind [] in
    omega (arith, text_total (tree (datum_of t)), value_short t.root end, spaces_long t.before (value t.root end))
