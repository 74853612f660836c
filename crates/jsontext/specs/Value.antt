-- The value that a text stands for. An escape gives the same bytes as the character itself would; two escapes that are a pair of surrogates give one character.
-- A lone surrogate's escape is refused (26), and what it is decoded to is no UTF-8, so that it makes no two names the same.
-- Assumes nothing.
use Rattle.std.specs.Prelude.{Bool, true, false, cond, ◌&&◌, ◌||◌, not, List, [], ◌∷◌, ℕ, ◌+◌, ◌-◌, ◌*◌, eqb, leb}
use Rattle.jsontext.specs.Utf8.{encode}
use Rattle.jsontext.specs.Text.{Short, quote, backslash, slash, backspace, form_feed, line_feed, carriage_return, tabulator, Hex, decimal, letter, plain, escape, unit, Str, Value, truth, falsity, num, str, empty_array, empty_object, Elements, last, more, Members, last_m, more_m}
use Rattle.jsontext.specs.Text as T
use Rattle.jsontext.specs.Number.{exact_of, billionths_of}
use Rattle.jsontext.specs.Datum.{Datum, null, bool, number, string, array, object, Items, no_item, item, Fields, no_field, field}

-- ---- strings

-- the characters of the short escapes (RFC 8259, section 7)
abbrev pub short_code : Short → ℕ
short_code quote = 0x22
short_code backslash = 0x5C
short_code slash = 0x2F
short_code backspace = 0x08
short_code form_feed = 0x0C
short_code line_feed = 0x0A
short_code carriage_return = 0x0D
short_code tabulator = 0x09

abbrev pub hex_worth : Hex → ℕ
hex_worth (decimal d) = d.worth
hex_worth (letter l k p) = 10 + k

abbrev pub unit_code : Hex → Hex → Hex → Hex → ℕ
unit_code h i j k = ((hex_worth h * 16 + hex_worth i) * 16 + hex_worth j) * 16 + hex_worth k

abbrev pub is_high : ℕ → Bool
is_high c = leb 0xD800 c && leb c 0xDBFF

abbrev pub is_low : ℕ → Bool
is_low c = leb 0xDC00 c && leb c 0xDFFF

-- an escape of DC00 to DFFF stands here
abbrev pub low_next : Str → Bool
low_next [] = false
low_next (plain c p ∷ ps) = false
low_next (escape m ∷ ps) = false
low_next (unit h i j k ∷ ps) = is_low (unit_code h i j k)

-- the high surrogate that waits for its low one after an escape, or 0: it does if the low one follows directly
abbrev pub waiting : ℕ → Str → ℕ
waiting c ps = cond (is_high c && low_next ps) c 0

-- the escape is of a surrogate that has no other: a high one that no low one follows, or a low one for which none waits
abbrev pub is_lone : ℕ → ℕ → Str → Bool
is_lone w c ps = (is_high c && not (low_next ps)) || (is_low c && eqb w 0)

-- the character of a low surrogate for which w waits, or else of the escape by itself
abbrev pub joined : ℕ → ℕ → ℕ
joined w c = cond (eqb w 0) c (0x10000 + (w - 0xD800) * 0x400 + (c - 0xDC00))

-- the bytes of a string, where w waits
unfoldable pub decoded_after : ℕ → Str → List ℕ
decoded_after w [] = []
decoded_after w (plain c p ∷ ps) = encode c (decoded_after 0 ps)
decoded_after w (escape m ∷ ps) = encode (short_code m) (decoded_after 0 ps)
decoded_after w (unit h i j k ∷ ps) =
    let c = unit_code h i j k in
    cond (is_high c && low_next ps) (decoded_after c ps) (encode (joined w c) (decoded_after 0 ps))

abbrev pub decoded : Str → List ℕ
decoded s = decoded_after 0 s

-- ---- values; numbers that are too wide for `most` count 0

unfoldable mutual
  pub value_of : ℕ → Value → Datum
  value_of most T.null = null
  value_of most truth = bool true
  value_of most falsity = bool false
  value_of most (num n) = number (billionths_of most (exact_of n))
  value_of most (str s) = string (decoded s)
  value_of most (empty_array w) = array no_item
  value_of most (T.array w vs) = array (items_of most vs)
  value_of most (empty_object w) = object no_field
  value_of most (T.object w ms) = object (fields_of most ms)

  pub items_of : ℕ → Elements → Items
  items_of most (last v w) = item (value_of most v) no_item
  items_of most (more v w w' vs) = item (value_of most v) (items_of most vs)

  pub fields_of : ℕ → Members → Fields
  fields_of most (last_m s w w' v w'') = field (decoded s) (value_of most v) no_field
  fields_of most (more_m s w w' v w'' w''' ms) = field (decoded s) (value_of most v) (fields_of most ms)
