-- The first pass over a JSON text, as far as it counts (02, #101): for each level how many values start on it, and how many bytes of text its labels and strings
-- take. What is kept is moved on by each byte beside the automaton (`along`); the root is on level 0.
-- Assumes nothing.
use Rattle.std.specs.Prelude.{Bool, false, cond, ◌&&◌, List, ℕ, ◌+◌, ◌*◌, ◌%◌, eqb, ltb, length, get_or, set, replicate}
use Rattle.jsontext.specs.Value.{is_high, is_low}
use Rattle.jsontext.specs.Automaton.{Left, hex1, hex2, hex3, hex4, Place, ahead, first_element, after, name, first_name, colon, word, minus, nought, whole, point, part, letter, sign, power, text, escape, unit, char}
use Rattle.jsontext.specs.Along.{Act}
use Rattle.escapes.specs.Escapes.{hex_at, encoded_size}
use Rattle.tally.specs.declared.Units.{Units}

-- how many levels are counted
abbrev pub levels : ℕ
levels = 32

-- the digits of the escape under way; whether a high surrogate's escape stands directly before; the counters of values and of bytes
pub record Tally : Type 0 where
  pub code : ℕ
  pub high : Bool
  pub values : List ℕ
  pub texts : List ℕ

-- the same, as the code has it
abbrev pub tally_of : Units → List ℕ → List ℕ → Tally
tally_of u values texts = record { code = u.code; high = u.high; values = values; texts = texts }

abbrev pub no_tally : Tally
no_tally = record { code = 0; high = false; values = replicate levels 0; texts = replicate levels 0 }

unfoldable pub add_at : ℕ → ℕ → List ℕ → List ℕ
add_at k n xs = set xs k (get_or xs k 0 + n)

-- a value starts on level k
abbrev pub value_more : ℕ → Tally → Tally
value_more k s = record { code = 0; high = false; values = add_at k 1 s.values; texts = s.texts }

-- a name starts
abbrev pub name_more : Tally → Tally
name_more s = record { code = 0; high = false; values = s.values; texts = s.texts }

-- n bytes more on level k
abbrev pub bytes_more : ℕ → ℕ → Bool → Tally → Tally
bytes_more k n high s = record { code = s.code; high = high; values = s.values; texts = add_at k n s.texts }

abbrev pub with_code : ℕ → Tally → Tally
with_code c s = record { code = c; high = s.high; values = s.values; texts = s.texts }

-- the bytes of an escape: a high surrogate is taken for three, as it would be if it were lone, and the low one behind it for the fourth
abbrev pub unit_size : Bool → ℕ → ℕ
unit_size high c = cond (high && is_low c) 1 (encoded_size c)

abbrev pub hex_counted : Left → ℕ → ℕ → Tally → Tally
hex_counted hex4 k b s = with_code (s.code % 0x1000 * 16 + hex_at b) s
hex_counted hex3 k b s = with_code (s.code % 0x1000 * 16 + hex_at b) s
hex_counted hex2 k b s = with_code (s.code % 0x1000 * 16 + hex_at b) s
hex_counted hex1 k b s = let c = s.code % 0x1000 * 16 + hex_at b in bytes_more k (unit_size s.high c) (is_high c) s

-- a byte, with k brackets open
abbrev pub counting : Place → ℕ → ℕ → Tally → Tally
counting ahead k b s = cond (ltb 0x20 b) (value_more k s) s
counting first_element k b s = cond (eqb b 0x5D) s (cond (ltb 0x20 b) (value_more k s) s)
counting after k b s = s
counting name k b s = cond (ltb 0x20 b) (name_more s) s
counting first_name k b s = cond (ltb 0x20 b) (cond (eqb b 0x7D) s (name_more s)) s
counting colon k b s = s
counting (word w) k b s = s
counting minus k b s = s
counting nought k b s = s
counting whole k b s = s
counting point k b s = s
counting part k b s = s
counting letter k b s = s
counting sign k b s = s
counting power k b s = s
counting (text r) k b s = cond (eqb b 0x5C) (with_code 0 s) (cond (eqb b 0x22) s (bytes_more k 1 false s))
counting (escape r) k b s = cond (eqb b 0x75) s (bytes_more k 1 false s)
counting (unit h r) k b s = hex_counted h k b s
counting (char c r) k b s = bytes_more k 1 s.high s

unfoldable pub tallying : Act Tally
tallying p ks b bs s = counting p (length ks) b s
