-- Escapes that are read are those of the text.
--     hex_read         a hexadecimal digit's byte gives what it is worth, and is one that may be asked
--     size_is          a character takes as many bytes
-- Assumes nothing.
use mathlib.Core.List.{List}
use mathlib.Core.Logic.{◌≢◌, ⊎_elim}
use mathlib.Core.Path.{◌≡◌, ap, ◌∙◌}
use Prim.Native.Nat.{ℕ, ◌+◌, ◌-◌, ◌≤◌, ◌<◌}
use native.Mathlib.Omega.{arith}
use borrow.Author.Tests.{le-leb, lt-leb, lt-ltb, le-ltb}
use lib.ListN.{length}
use Rattle.laws.proofs.Tests.{le_or_lt}
use Rattle.jsontext.specs.Utf8.{encode}
use Rattle.jsontext.specs.Text.{capital, small, Hex, decimal, letter, hex, Short, quote, backslash, slash, backspace, form_feed, line_feed, carriage_return, tabulator, short}
use Rattle.jsontext.specs.Value.{hex_worth}
use Rattle.jsontext.proofs.Strings.{encode_1, encode_2, encode_3, encode_4}
use Rattle.escapes.specs.Escapes.{HexByte, hex_at, encoded_size}

pub at_digit : (b : ℕ) → b ≤ 0x39 → hex_at b ≡ b - 0x30
unfolding hex_at
at_digit b h = rw (le-leb b 0x39 h)

pub at_capital : (b : ℕ) → 0x39 < b → b ≤ 0x46 → hex_at b ≡ b - 0x37
unfolding hex_at
at_capital b l h = rw (lt-leb b 0x39 l, le-leb b 0x46 h)

pub at_small : (b : ℕ) → 0x46 < b → hex_at b ≡ b - 0x57
unfolding hex_at
at_small b l = rw (lt-leb b 0x39 (omega arith), lt-leb b 0x46 l)

pub hex_read : (h : Hex) → hex_at (hex h) ≡ hex_worth h
hex_read (decimal d) = let l : d.worth < 10 = d.small in omega (arith, at_digit (0x30 + d.worth) (omega arith))
hex_read (letter capital k p) = omega (arith, at_capital (0x41 + k) (omega arith) (omega arith))
hex_read (letter small k p) = omega (arith, at_small (0x61 + k) (omega arith))

pub hex_byte : (h : Hex) → HexByte (hex h)
hex_byte (decimal d) =
    let l : d.worth < 10 = d.small in
    record { low = omega arith; no_mark = λ (x : 0x39 < 0x30 + d.worth). omega arith; no_other = λ (x : 0x46 < 0x30 + d.worth). omega arith }
hex_byte (letter capital k p) = record { low = omega arith; no_mark = λ (x : 0x39 < 0x41 + k). omega arith; no_other = λ (x : 0x46 < 0x41 + k). omega arith }
hex_byte (letter small k p) = record { low = omega arith; no_mark = λ (x : 0x39 < 0x61 + k). omega arith; no_other = λ (x : 0x46 < 0x61 + k). omega arith }

pub hex_small : (h : Hex) → hex_worth h < 16
hex_small (decimal d) = omega (arith, d.small)
hex_small (letter l k p) = omega arith

-- no escape of one letter starts as one of four digits
pub no_u : (m : Short) → short m ≢ 0x75
no_u quote = λ e. omega arith
no_u backslash = λ e. omega arith
no_u slash = λ e. omega arith
no_u backspace = λ e. omega arith
no_u form_feed = λ e. omega arith
no_u line_feed = λ e. omega arith
no_u carriage_return = λ e. omega arith
no_u tabulator = λ e. omega arith

pub size_1 : (c : ℕ) → c < 0x80 → encoded_size c ≡ 1
unfolding encoded_size
size_1 c h = rw (lt-ltb c 0x80 h)

pub size_2 : (c : ℕ) → 0x80 ≤ c → c < 0x800 → encoded_size c ≡ 2
unfolding encoded_size
size_2 c l h = rw (le-ltb c 0x80 l, lt-ltb c 0x800 h)

pub size_3 : (c : ℕ) → 0x800 ≤ c → c < 0x10000 → encoded_size c ≡ 3
unfolding encoded_size
size_3 c l h = rw (le-ltb c 0x80 (omega arith), le-ltb c 0x800 l, lt-ltb c 0x10000 h)

pub size_4 : (c : ℕ) → 0x10000 ≤ c → encoded_size c ≡ 4
unfolding encoded_size
size_4 c l = rw (le-ltb c 0x80 (omega arith), le-ltb c 0x800 (omega arith), le-ltb c 0x10000 l)

pub size_is : (c : ℕ) (bs : List ℕ) → length (encode c bs) ≡ encoded_size c + length bs
size_is c bs =
    ⊎_elim
    (λ (l : 0x80 ≤ c).
    ⊎_elim
    (λ (m : 0x800 ≤ c).
    ⊎_elim
    (λ (n : 0x10000 ≤ c). ap length (encode_4 c bs n) ∙ omega (arith, size_4 c n))
    (λ (n : c < 0x10000). ap length (encode_3 c bs m n) ∙ omega (arith, size_3 c m n))
    (le_or_lt 0x10000 c))
    (λ (m : c < 0x800). ap length (encode_2 c bs l m) ∙ omega (arith, size_2 c l m))
    (le_or_lt 0x800 c))
    (λ (l : c < 0x80). ap length (encode_1 c bs l) ∙ omega (arith, size_1 c l))
    (le_or_lt 0x80 c)
