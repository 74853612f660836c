-- The inside of a string as it is read: a byte as it stands, a short escape, or the escape of a number. And what reading one on does: what is left to write is
-- the rest of what there was.
-- Assumes nothing.
use Rattle.std.specs.Prelude.{cond, List, [], ◌∷◌, ◌≢◌, ◌≡◌, ℕ, ◌+◌, ◌*◌, ◌≤◌, ◌<◌, length, get_or, drop}
use Rattle.std.proofs.lemmas.List.Edits.{sets}
use Rattle.jsontext.specs.Utf8.{encode}
use Rattle.jsontext.specs.Text.{Short, short, Hex, hex}
use Rattle.escapes.specs.Escapes.{HexByte, hex_at}
use Rattle.jsontext.specs.Value.{short_code, unit_code, is_high, joined}

pub data Atom : Type 0 where
  raw : (b : ℕ) → b ≢ 0x22 → b ≢ 0x5C → Atom
  esc : Short → Atom
  uni : Hex → Hex → Hex → Hex → Atom

-- its bytes in the text, before those that follow
abbrev pub atom : Atom → List ℕ → List ℕ
atom (raw b p q) rest = b ∷ rest
atom (esc m) rest = 0x5C ∷ short m ∷ rest
atom (uni h i j k) rest = 0x5C ∷ 0x75 ∷ hex h ∷ hex i ∷ hex j ∷ hex k ∷ rest

unfoldable pub spelled : List Atom → List ℕ → List ℕ
spelled [] rest = rest
spelled (a ∷ as') rest = atom a (spelled as' rest)

-- the number whose four digits stand at these places
abbrev pub code_at : List ℕ → ℕ → ℕ
code_at json i =
    ((hex_at (get_or json (i + 2) 0) * 16 + hex_at (get_or json (i + 3) 0)) * 16 + hex_at (get_or json (i + 4) 0)) * 16 + hex_at (get_or json (i + 5) 0)

-- a hexadecimal digit at place j
pub record HexAt (json : List ℕ) (j : ℕ) : Type 0 where
  pub inside : j < length json
  pub digit : HexByte (get_or json j 0)
  pub small : hex_at (get_or json j 0) < 16

-- the bytes that they stand for, where the high surrogate w waits, or none
unfoldable pub read : ℕ → List Atom → List ℕ
read w [] = []
read w (raw b p q ∷ as') = b ∷ read 0 as'
read w (esc m ∷ as') = short_code m ∷ read 0 as'
read w (uni h i j k ∷ as') = let c = unit_code h i j k in cond (is_high c) (read c as') (encode (joined w c) (read 0 as'))

-- what waits after an escape
abbrev pub waits : ℕ → ℕ
waits c = cond (is_high c) c 0

-- a surrogate that waits finds its other
abbrev pub Finds : ℕ → ℕ → Type 0
Finds w c = 0 < w → (0xD800 ≤ w) × (0xDC00 ≤ c)

abbrev pub Paired : ℕ → List Atom → Type 0
Paired w [] = Unit {0}
Paired w (raw b p q ∷ as') = Paired 0 as'
Paired w (esc m ∷ as') = Paired 0 as'
Paired w (uni h i j k ∷ as') = Finds w (unit_code h i j k) × Paired (waits (unit_code h i j k)) as'

-- from place i on the text has the rest of a string, where w waits
pub record Inside (json : List ℕ) (i w : ℕ) : Type 0 where
  pub atoms : List Atom
  pub behind : List ℕ
  pub spelled_so : spelled atoms (0x22 ∷ behind) ≡ drop i json
  pub paired : Paired w atoms
  pub low : w < 0xDC00

-- the string was read on from i to j, and what it stands for written from `at` to `to`
pub record Onward (json : List ℕ) (i w at : ℕ) (text : List ℕ) (s : Inside json i w) (j v to : ℕ) (room : List ℕ) : Type 0 where
  pub left : Inside json j v
  pub same_end : left.behind ≡ s.behind
  pub same_text : sets room to (read v left.atoms) ≡ sets text at (read w s.atoms)
  pub same_size : to + length (read v left.atoms) ≡ at + length (read w s.atoms)
  pub forward : i ≤ j
  pub no_longer : to + i ≤ at + j

-- it was read to its end: j is behind its quote
pub record Copied (json : List ℕ) (i at : ℕ) (text : List ℕ) (s : Inside json i 0) (j to : ℕ) (room : List ℕ) : Type 0 where
  pub end : s.behind ≡ drop j json
  pub text_is : room ≡ sets text at (read 0 s.atoms)
  pub size_is : to ≡ at + length (read 0 s.atoms)
  pub forward : i < j
  pub within : j ≤ length json
  pub no_longer : to + i ≤ at + j
