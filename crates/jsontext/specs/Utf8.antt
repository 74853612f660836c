-- UTF-8 (RFC 3629): the scalar values of Unicode, and the bytes of each. A function takes the bytes that follow and puts those of the scalar value before them.
-- Assumes nothing.
use Rattle.std.specs.Prelude.{cond, List, [], ◌∷◌, ◌⊎◌, ℕ, ◌+◌, ◌/◌, ◌%◌, ◌≤◌, ◌<◌, ltb}

-- a scalar value of Unicode (RFC 3629, section 3)
abbrev pub Scalar : ℕ → Type 0
Scalar c = (c < 0xD800) ⊎ ((0xE000 ≤ c) × (c < 0x110000))

-- its bytes in UTF-8, by the table of RFC 3629, section 3
unfoldable pub encode : ℕ → List ℕ → List ℕ
encode c rest =
    cond
    (ltb c 0x80)
    (c ∷ rest)
    (cond
    (ltb c 0x800)
    ((0xC0 + c / 0x40) ∷ (0x80 + c % 0x40) ∷ rest)
    (cond
    (ltb c 0x10000)
    ((0xE0 + c / 0x1000) ∷ (0x80 + c / 0x40 % 0x40) ∷ (0x80 + c % 0x40) ∷ rest)
    ((0xF0 + c / 0x40000) ∷ (0x80 + c / 0x1000 % 0x40) ∷ (0x80 + c / 0x40 % 0x40) ∷ (0x80 + c % 0x40) ∷ rest)))

-- the bytes are well-formed UTF-8: those of scalar values
pub data Encoded : List ℕ → Type 0 where
  nothing : Encoded []
  then : {bs : List ℕ} (c : ℕ) → Scalar c → Encoded bs → Encoded (encode c bs)
