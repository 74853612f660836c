-- Escapes of a JSON text as their bytes are read, and how many bytes a character takes in UTF-8.
-- Assumes nothing.
use Rattle.std.specs.Prelude.{cond, ℕ, ◌-◌, ◌≤◌, ◌<◌, leb, ltb, Option, Some, None}

-- the byte is at least that of the first hexadecimal digit, and between none of their three ranges
pub record HexByte (b : ℕ) : Type 0 where
  pub low : 0x30 ≤ b
  pub no_mark : 0x39 < b → 0x41 ≤ b
  pub no_other : 0x46 < b → 0x61 ≤ b

-- what a hexadecimal digit is worth
unfoldable pub hex_at : ℕ → ℕ
hex_at b = cond (leb b 0x39) (b - 0x30) (cond (leb b 0x46) (b - 0x37) (b - 0x57))

-- the high surrogate that waits, or 0
abbrev pub waiting : Option ℕ → ℕ
waiting None = 0
waiting (Some high) = high

-- how many bytes a character takes
unfoldable pub encoded_size : ℕ → ℕ
encoded_size c = cond (ltb c 0x80) 1 (cond (ltb c 0x800) 2 (cond (ltb c 0x10000) 3 4))
