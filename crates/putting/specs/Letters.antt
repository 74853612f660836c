-- Escapes of one letter.
-- Assumes nothing.
use Rattle.std.specs.Prelude.{cond, ℕ, eqb}

-- the character of the byte after a backslash
unfoldable pub short_at : ℕ → ℕ
short_at b =
    cond (eqb b 0x62) 0x08
    (cond (eqb b 0x66) 0x0C
    (cond (eqb b 0x6E) 0x0A
    (cond (eqb b 0x72) 0x0D
    (cond (eqb b 0x74) 0x09 b))))
