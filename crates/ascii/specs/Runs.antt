-- Runs of ASCII in a text.
-- Assumes nothing.
use Rattle.std.specs.Prelude.{List, ◌⊎◌, ◌≡◌, ℕ, ◌+◌, ◌≤◌, ◌<◌, get_or}

-- ASCII stands at every place from one to another
abbrev pub Ascii : List ℕ → ℕ → ℕ → Type 0
Ascii text from to = (i : ℕ) → from ≤ i → i < to → get_or text i 0 < 0x80

-- r has the bits of all of n bytes, so that it is ASCII only where they are
pub record Bits (text : List ℕ) (at n r : ℕ) : Type 0 where
  pub low : r < 0x80 → Ascii text at (at + n)

-- ASCII goes on from one place to r, and no further than the end
pub record AsciiTo (text : List ℕ) (from end r : ℕ) : Type 0 where
  pub on : from ≤ r
  pub short : (r ≤ end) ⊎ (r ≡ from)
  pub ascii : Ascii text from r
