-- Places of a text: those inside a character, and the next one that has to be looked at.
-- Assumes nothing.
use Rattle.std.specs.Prelude.{Bool, ◌&&◌, List, ◌≡◌, ℕ, leb, ltb, length, get_or}
use Rattle.ascii.specs.Runs.{AsciiTo}
use Rattle.utf8.specs.declared.State.{State}

-- a continuation byte, 80 to BF
unfoldable pub continues : ℕ → Bool
continues b = leb 0x80 b && ltb b 0xC0

-- a continuation byte stands at the place
unfoldable pub inside : List ℕ → ℕ → Bool
inside text at = ltb at (length text) && continues (get_or text at 0)

-- between two characters ASCII goes on from one place to r, and within one r is the place itself
pub record Onward (text : List ℕ) (s : State) (from end r : ℕ) : Type 0 where
  pub run : AsciiTo text from end r
  pub stays : (s.need ≡ 0 → ⊥) → r ≡ from
