-- The open brackets as the bits of a number, the innermost lowest: 0 is a square one, 1 a curly one; and how many there are.
-- Assumes nothing.
use Rattle.std.specs.Prelude.{cond, List, [], ◌∷◌, ◌≡◌, ℕ, zero, suc, ◌/◌, ◌%◌, ◌^◌, ◌≤◌, ◌<◌, eqb, Option}
use Rattle.jsontext.specs.Automaton as Auto
use Rattle.jsontext.specs.Automaton.{square, curly, changed, innermost}
use Rattle.grammar.specs.Codes.{bracket_at, change_at}
use Rattle.grammar.specs.declared.Bracket.{Bracket}
use Rattle.grammar.specs.declared.Bracket.TheVariants.{Square, Curly}
use Rattle.grammar.specs.declared.Change.{Change}
use Rattle.brackets.specs.declared.Open.{Open}

abbrev pub bit_of : Bracket → ℕ
bit_of Square = 0
bit_of Curly = 1

unfoldable pub brackets_of : ℕ → ℕ → List Auto.Bracket
brackets_of bits zero = []
brackets_of bits (suc n) = cond (eqb (bits % 2) 0) square curly ∷ brackets_of (bits / 2) n

-- the brackets that are open
abbrev pub brackets : Open → List Auto.Bracket
brackets o = brackets_of o.bits o.depth

-- r is the innermost bracket
abbrev pub Around : Open → Option Bracket → Type 0
Around o r = bracket_at r ≡ innermost (brackets o)

-- r has the brackets of o after this change
abbrev pub Changed : Open → Change → Open → Type 0
Changed o change r = brackets r ≡ changed (change_at change) (brackets o)

-- there are no bits but those of open brackets
abbrev pub Fits : Open → Type 0
Fits o = o.bits < 2 ^ o.depth

pub record Turned (o : Open) (change : Change) (r : Open) : Type 0 where
  pub brackets_are : Changed o change r
  pub fits : Fits r
  pub deep : r.depth ≤ suc o.depth
