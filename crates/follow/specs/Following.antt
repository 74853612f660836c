-- The automaton from a state on, to the first byte with which no text goes on so or to the end: how far it comes, and whether the text may end there.
-- Brackets beyond those of one number stand in a table, one cell each.
-- Assumes nothing.
use Rattle.std.specs.Prelude.{List, ◌∷◌, ◌≡◌, ℕ, zero, suc, ◌+◌, ◌≤◌, length, get_or, drop, Option}
use Rattle.std.proofs.Math.Option.{some}
use Rattle.jsontext.specs.Automaton as Auto
use Rattle.jsontext.specs.Automaton.{State, innermost, changed, run, accepted}
use Rattle.jsontext.specs.Refusal.{reach}
use Rattle.grammar.specs.Codes.{bracket_of, bracket_at, change_at}
use Rattle.grammar.specs.declared.Bracket.{Bracket}
use Rattle.grammar.specs.declared.Bracket.TheVariants.{Square}
use Rattle.grammar.specs.declared.Change.{Change}
use Rattle.brackets.specs.Brackets.{brackets, Fits}
use Rattle.follow.specs.declared.Stack.{Stack}
use Rattle.follow.specs.declared.End.{End}

-- the first k cells above other brackets, the last one innermost
unfoldable pub stacked : List Bracket → ℕ → List Auto.Bracket → List Auto.Bracket
stacked cells zero below = below
stacked cells (suc k) below = bracket_of (get_or cells k Square) ∷ stacked cells k below

abbrev pub all_open : List Bracket → Stack → List Auto.Bracket
all_open cells s = stacked cells s.more (brackets s.opened)

-- r is the innermost bracket
abbrev pub AroundAll : List Bracket → Stack → Option Bracket → Type 0
AroundAll cells s r = bracket_at r ≡ innermost (all_open cells s)

-- the brackets after this change
pub record Shifted (cells : List Bracket) (s : Stack) (change : Change) (cells' : List Bracket) (r : Stack) : Type 0 where
  pub brackets_are : all_open cells' r ≡ changed (change_at change) (all_open cells s)
  pub fits : Fits r.opened
  pub few : r.more ≤ suc s.more
  pub long : length cells' ≡ length cells

-- from a place of the text and a state on
pub record Followed (json : List ℕ) (from : ℕ) (s : State) (r : End) : Type 0 where
  pub inside : r.at ≤ length json
  pub at_is : r.at ≡ from + reach (drop from json) s
  pub whole_is : r.whole ≡ accepted (run (drop from json) (some s))
