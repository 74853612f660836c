-- Going over a text beside the automaton: something is kept, and each byte moves it on, by the place at which it is read, the brackets open there and the bytes
-- that follow. The end of the text is read as white space, so that a number that ends with the text ends as any other.
-- Assumes nothing.
use Rattle.std.specs.Prelude.{List, [], ◌∷◌, ℕ}
use Rattle.std.proofs.Math.Option.{Option, none, some}
use Rattle.jsontext.specs.Automaton.{Place, Bracket, State, at, step}

-- what a byte does to what is kept; the list is the bytes behind it
abbrev pub Act : Type 0 → Type 0
Act S = Place → List Bracket → ℕ → List ℕ → S → S

unfoldable pub along : {S : Type 0} → Act S → List ℕ → Option State → S → S
along act [] none s = s
along act [] (some (at p ks)) s = act p ks 0x20 [] s
along act (b ∷ bs) none s = s
along act (b ∷ bs) (some (at p ks)) s = along act bs (step (at p ks) b) (act p ks b bs s)
