-- Where moves lead.
--     tables    what the check needs to read a table of moves
-- Assumes nothing.
use mathlib.Core.Bool.{Bool, true, false, cond}
use mathlib.Core.List.{List, [], ◌∷◌}
use mathlib.Core.Option.{some}
use Rattle.std.specs.Prelude.{None}
use mathlib.Core.Path.{◌≡◌, refl}
use Prim.Native.Nat.{ℕ}
use Rattle.std.proofs.lemmas.Bool.Decides.{nat_tests}
use Rattle.jsontext.specs.Automaton.{Move, pick}
use Rattle.grammar.specs.Codes.{move_code, leads, inside}

pub leads_none : (b : ℕ) → leads [] b ≡ None
unfolding leads pick
leads_none b = refl

-- the first move that has the byte
pub leads_first : (m : Move) (ms : List Move) (b : ℕ) → leads (m ∷ ms) b ≡ cond (inside m.low m.high b) (move_code (some m)) (leads ms b)
unfolding leads pick
leads_first m ms b = go (inside m.low m.high b)
  where
    go : (t : Bool) → move_code (cond t (some m) (pick ms b)) ≡ cond t (move_code (some m)) (move_code (pick ms b))
    go true = refl
    go false = refl

pub ruleset tables = (nat_tests, leads_none, leads_first)
