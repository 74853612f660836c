-- The place that a step answers is one.
--     code_place     its number is below 50
-- Assumes nothing.
use mathlib.Core.Option.{none, some}
use mathlib.Core.Path.{◌≡◌, sym}
use Prim.Native.Nat.{ℕ, ◌<◌}
use Rattle.std.specs.Prelude.{Option, Some}
use Rattle.std.proofs.Math.Option as Math
use Rattle.std.proofs.lemmas.Option.{same_Some}
use Rattle.jsontext.specs.Automaton as Auto
use Rattle.jsontext.specs.Automaton.{moves, pick}
use Rattle.grammar.specs.Codes.{move_code, step_of, leads, bracket_at, place_at}
use Rattle.grammar.specs.declared.Bracket.{Bracket}
use Rattle.grammar.specs.declared.Move.{Move}
use Rattle.grammar.proofs.Places.{place_low}

pub code_place : (n : Move) (place byte : ℕ) (r : Option Bracket) → leads (moves (place_at place) (bracket_at r)) byte ≡ Some n → n.place < 50
unfolding leads
code_place n place byte r e = go (pick (moves (place_at place) (bracket_at r)) byte) e
  where
    go : (o : Math.Option Auto.Move) → move_code o ≡ Some n → n.place < 50
    go none q = cc
    go (some m) q = rw (sym (same_Some (step_of m) n q)) (place_low m.place)
