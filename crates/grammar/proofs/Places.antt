-- Numbers of places, and steps, read back.
--     place_back, place_low      a place's number stands for it, and is below 50
--     move_place, move_change    a move's step tells the next place and the change
-- Assumes nothing.
use mathlib.Core.Path.{◌≡◌, refl, ap}
use Prim.Native.Nat.{◌<◌}
use native.Mathlib.Omega.{arith}
use Rattle.jsontext.specs.Automaton.{Bracket, square, curly, as_value, as_name, one, two, three, after_e0, after_ed, after_f0, after_f4, hex1, hex2, hex3, hex4, n1, n2, n3, t1, t2, t3, f1, f2, f3, f4, Place, ahead, first_element, after, name, first_name, colon, word, minus, nought, whole, point, part, letter, sign, power, text, escape, unit, char, Change, keep, pop, push, Move}
use Rattle.grammar.specs.Codes.{place_code, bracket_code, bracket_of, change_code, change_at, step_of, place_at}

pub place_back : (p : Place) → place_at (place_code p) ≡ p
place_back ahead = refl
place_back first_element = refl
place_back after = refl
place_back name = refl
place_back first_name = refl
place_back colon = refl
place_back (word n1) = refl
place_back (word n2) = refl
place_back (word n3) = refl
place_back (word t1) = refl
place_back (word t2) = refl
place_back (word t3) = refl
place_back (word f1) = refl
place_back (word f2) = refl
place_back (word f3) = refl
place_back (word f4) = refl
place_back minus = refl
place_back nought = refl
place_back whole = refl
place_back point = refl
place_back part = refl
place_back letter = refl
place_back sign = refl
place_back power = refl
place_back (text as_value) = refl
place_back (text as_name) = refl
place_back (escape as_value) = refl
place_back (escape as_name) = refl
place_back (unit hex1 as_value) = refl
place_back (unit hex1 as_name) = refl
place_back (unit hex2 as_value) = refl
place_back (unit hex2 as_name) = refl
place_back (unit hex3 as_value) = refl
place_back (unit hex3 as_name) = refl
place_back (unit hex4 as_value) = refl
place_back (unit hex4 as_name) = refl
place_back (char one as_value) = refl
place_back (char one as_name) = refl
place_back (char two as_value) = refl
place_back (char two as_name) = refl
place_back (char three as_value) = refl
place_back (char three as_name) = refl
place_back (char after_e0 as_value) = refl
place_back (char after_e0 as_name) = refl
place_back (char after_ed as_value) = refl
place_back (char after_ed as_name) = refl
place_back (char after_f0 as_value) = refl
place_back (char after_f0 as_name) = refl
place_back (char after_f4 as_value) = refl
place_back (char after_f4 as_name) = refl

pub place_low : (p : Place) → place_code p < 50
place_low ahead = omega arith
place_low first_element = omega arith
place_low after = omega arith
place_low name = omega arith
place_low first_name = omega arith
place_low colon = omega arith
place_low (word n1) = omega arith
place_low (word n2) = omega arith
place_low (word n3) = omega arith
place_low (word t1) = omega arith
place_low (word t2) = omega arith
place_low (word t3) = omega arith
place_low (word f1) = omega arith
place_low (word f2) = omega arith
place_low (word f3) = omega arith
place_low (word f4) = omega arith
place_low minus = omega arith
place_low nought = omega arith
place_low whole = omega arith
place_low point = omega arith
place_low part = omega arith
place_low letter = omega arith
place_low sign = omega arith
place_low power = omega arith
place_low (text as_value) = omega arith
place_low (text as_name) = omega arith
place_low (escape as_value) = omega arith
place_low (escape as_name) = omega arith
place_low (unit hex1 as_value) = omega arith
place_low (unit hex1 as_name) = omega arith
place_low (unit hex2 as_value) = omega arith
place_low (unit hex2 as_name) = omega arith
place_low (unit hex3 as_value) = omega arith
place_low (unit hex3 as_name) = omega arith
place_low (unit hex4 as_value) = omega arith
place_low (unit hex4 as_name) = omega arith
place_low (char one as_value) = omega arith
place_low (char one as_name) = omega arith
place_low (char two as_value) = omega arith
place_low (char two as_name) = omega arith
place_low (char three as_value) = omega arith
place_low (char three as_name) = omega arith
place_low (char after_e0 as_value) = omega arith
place_low (char after_e0 as_name) = omega arith
place_low (char after_ed as_value) = omega arith
place_low (char after_ed as_name) = omega arith
place_low (char after_f0 as_value) = omega arith
place_low (char after_f0 as_name) = omega arith
place_low (char after_f4 as_value) = omega arith
place_low (char after_f4 as_name) = omega arith

pub bracket_back : (k : Bracket) → bracket_of (bracket_code k) ≡ k
bracket_back square = refl
bracket_back curly = refl

pub change_back : (c : Change) → change_at (change_code c) ≡ c
change_back keep = refl
change_back pop = refl
change_back (push k) = ap push (bracket_back k)

pub move_place : (m : Move) → place_at (step_of m).place ≡ m.place
move_place m = place_back m.place

pub move_change : (m : Move) → change_at (step_of m).change ≡ m.change
move_change m = change_back m.change
