-- Kinds of places, and what a byte may lead to from one: into a number, into an escape, into one bracket more.
-- Assumes nothing.
use mathlib.Core.Bool.{Bool, true, false, ◌&&◌, ◌||◌}
use Prim.Native.Nat.{ℕ}
use lib.Dec.{eqb, ltb}
use Rattle.jsontext.specs.Automaton.{Role, as_value, as_name, Place, ahead, first_element, after, name, first_name, colon, word, minus, nought, whole, point, part, letter, sign, power, text, escape, unit, char, Change, keep, pop, push}

abbrev pub is_number : Place → Bool
is_number ahead = false
is_number first_element = false
is_number after = false
is_number name = false
is_number first_name = false
is_number colon = false
is_number (word w) = false
is_number minus = true
is_number nought = true
is_number whole = true
is_number point = true
is_number part = true
is_number letter = true
is_number sign = true
is_number power = true
is_number (text r) = false
is_number (escape r) = false
is_number (unit h r) = false
is_number (char c r) = false

abbrev as_named : Role → Bool
as_named as_value = false
as_named as_name = true

abbrev pub in_name : Place → Bool
in_name ahead = false
in_name first_element = false
in_name after = false
in_name name = false
in_name first_name = false
in_name colon = false
in_name (word w) = false
in_name minus = false
in_name nought = false
in_name whole = false
in_name point = false
in_name part = false
in_name letter = false
in_name sign = false
in_name power = false
in_name (text r) = as_named r
in_name (escape r) = as_named r
in_name (unit h r) = as_named r
in_name (char c r) = as_named r

-- within an escape, within a string between characters, where a value may start: 1, 2, 3
abbrev kind : Place → ℕ
kind ahead = 3
kind first_element = 3
kind after = 0
kind name = 0
kind first_name = 0
kind colon = 0
kind (word w) = 0
kind minus = 0
kind nought = 0
kind whole = 0
kind point = 0
kind part = 0
kind letter = 0
kind sign = 0
kind power = 0
kind (text r) = 2
kind (escape r) = 1
kind (unit h r) = 1
kind (char c r) = 0

abbrev pub in_escape : Place → Bool
in_escape p = eqb (kind p) 1

abbrev pub is_text : Place → Bool
is_text p = eqb (kind p) 2

abbrev pub starts_value : Place → Bool
starts_value p = eqb (kind p) 3

abbrev pub pushes : Change → Bool
pushes keep = false
pushes pop = false
pushes (push k) = true

-- ---- what a byte may lead to

abbrev pub numbered : Place → ℕ → Bool
numbered p b = is_number p || (starts_value p && (ltb 0x20 b && ltb b 0x5D))

abbrev pub escaping : Place → ℕ → Bool
escaping p b = in_escape p || (is_text p && eqb b 0x5C)

abbrev pub bracketed : Place → ℕ → Bool
bracketed p b = starts_value p && (eqb b 0x5B || eqb b 0x7B)
