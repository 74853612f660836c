-- Every state can be finished.
--     finish, finishes    bytes that lead from a state to acceptance
-- Assumes nothing.
use mathlib.Core.List.{List, [], ◌∷◌}
use mathlib.Core.Path.{refl}
use Prim.Native.Nat.{ℕ}
use Rattle.jsontext.specs.Automaton.{Bracket, square, curly, Role, as_value, as_name, Char, one, two, three, after_e0, after_ed, after_f0, after_f4, Word, n1, n2, n3, t1, t2, t3, f1, f2, f3, f4, Left, hex1, hex2, hex3, hex4, ahead, first_element, after, name, first_name, colon, word, minus, nought, whole, point, part, letter, sign, power, text, escape, unit, char, State, at, outer, pick, step, run}
use Rattle.jsontext.proofs.Moves.{Accepts}
use Rattle.jsontext.proofs.Numbers.{through_nought, through_whole, through_part, through_power}

-- closes the open brackets
unfoldable pub closing : List Bracket → List ℕ
closing [] = []
closing (square ∷ ks) = 0x5D ∷ closing ks
closing (curly ∷ ks) = 0x7D ∷ closing ks

-- ends a string: its quote, and behind a name a value
abbrev pub closing_text : Role → List Bracket → List ℕ
closing_text as_value ks = 0x22 ∷ closing ks
closing_text as_name ks = 0x22 ∷ 0x3A ∷ 0x22 ∷ 0x22 ∷ closing ks

abbrev pub closing_word : Word → List ℕ → List ℕ
closing_word n1 rest = 0x75 ∷ 0x6C ∷ 0x6C ∷ rest
closing_word n2 rest = 0x6C ∷ 0x6C ∷ rest
closing_word n3 rest = 0x6C ∷ rest
closing_word t1 rest = 0x72 ∷ 0x75 ∷ 0x65 ∷ rest
closing_word t2 rest = 0x75 ∷ 0x65 ∷ rest
closing_word t3 rest = 0x65 ∷ rest
closing_word f1 rest = 0x61 ∷ 0x6C ∷ 0x73 ∷ 0x65 ∷ rest
closing_word f2 rest = 0x6C ∷ 0x73 ∷ 0x65 ∷ rest
closing_word f3 rest = 0x73 ∷ 0x65 ∷ rest
closing_word f4 rest = 0x65 ∷ rest

abbrev pub closing_unit : Left → List ℕ → List ℕ
closing_unit hex1 rest = 0x30 ∷ rest
closing_unit hex2 rest = 0x30 ∷ 0x30 ∷ rest
closing_unit hex3 rest = 0x30 ∷ 0x30 ∷ 0x30 ∷ rest
closing_unit hex4 rest = 0x30 ∷ 0x30 ∷ 0x30 ∷ 0x30 ∷ rest

abbrev pub closing_char : Char → List ℕ → List ℕ
closing_char one rest = 0x80 ∷ rest
closing_char two rest = 0x80 ∷ 0x80 ∷ rest
closing_char three rest = 0x80 ∷ 0x80 ∷ 0x80 ∷ rest
closing_char after_e0 rest = 0xA0 ∷ 0x80 ∷ rest
closing_char after_ed rest = 0x80 ∷ 0x80 ∷ rest
closing_char after_f0 rest = 0x90 ∷ 0x80 ∷ 0x80 ∷ rest
closing_char after_f4 rest = 0x80 ∷ 0x80 ∷ 0x80 ∷ rest

abbrev pub finish : State → List ℕ
finish (at ahead ks) = 0x22 ∷ 0x22 ∷ closing ks
finish (at first_element ks) = 0x5D ∷ closing (outer ks)
finish (at after ks) = closing ks
finish (at name ks) = 0x22 ∷ closing_text as_name ks
finish (at first_name ks) = 0x7D ∷ closing (outer ks)
finish (at colon ks) = 0x3A ∷ 0x22 ∷ 0x22 ∷ closing ks
finish (at (word w) ks) = closing_word w (closing ks)
finish (at minus ks) = 0x30 ∷ closing ks
finish (at nought ks) = closing ks
finish (at whole ks) = closing ks
finish (at point ks) = 0x30 ∷ closing ks
finish (at part ks) = closing ks
finish (at letter ks) = 0x30 ∷ closing ks
finish (at sign ks) = 0x30 ∷ closing ks
finish (at power ks) = closing ks
finish (at (text r) ks) = closing_text r ks
finish (at (escape r) ks) = 0x6E ∷ closing_text r ks
finish (at (unit h r) ks) = closing_unit h (closing_text r ks)
finish (at (char c r) ks) = closing_char c (closing_text r ks)

closes : (ks : List Bracket) → Accepts (at after ks) (closing ks)
unfolding closing run step pick
closes [] = refl
closes (square ∷ ks) = closes ks
closes (curly ∷ ks) = closes ks

closes_text : (r : Role) (ks : List Bracket) → Accepts (at (text r) ks) (closing_text r ks)
unfolding run step pick
closes_text as_value ks = closes ks
closes_text as_name ks = closes ks

closes_word : (w : Word) (ks : List Bracket) → Accepts (at (word w) ks) (closing_word w (closing ks))
unfolding run step pick
closes_word n1 ks = closes ks
closes_word n2 ks = closes ks
closes_word n3 ks = closes ks
closes_word t1 ks = closes ks
closes_word t2 ks = closes ks
closes_word t3 ks = closes ks
closes_word f1 ks = closes ks
closes_word f2 ks = closes ks
closes_word f3 ks = closes ks
closes_word f4 ks = closes ks

pub finishes : (s : State) → Accepts s (finish s)
unfolding run step pick
finishes (at ahead ks) = closes ks
finishes (at first_element ks) = closes (outer ks)
finishes (at after ks) = closes ks
finishes (at name ks) = closes ks
finishes (at first_name ks) = closes (outer ks)
finishes (at colon ks) = closes ks
finishes (at (word w) ks) = closes_word w ks
finishes (at minus ks) = (through_nought ks (closing ks) (closes ks)).0
finishes (at nought ks) = (through_nought ks (closing ks) (closes ks)).0
finishes (at whole ks) = (through_whole ks (closing ks) (closes ks)).0
finishes (at point ks) = (through_part ks (closing ks) (closes ks)).0
finishes (at part ks) = (through_part ks (closing ks) (closes ks)).0
finishes (at letter ks) = (through_power ks (closing ks) (closes ks)).0
finishes (at sign ks) = (through_power ks (closing ks) (closes ks)).0
finishes (at power ks) = (through_power ks (closing ks) (closes ks)).0
finishes (at (text r) ks) = closes_text r ks
finishes (at (escape r) ks) = closes_text r ks
finishes (at (unit hex1 r) ks) = closes_text r ks
finishes (at (unit hex2 r) ks) = closes_text r ks
finishes (at (unit hex3 r) ks) = closes_text r ks
finishes (at (unit hex4 r) ks) = closes_text r ks
finishes (at (char one r) ks) = closes_text r ks
finishes (at (char two r) ks) = closes_text r ks
finishes (at (char three r) ks) = closes_text r ks
finishes (at (char after_e0 r) ks) = closes_text r ks
finishes (at (char after_ed r) ks) = closes_text r ks
finishes (at (char after_f0 r) ks) = closes_text r ks
finishes (at (char after_f4 r) ks) = closes_text r ks
