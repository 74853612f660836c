-- What may follow in each state, to the end of the text, said with trees and without the automaton.
--     After       after a value, by the open brackets
--     Rest        in a state
-- Assumes nothing.
use mathlib.Core.List.{List, [], ◌∷◌}
use mathlib.Core.Logic.{◌⊎◌}
use mathlib.Core.Path.{◌≡◌}
use Prim.Native.Nat.{ℕ, ◌≤◌}
use Rattle.jsontext.specs.Text as T
use Rattle.jsontext.specs.Text.{Space, spaces, Digit, Digits, digits, digits1, Whole, Fraction, fraction, Sign, signed, Exponent, exponent, Hex, hex, Piece, piece, Str, pieces, string, Value, Elements, Members, value, elements, members}
use Rattle.jsontext.specs.Automaton.{Bracket, square, curly, Role, as_value, as_name, Char, one, two, three, after_e0, after_ed, after_f0, after_f4, Word, Left, hex1, hex2, hex3, hex4, ahead, first_element, after, name, first_name, colon, word, minus, nought, whole, point, part, letter, sign, power, text, escape, unit, char, State, at, outer}
use Rattle.jsontext.proofs.Finish.{closing_word}

pub data After : List Bracket → List ℕ → Type 0 where
  all : {bs : List ℕ} (w : Space) → bs ≡ spaces w [] → After [] bs
  shut_square : {ks : List Bracket} {bs rest : List ℕ} (w : Space) → bs ≡ spaces w (0x5D ∷ rest) → After ks rest → After (square ∷ ks) bs
  more_square : {ks : List Bracket} {bs rest : List ℕ} (w w' : Space) (vs : Elements)
      → bs ≡ spaces w (0x2C ∷ spaces w' (elements vs (0x5D ∷ rest)))
      → After ks rest
      → After (square ∷ ks) bs
  shut_curly : {ks : List Bracket} {bs rest : List ℕ} (w : Space) → bs ≡ spaces w (0x7D ∷ rest) → After ks rest → After (curly ∷ ks) bs
  more_curly : {ks : List Bracket} {bs rest : List ℕ} (w w' : Space) (ms : Members)
      → bs ≡ spaces w (0x2C ∷ spaces w' (members ms (0x7D ∷ rest)))
      → After ks rest
      → After (curly ∷ ks) bs

module _ (ks : List Bracket) where
  -- a value and what follows it
  abbrev pub Begun : List ℕ → Type 0
  Begun bs = (v : Value) × (rest : List ℕ) × (bs ≡ value v rest) × After ks rest

  abbrev pub Ahead : List ℕ → Type 0
  Ahead bs = (w : Space) × (tl : List ℕ) × (bs ≡ spaces w tl) × Begun tl

  abbrev pub FirstElement : List ℕ → Type 0
  FirstElement bs = ((w : Space) × (rest : List ℕ) × (bs ≡ spaces w (0x5D ∷ rest)) × After (outer ks) rest) ⊎ Ahead bs

  abbrev pub Colon : List ℕ → Type 0
  Colon bs =
      (w : Space) × (w' : Space) × (v : Value) × (rest : List ℕ) × (bs ≡ spaces w (0x3A ∷ spaces w' (value v rest))) × After ks rest

  abbrev pub Name : List ℕ → Type 0
  Name bs = (w : Space) × (s : Str) × (rest : List ℕ) × (bs ≡ spaces w (string s rest)) × Colon rest

  abbrev pub FirstName : List ℕ → Type 0
  FirstName bs = ((w : Space) × (rest : List ℕ) × (bs ≡ spaces w (0x7D ∷ rest)) × After (outer ks) rest) ⊎ Name bs

  abbrev pub WordThen : Word → List ℕ → Type 0
  WordThen w bs = (rest : List ℕ) × (bs ≡ closing_word w rest) × After ks rest

  abbrev pub MinusThen : List ℕ → Type 0
  MinusThen bs =
      (i : Whole) × (f : Fraction) × (x : Exponent) × (rest : List ℕ) × (bs ≡ T.whole i (fraction f (exponent x rest))) × After ks rest

  abbrev pub NoughtThen : List ℕ → Type 0
  NoughtThen bs = (f : Fraction) × (x : Exponent) × (rest : List ℕ) × (bs ≡ fraction f (exponent x rest)) × After ks rest

  abbrev pub WholeThen : List ℕ → Type 0
  WholeThen bs =
      (ds : List Digit) × (f : Fraction) × (x : Exponent) × (rest : List ℕ) × (bs ≡ digits ds (fraction f (exponent x rest))) × After ks rest

  abbrev pub PointThen : List ℕ → Type 0
  PointThen bs = (ds : Digits) × (x : Exponent) × (rest : List ℕ) × (bs ≡ digits1 ds (exponent x rest)) × After ks rest

  abbrev pub PartThen : List ℕ → Type 0
  PartThen bs = (ds : List Digit) × (x : Exponent) × (rest : List ℕ) × (bs ≡ digits ds (exponent x rest)) × After ks rest

  abbrev pub LetterThen : List ℕ → Type 0
  LetterThen bs = (s : Sign) × (ds : Digits) × (rest : List ℕ) × (bs ≡ signed s (digits1 ds rest)) × After ks rest

  abbrev pub SignThen : List ℕ → Type 0
  SignThen bs = (ds : Digits) × (rest : List ℕ) × (bs ≡ digits1 ds rest) × After ks rest

  abbrev pub PowerThen : List ℕ → Type 0
  PowerThen bs = (ds : List Digit) × (rest : List ℕ) × (bs ≡ digits ds rest) × After ks rest

  abbrev pub Closed : Role → List ℕ → Type 0
  Closed as_value bs = After ks bs
  Closed as_name bs = Colon bs

  abbrev pub Inside : Role → List ℕ → Type 0
  Inside r bs = (s : Str) × (rest : List ℕ) × (bs ≡ pieces s (0x22 ∷ rest)) × Closed r rest

  abbrev pub Escape : Role → List ℕ → Type 0
  Escape r bs = (p : Piece) × (tl : List ℕ) × (0x5C ∷ bs ≡ piece p tl) × Inside r tl

-- a hexadecimal digit, then P
abbrev pub HexThen : (List ℕ → Type 0) → List ℕ → Type 0
HexThen P bs = (h : Hex) × (tl : List ℕ) × (bs ≡ hex h ∷ tl) × P tl

-- a byte of this range, then P
abbrev pub ByteThen : ℕ → ℕ → (List ℕ → Type 0) → List ℕ → Type 0
ByteThen l h P bs = (b : ℕ) × (tl : List ℕ) × (bs ≡ b ∷ tl) × (l ≤ b) × (b ≤ h) × P tl

abbrev pub Unit4 : Left → (List ℕ → Type 0) → List ℕ → Type 0
Unit4 hex1 P = HexThen P
Unit4 hex2 P = HexThen (HexThen P)
Unit4 hex3 P = HexThen (HexThen (HexThen P))
Unit4 hex4 P = HexThen (HexThen (HexThen (HexThen P)))

abbrev pub Char4 : Char → (List ℕ → Type 0) → List ℕ → Type 0
Char4 one P = ByteThen 0x80 0xBF P
Char4 two P = ByteThen 0x80 0xBF (ByteThen 0x80 0xBF P)
Char4 three P = ByteThen 0x80 0xBF (ByteThen 0x80 0xBF (ByteThen 0x80 0xBF P))
Char4 after_e0 P = ByteThen 0xA0 0xBF (ByteThen 0x80 0xBF P)
Char4 after_ed P = ByteThen 0x80 0x9F (ByteThen 0x80 0xBF P)
Char4 after_f0 P = ByteThen 0x90 0xBF (ByteThen 0x80 0xBF (ByteThen 0x80 0xBF P))
Char4 after_f4 P = ByteThen 0x80 0x8F (ByteThen 0x80 0xBF (ByteThen 0x80 0xBF P))

abbrev pub Rest : State → List ℕ → Type 0
Rest (at ahead ks) bs = Ahead ks bs
Rest (at first_element ks) bs = FirstElement ks bs
Rest (at after ks) bs = After ks bs
Rest (at name ks) bs = Name ks bs
Rest (at first_name ks) bs = FirstName ks bs
Rest (at colon ks) bs = Colon ks bs
Rest (at (word w) ks) bs = WordThen ks w bs
Rest (at minus ks) bs = MinusThen ks bs
Rest (at nought ks) bs = NoughtThen ks bs
Rest (at whole ks) bs = WholeThen ks bs
Rest (at point ks) bs = PointThen ks bs
Rest (at part ks) bs = PartThen ks bs
Rest (at letter ks) bs = LetterThen ks bs
Rest (at sign ks) bs = SignThen ks bs
Rest (at power ks) bs = PowerThen ks bs
Rest (at (text r) ks) bs = Inside ks r bs
Rest (at (escape r) ks) bs = Escape ks r bs
Rest (at (unit h r) ks) bs = Unit4 h (Inside ks r) bs
Rest (at (char c r) ks) bs = Char4 c (Inside ks r) bs
