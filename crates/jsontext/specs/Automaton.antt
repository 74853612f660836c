-- The byte automaton of JSON texts: a state says where in the grammar the text has come to and which brackets are open around that, innermost first.
-- Each place has a list of moves, each for the bytes from `low` to `high`; a byte goes by the first move that has it. A move names the next place and says
-- whether a bracket is opened or closed; only after a value do the moves depend on the brackets, and there on the innermost alone.
-- Assumes nothing.
use Rattle.std.specs.Prelude.{Bool, true, false, ◌&&◌, cond, List, [], ◌∷◌, ℕ, leb}
use Rattle.std.proofs.Math.Option.{Option, none, some}

pub data Bracket : Type 0 where
  square curly : Bracket

-- a string is a value or a name
pub data Role : Type 0 where
  as_value as_name : Role

-- where a character stands that is not yet whole: its last byte is to come; its last two; its last three; the same after E0, ED, F0, F4
pub data Char : Type 0 where
  one two three after_e0 after_ed after_f0 after_f4 : Char

-- how many hexadecimal digits are to come
pub data Left : Type 0 where
  hex1 hex2 hex3 hex4 : Left

-- within a word: how many letters of null, true or false were read
pub data Word : Type 0 where
  n1 n2 n3 t1 t2 t3 f1 f2 f3 f4 : Word

pub data Place : Type 0 where
  -- a value is to come; the same or a closing square bracket; a value was read
  ahead first_element after : Place
  -- a name is to come; the same or a closing curly bracket; a name was read
  name first_name colon : Place
  word : Word → Place
  -- within a number: after the minus, after a leading 0, after a digit of the whole part, after the point, after a digit of the fraction,
  -- after the letter e, after the sign, after a digit of the exponent
  minus nought whole point part letter sign power : Place
  -- within a string; after a backslash; after \u or some of its digits; within a character
  text escape : Role → Place
  unit : Left → Role → Place
  char : Char → Role → Place

pub data State : Type 0 where
  at : Place → List Bracket → State

-- what a move does to the open brackets
pub data Change : Type 0 where
  keep pop : Change
  push : Bracket → Change

pub record Move : Type 0 where
  pub low : ℕ
  pub high : ℕ
  pub place : Place
  pub change : Change

abbrev pub range : ℕ → ℕ → Place → Move
range l h p = record { low = l; high = h; place = p; change = keep }

abbrev pub only : ℕ → Place → Move
only b p = range b b p

abbrev pub opens : ℕ → Bracket → Place → Move
opens b k p = record { low = b; high = b; place = p; change = push k }

abbrev pub shuts : ℕ → Move
shuts b = record { low = b; high = b; place = after; change = pop }

abbrev pub blanks : Place → List Move → List Move
blanks p ms = only 0x20 p ∷ only 0x09 p ∷ only 0x0A p ∷ only 0x0D p ∷ ms

-- the first bytes of a value
abbrev pub starts : List Move
starts =
    only 0x22 (text as_value)
    ∷ opens 0x5B square first_element
    ∷ opens 0x7B curly first_name
    ∷ only 0x2D minus
    ∷ only 0x30 nought
    ∷ range 0x31 0x39 whole
    ∷ only 0x6E (word n1)
    ∷ only 0x74 (word t1)
    ∷ only 0x66 (word f1)
    ∷ []

-- after a value: what may stand there by the innermost open bracket
abbrev pub ends : Option Bracket → List Move
ends none = blanks after []
ends (some square) = blanks after (only 0x2C ahead ∷ shuts 0x5D ∷ [])
ends (some curly) = blanks after (only 0x2C name ∷ shuts 0x7D ∷ [])

abbrev pub exponents : List Move → List Move
exponents ms = only 0x45 letter ∷ only 0x65 letter ∷ ms

abbrev pub spelling : Word → Move
spelling n1 = only 0x75 (word n2)
spelling n2 = only 0x6C (word n3)
spelling n3 = only 0x6C after
spelling t1 = only 0x72 (word t2)
spelling t2 = only 0x75 (word t3)
spelling t3 = only 0x65 after
spelling f1 = only 0x61 (word f2)
spelling f2 = only 0x6C (word f3)
spelling f3 = only 0x73 (word f4)
spelling f4 = only 0x65 after

-- after a string's closing quote
abbrev pub closed : Role → Place
closed as_value = after
closed as_name = colon

abbrev pub after_hex : Left → Role → Place
after_hex hex1 r = text r
after_hex hex2 r = unit hex1 r
after_hex hex3 r = unit hex2 r
after_hex hex4 r = unit hex3 r

abbrev pub shorts : Role → List Move
shorts r =
    only 0x22 (text r)
    ∷ only 0x5C (text r)
    ∷ only 0x2F (text r)
    ∷ only 0x62 (text r)
    ∷ only 0x66 (text r)
    ∷ only 0x6E (text r)
    ∷ only 0x72 (text r)
    ∷ only 0x74 (text r)
    ∷ only 0x75 (unit hex4 r)
    ∷ []

-- the first byte of a character of several bytes
abbrev pub several : Role → List Move
several r =
    range 0xC2 0xDF (char one r)
    ∷ only 0xE0 (char after_e0 r)
    ∷ range 0xE1 0xEC (char two r)
    ∷ only 0xED (char after_ed r)
    ∷ range 0xEE 0xEF (char two r)
    ∷ only 0xF0 (char after_f0 r)
    ∷ range 0xF1 0xF3 (char three r)
    ∷ only 0xF4 (char after_f4 r)
    ∷ []

abbrev pub characters : Role → List Move
characters r = range 0x20 0x21 (text r) ∷ range 0x23 0x5B (text r) ∷ range 0x5D 0x7F (text r) ∷ several r

abbrev pub continuation : Char → Role → Move
continuation one r = range 0x80 0xBF (text r)
continuation two r = range 0x80 0xBF (char one r)
continuation three r = range 0x80 0xBF (char two r)
continuation after_e0 r = range 0xA0 0xBF (char one r)
continuation after_ed r = range 0x80 0x9F (char one r)
continuation after_f0 r = range 0x90 0xBF (char two r)
continuation after_f4 r = range 0x80 0x8F (char two r)

abbrev pub moves : Place → Option Bracket → List Move
moves ahead k = blanks ahead starts
moves first_element k = blanks first_element (shuts 0x5D ∷ starts)
moves after k = ends k
moves name k = blanks name (only 0x22 (text as_name) ∷ [])
moves first_name k = blanks first_name (shuts 0x7D ∷ only 0x22 (text as_name) ∷ [])
moves colon k = blanks colon (only 0x3A ahead ∷ [])
moves (word w) k = spelling w ∷ []
moves minus k = only 0x30 nought ∷ range 0x31 0x39 whole ∷ []
moves nought k = only 0x2E point ∷ exponents (ends k)
moves whole k = range 0x30 0x39 whole ∷ only 0x2E point ∷ exponents (ends k)
moves point k = range 0x30 0x39 part ∷ []
moves part k = range 0x30 0x39 part ∷ exponents (ends k)
moves letter k = only 0x2B sign ∷ only 0x2D sign ∷ range 0x30 0x39 power ∷ []
moves sign k = range 0x30 0x39 power ∷ []
moves power k = range 0x30 0x39 power ∷ ends k
moves (text r) k = only 0x22 (closed r) ∷ only 0x5C (escape r) ∷ characters r
moves (escape r) k = shorts r
moves (unit h r) k = range 0x30 0x39 (after_hex h r) ∷ range 0x41 0x46 (after_hex h r) ∷ range 0x61 0x66 (after_hex h r) ∷ []
moves (char c r) k = continuation c r ∷ []

-- the first move that has the byte
unfoldable pub pick : List Move → ℕ → Option Move
pick [] b = none
pick (m ∷ ms) b = let others = pick ms b in cond (leb m.low b && leb b m.high) (some m) others

abbrev pub innermost : List Bracket → Option Bracket
innermost [] = none
innermost (k ∷ ks) = some k

abbrev pub outer : List Bracket → List Bracket
outer [] = []
outer (k ∷ ks) = ks

abbrev pub changed : Change → List Bracket → List Bracket
changed keep ks = ks
changed pop ks = outer ks
changed (push k) ks = k ∷ ks

abbrev pub follow : List Bracket → Option Move → Option State
follow ks none = none
follow ks (some m) = some (at m.place (changed m.change ks))

unfoldable pub step : State → ℕ → Option State
step (at p ks) b = follow ks (pick (moves p (innermost ks)) b)

abbrev pub start : State
start = at ahead []

unfoldable pub run : List ℕ → Option State → Option State
run [] s = s
run (b ∷ bs) none = none
run (b ∷ bs) (some s) = run bs (step s b)

-- a value was read, or a number may end here
abbrev pub ended : Place → Bool
ended after = true
ended nought = true
ended whole = true
ended part = true
ended power = true
ended ahead = false
ended first_element = false
ended name = false
ended first_name = false
ended colon = false
ended (word w) = false
ended minus = false
ended point = false
ended letter = false
ended sign = false
ended (text r) = false
ended (escape r) = false
ended (unit h r) = false
ended (char c r) = false

abbrev pub none_open : List Bracket → Bool
none_open [] = true
none_open (k ∷ ks) = false

-- the text may end here
abbrev pub accepting : State → Bool
accepting (at p ks) = ended p && none_open ks

abbrev pub accepted : Option State → Bool
accepted none = false
accepted (some s) = accepting s

-- the text is accepted
abbrev pub accepts : List ℕ → Bool
accepts bs = accepted (run bs (some start))
