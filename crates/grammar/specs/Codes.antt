-- The places of the automaton as numbers, and what a move comes to in code: the next place, and what is done to the open brackets.
-- Assumes nothing.
use Rattle.std.specs.Prelude.{Bool, cond, ◌&&◌, List, [], ◌∷◌, ◌≡◌, ℕ, ◌+◌, leb, get_or, Option, Some, None}
use Rattle.std.proofs.Math.Option as Math
use Rattle.std.proofs.Math.Option.{none, some}
use Rattle.jsontext.specs.Automaton as Auto
use Rattle.jsontext.specs.Automaton.{square, curly, as_value, as_name, Char, one, two, three, after_e0, after_ed, after_f0, after_f4, Left, hex1, hex2, hex3, hex4, Word, n1, n2, n3, t1, t2, t3, f1, f2, f3, f4, Place, ahead, first_element, after, name, first_name, colon, word, minus, nought, whole, point, part, letter, sign, power, text, escape, unit, char, keep, pop, push, moves, pick}
use Rattle.grammar.specs.declared.Bracket.{Bracket}
use Rattle.grammar.specs.declared.Bracket.TheVariants.{Square, Curly}
use Rattle.grammar.specs.declared.Change.{Change}
use Rattle.grammar.specs.declared.Change.TheVariants.{Keep, Push, Pop}
use Rattle.grammar.specs.declared.Role.{Role}
use Rattle.grammar.specs.declared.Role.TheVariants.{AsValue, AsName}
use Rattle.grammar.specs.declared.Move.{Move}

-- within a string, by how the string is used
abbrev pub role_code : Auto.Role → ℕ
role_code as_value = 0
role_code as_name = 1

abbrev pub word_code : Word → ℕ
word_code n1 = 6
word_code n2 = 7
word_code n3 = 8
word_code t1 = 9
word_code t2 = 10
word_code t3 = 11
word_code f1 = 12
word_code f2 = 13
word_code f3 = 14
word_code f4 = 15

abbrev pub left_code : Left → ℕ
left_code hex1 = 28
left_code hex2 = 30
left_code hex3 = 32
left_code hex4 = 34

abbrev pub char_code : Char → ℕ
char_code one = 36
char_code two = 38
char_code three = 40
char_code after_e0 = 42
char_code after_ed = 44
char_code after_f0 = 46
char_code after_f4 = 48

abbrev pub place_code : Place → ℕ
place_code ahead = 0
place_code first_element = 1
place_code after = 2
place_code name = 3
place_code first_name = 4
place_code colon = 5
place_code (word w) = word_code w
place_code minus = 16
place_code nought = 17
place_code whole = 18
place_code point = 19
place_code part = 20
place_code letter = 21
place_code sign = 22
place_code power = 23
place_code (text r) = 24 + role_code r
place_code (escape r) = 26 + role_code r
place_code (unit h r) = left_code h + role_code r
place_code (char c r) = char_code c + role_code r

abbrev pub bracket_code : Auto.Bracket → Bracket
bracket_code square = Square
bracket_code curly = Curly

abbrev pub change_code : Auto.Change → Change
change_code keep = Keep
change_code (push k) = Push (bracket_code k)
change_code pop = Pop

abbrev pub step_of : Auto.Move → Move
step_of m = record { place = place_code m.place; change = change_code m.change }

abbrev pub move_code : Math.Option Auto.Move → Option Move
move_code none = None
move_code (some m) = Some (step_of m)

-- the number of no place, where no text goes on so
abbrev pub dead : ℕ
dead = 63

-- where the moves lead with a byte
unfoldable pub leads : List Auto.Move → ℕ → Option Move
leads ms b = move_code (pick ms b)

-- the byte is one of a range
abbrev pub inside : ℕ → ℕ → ℕ → Bool
inside low high b = leb low b && leb b high

-- a step that leaves the brackets as they are
abbrev pub goes : ℕ → Option Move
goes next = Some (record { place = next; change = Keep })

-- where a single move leads
abbrev pub one_move : ℕ → ℕ → ℕ → ℕ → Option Move
one_move low high next b = cond (inside low high b) (goes next) None

-- read back
abbrev pub role_of : Role → Auto.Role
role_of AsValue = as_value
role_of AsName = as_name

abbrev pub bracket_of : Bracket → Auto.Bracket
bracket_of Square = square
bracket_of Curly = curly

abbrev pub bracket_at : Option Bracket → Math.Option Auto.Bracket
bracket_at None = none
bracket_at (Some k) = some (bracket_of k)

abbrev pub change_at : Change → Auto.Change
change_at Keep = keep
change_at (Push k) = push (bracket_of k)
change_at Pop = pop

-- the same of the three ranges of hexadecimal digits
abbrev pub hex_move : ℕ → ℕ → Option Move
hex_move next b = cond (inside 0x30 0x39 b) (goes next) (cond (inside 0x41 0x46 b) (goes next) (one_move 0x61 0x66 next b))

-- the place of a number
abbrev pub places : List Place
places =
    ahead ∷ first_element ∷ after ∷ name ∷ first_name ∷ colon
    ∷ word n1 ∷ word n2 ∷ word n3 ∷ word t1 ∷ word t2 ∷ word t3 ∷ word f1 ∷ word f2 ∷ word f3 ∷ word f4
    ∷ minus ∷ nought ∷ whole ∷ point ∷ part ∷ letter ∷ sign ∷ power
    ∷ text as_value ∷ text as_name ∷ escape as_value ∷ escape as_name
    ∷ unit hex1 as_value ∷ unit hex1 as_name ∷ unit hex2 as_value ∷ unit hex2 as_name ∷ unit hex3 as_value ∷ unit hex3 as_name ∷ unit hex4 as_value ∷ unit hex4 as_name
    ∷ char one as_value ∷ char one as_name ∷ char two as_value ∷ char two as_name ∷ char three as_value ∷ char three as_name
    ∷ char after_e0 as_value ∷ char after_e0 as_name ∷ char after_ed as_value ∷ char after_ed as_name
    ∷ char after_f0 as_value ∷ char after_f0 as_name ∷ char after_f4 as_value ∷ char after_f4 as_name
    ∷ []

abbrev pub place_at : ℕ → Place
place_at n = get_or places n after

-- r is where the byte leads from there, whatever the bracket
abbrev pub LeadsWithin : ℕ → ℕ → Option Move → Type 0
LeadsWithin place b r = (k : Math.Option Auto.Bracket) → r ≡ leads (moves (place_at place) k) b

-- the bracket that a number tells: 1 a square one, 2 a curly one, any other none
abbrev pub bracket_numbered : ℕ → Math.Option Auto.Bracket
bracket_numbered n = get_or (none ∷ some square ∷ some curly ∷ []) n none
