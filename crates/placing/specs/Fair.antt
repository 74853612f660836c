-- What the second pass may lean on: the text is JSON, its numbers are not too wide, no surrogate's escape is lone, and no value is too deep.
-- Of lexemes: what a number or string is followed by, and which brackets are open.
-- Assumes nothing.
use Rattle.std.specs.Prelude.{false, List, [], ◌∷◌, ◌≡◌, ℕ, ◌+◌, ◌-◌, ◌<◌}
use Rattle.sheet.specs.Kinds.{number_max}
use Rattle.jsontext.specs.Text as T
use Rattle.jsontext.specs.Text.{Blank, Number, Value, null, truth, falsity, empty_array, array, empty_object, object, Elements, last, more, Members, last_m, more_m}
use Rattle.jsontext.specs.Number.{exact_of, wide}
use Rattle.jsontext.proofs.Decoding.{NoneLone}
use Rattle.jsontext.specs.Automaton.{Bracket}
use Rattle.placing.specs.Lexemes.{Lexeme, gap, comma, a_null, a_true, a_false, num, str, nam, opens, shuts}
use Rattle.placing.specs.Desk.{levels}

abbrev pub Narrow : Number → Type 0
Narrow n = wide number_max (exact_of n) ≡ false

-- ---- of trees

abbrev mutual
  pub Sayable : Value → Type 0
  Sayable null = Unit {0}
  Sayable truth = Unit {0}
  Sayable falsity = Unit {0}
  Sayable (T.num n) = Narrow n
  Sayable (T.str s) = NoneLone 0 s
  Sayable (empty_array w) = Unit {0}
  Sayable (array w vs) = SayableItems vs
  Sayable (empty_object w) = Unit {0}
  Sayable (object w ms) = SayableFields ms

  pub SayableItems : Elements → Type 0
  SayableItems (last v w) = Sayable v
  SayableItems (more v w w' vs) = Sayable v × SayableItems vs

  pub SayableFields : Members → Type 0
  SayableFields (last_m s w w' v w'') = NoneLone 0 s × Sayable v
  SayableFields (more_m s w w' v w'' w''' ms) = NoneLone 0 s × Sayable v × SayableFields ms

-- ---- of lexemes

-- what may follow a value
pub data Ends : List Lexeme → Type 0 where
  at_end : Ends []
  at_gap : {b : Blank} {ls : List Lexeme} → Ends ls → Ends (gap b ∷ ls)
  at_comma : {ls : List Lexeme} → Ends (comma ∷ ls)
  at_shut : {b : Bracket} {ls : List Lexeme} → Ends (shuts b ∷ ls)

-- where so many brackets are open
abbrev pub Fair : ℕ → List Lexeme → Type 0
Fair k [] = Unit {0}
Fair k (gap b ∷ ls) = Fair k ls
Fair k (comma ∷ ls) = Fair k ls
Fair k (a_null ∷ ls) = Fair k ls
Fair k (a_true ∷ ls) = Fair k ls
Fair k (a_false ∷ ls) = Fair k ls
Fair k (num n ∷ ls) = Narrow n × Ends ls × Fair k ls
Fair k (str s ∷ ls) = NoneLone 0 s × Ends ls × Fair k ls
Fair k (nam s w ∷ ls) = NoneLone 0 s × Fair k ls
Fair k (opens b ∷ ls) = (k + 1 < levels) × Fair (k + 1) ls
Fair k (shuts b ∷ ls) = (0 < k) × Fair (k - 1) ls
