-- The lexemes of a JSON text: white space byte by byte, commas, words, numbers, strings, brackets; a name is one lexeme with its colon.
-- Assumes nothing.
use Rattle.std.specs.Prelude.{List, [], ◌∷◌, ◌++◌, ℕ}
use Rattle.jsontext.specs.Text as T
use Rattle.jsontext.specs.Text.{Blank, blank, Space, spaces, Number, number, Str, string, word_null, word_true, word_false, Value, null, truth, falsity, empty_array, array, empty_object, object, Elements, last, more, Members, last_m, more_m, Text}
use Rattle.jsontext.specs.Automaton.{Bracket, square, curly}

pub data Lexeme : Type 0 where
  gap : Blank → Lexeme
  comma a_null a_true a_false : Lexeme
  num : Number → Lexeme
  str : Str → Lexeme
  -- a name, the white space after it and the colon
  nam : Str → Space → Lexeme
  opens shuts : Bracket → Lexeme

abbrev pub opening : Bracket → ℕ
opening square = 0x5B
opening curly = 0x7B

abbrev pub closing : Bracket → ℕ
closing square = 0x5D
closing curly = 0x7D

-- its bytes, before those that follow
abbrev pub spelled : Lexeme → List ℕ → List ℕ
spelled (gap b) rest = blank b ∷ rest
spelled comma rest = 0x2C ∷ rest
spelled a_null rest = word_null ++ rest
spelled a_true rest = word_true ++ rest
spelled a_false rest = word_false ++ rest
spelled (num n) rest = number n rest
spelled (str s) rest = string s rest
spelled (nam s w) rest = string s (spaces w (0x3A ∷ rest))
spelled (opens b) rest = opening b ∷ rest
spelled (shuts b) rest = closing b ∷ rest

unfoldable pub spelling : List Lexeme → List ℕ
spelling [] = []
spelling (l ∷ ls) = spelled l (spelling ls)

-- ---- of a tree, before those that follow

unfoldable pub gaps : Space → List Lexeme → List Lexeme
gaps [] rest = rest
gaps (b ∷ w) rest = gap b ∷ gaps w rest

unfoldable mutual
  pub lexemes : Value → List Lexeme → List Lexeme
  lexemes null rest = a_null ∷ rest
  lexemes truth rest = a_true ∷ rest
  lexemes falsity rest = a_false ∷ rest
  lexemes (T.num n) rest = num n ∷ rest
  lexemes (T.str s) rest = str s ∷ rest
  lexemes (empty_array w) rest = opens square ∷ gaps w (shuts square ∷ rest)
  lexemes (array w vs) rest = opens square ∷ gaps w (element_lexemes vs (shuts square ∷ rest))
  lexemes (empty_object w) rest = opens curly ∷ gaps w (shuts curly ∷ rest)
  lexemes (object w ms) rest = opens curly ∷ gaps w (member_lexemes ms (shuts curly ∷ rest))

  pub element_lexemes : Elements → List Lexeme → List Lexeme
  element_lexemes (last v w) rest = lexemes v (gaps w rest)
  element_lexemes (more v w w' vs) rest = lexemes v (gaps w (comma ∷ gaps w' (element_lexemes vs rest)))

  pub member_lexemes : Members → List Lexeme → List Lexeme
  member_lexemes (last_m s w w' v w'') rest = nam s w ∷ gaps w' (lexemes v (gaps w'' rest))
  member_lexemes (more_m s w w' v w'' w''' ms) rest = nam s w ∷ gaps w' (lexemes v (gaps w'' (comma ∷ gaps w''' (member_lexemes ms rest))))

unfoldable pub text_lexemes : Text → List Lexeme
text_lexemes t = gaps t.before (lexemes t.root (gaps t.behind []))
