-- The second pass in code, lexeme by lexeme: what it may lean on at a place of the text, and that what is left to do there is what there was to do.
-- Assumes nothing.
use Rattle.std.specs.Prelude.{Bool, cond, ◌||◌, List, [], ◌∷◌, ◌++◌, ◌≡◌, ℕ, suc, ◌+◌, ◌*◌, ◌≤◌, ◌<◌, eqb, length, get_or, drop}
use Rattle.std.specs.Borrow.{MutBor}
use Rattle.sheet.specs.Kinds.{number_max}
use Rattle.sheet.specs.Record.{row_words}
use Rattle.jsontext.specs.Datum.{Datum}
use Rattle.jsontext.specs.Text.{Text, bytes}
use Rattle.jsontext.specs.Value.{value_of}
use Rattle.breadth.specs.Forest.{tree}
use Rattle.breadth.specs.Breadth.{depth}
use Rattle.breadth.specs.Sheet.{rows, text}
use Rattle.breadth.specs.Words.{sheet_words}
use Rattle.breadth.specs.Counters.{one, size}
use Rattle.breadth.specs.Tokens.{tokens, begin}
use Rattle.breadth.proofs.Tables.{Holds}
use Rattle.placing.specs.Lexemes.{Lexeme, spelling}
use Rattle.placing.specs.Desk.{Desk, levels, acts}
use Rattle.placing.specs.Fair.{Sayable, Fair}
use Rattle.writing.specs.declared.Spot.{Spot}
use Rattle.writing.specs.declared.Areas.{Areas}

-- ---- white space

abbrev pub is_blank : ℕ → Bool
is_blank b = eqb b 0x20 || (eqb b 0x0A || (eqb b 0x0D || eqb b 0x09))

-- how many bytes of white space come first
unfoldable pub blanks_of : List ℕ → ℕ
blanks_of [] = 0
blanks_of (b ∷ l) = cond (is_blank b) (suc (blanks_of l)) 0

-- ---- one lexeme after the other

-- from place i on the text has fair lexemes, where k brackets are open
pub record Reading (json : List ℕ) (i k : ℕ) : Type 0 where
  pub lexemes : List Lexeme
  pub spelled : spelling lexemes ≡ drop i json
  pub fair : Fair k lexemes

-- the desk d at place i became e at place j, and as much is left to do
pub record Going (n : ℕ) (json : List ℕ) (i : ℕ) (d : Desk) (s : Reading json i d.level) (j : ℕ) (e : Desk) : Type 0 where
  pub left : Reading json j e.level
  pub same : acts n left.lexemes e ≡ acts n s.lexemes d

-- no counter is greater
abbrev pub Bounded : List ℕ → ℕ → Type 0
Bounded cells most = (k : ℕ) → get_or cells k 0 ≤ most

-- the areas are long enough for n rows, and no counter has run further than the text was read
pub record Ready (n i k : ℕ) (rows bytes words : List ℕ) : Type 0 where
  pub low : k < levels
  pub rows_long : length rows ≡ levels
  pub bytes_long : length bytes ≡ levels
  pub words_long : row_words * n ≤ length words
  pub rows_low : Bounded rows (65_536 + i)
  pub bytes_low : Bounded bytes (65_536 + i)

-- a desk in parts
abbrev pub desk_of : ℕ → ℕ → ℕ → List ℕ → List ℕ → List ℕ → List ℕ → Desk
desk_of k start size rows bytes words text =
    record { level = k; rows = rows; bytes = bytes; label = record { start = start; length = size }; words = words; text = text }

-- the areas in code, with the spot
abbrev pub desk_at : Spot → Areas → Desk
desk_at spot a = desk_of spot.level spot.label.start spot.label.length a.rows.now a.bytes.now a.words.now a.text.now

-- the areas are ready where the spot is
abbrev pub ReadyAt : Spot → Areas → Type 0
ReadyAt spot a = Ready a.n spot.at spot.level a.rows.now a.bytes.now a.words.now

-- both lend the same places
abbrev pub SamePlaces : MutBor (List ℕ) → MutBor (List ℕ) → Type 0
SamePlaces a b = (b.ghost_name ≡ a.ghost_name) × (length b.now ≡ length a.now)

-- and these the same areas, for as many rows
pub record SameAreas (a b : Areas) : Type 0 where
  pub rows_same : SamePlaces a.rows b.rows
  pub bytes_same : SamePlaces a.bytes b.bytes
  pub words_same : SamePlaces a.words b.words
  pub text_same : SamePlaces a.text b.text
  pub many : b.n ≡ a.n

-- ---- the whole text

abbrev pub datum_of : Text → Datum
datum_of t = value_of number_max t.root

-- these bytes are of a text that can be written, and the counters stand at the starts of its levels
pub record Writable (json : List ℕ) (n room_for : ℕ) (row_starts byte_starts words room : List ℕ) : Type 0 where
  pub of : Text
  pub spelled : bytes of ≡ json
  pub sayable : Sayable of.root
  pub shallow : depth (tree (datum_of of)) < levels
  pub rows_start : Holds row_starts (begin one (tokens (tree (datum_of of)))) levels
  pub bytes_start : Holds byte_starts (begin size (tokens (tree (datum_of of)))) levels
  pub rows_many : n ≡ length (rows (tree (datum_of of)))
  pub bytes_many : room_for ≡ length (text (tree (datum_of of)))
  pub words_fit : row_words * n + 4 ≤ length words
  pub text_fits : room_for ≤ length room

-- what stands there in the end
pub record Stands (t : Text) (words room words' room' : List ℕ) : Type 0 where
  pub words_are :
      words'
      ≡ sheet_words (rows (tree (datum_of t))) (length (text (tree (datum_of t))))
      ++ drop (length (sheet_words (rows (tree (datum_of t))) (length (text (tree (datum_of t)))))) words
  pub text_is : room' ≡ text (tree (datum_of t)) ++ drop (length (text (tree (datum_of t)))) room
