-- What the second pass holds and does: a counter of rows and one of bytes for each level, the words and the text, and the label that waits for its value.
-- A row that the areas have no room for is not written; the number of rows is given.
-- Assumes nothing.
use Rattle.std.specs.Prelude.{cond, List, [], ◌∷◌, ◌++◌, ℕ, ◌+◌, ◌-◌, ◌*◌, eqb, leb, ltb, length, get_or, drop, set, replicate}
use Rattle.std.proofs.lemmas.List.Edits.{sets}
use Rattle.text.specs.declared.Range.{Range}
use Rattle.sheet.specs.declared.kind.RowKind.{RowKind}
use Rattle.sheet.specs.declared.kind.RowKind.TheVariants.{Null, False, True, Number, String, Array, Object}
use Rattle.sheet.specs.Kinds.{kind_number, number_max}
use Rattle.sheet.specs.Record.{row_words}
use Rattle.jsontext.specs.Number.{exact_of, billionths_of}
use Rattle.jsontext.specs.Value.{decoded}
use Rattle.jsontext.specs.Automaton.{Bracket, square, curly}
use Rattle.breadth.specs.Number.{digits_word, scale_of}
use Rattle.breadth.specs.Sheet.{first_or_none}
use Rattle.breadth.specs.Words.{trailer}
use Rattle.placing.specs.Lexemes.{Lexeme, gap, comma, a_null, a_true, a_false, num, str, nam, opens, shuts}

-- levels 0 to 32
abbrev pub levels : ℕ
levels = 33

pub record Desk : Type 0 where
  pub level : ℕ
  pub rows : List ℕ
  pub bytes : List ℕ
  pub label : Range
  pub words : List ℕ
  pub text : List ℕ

abbrev pub no_label : Range
no_label = record { start = 0; length = 0 }

-- ---- the words of a row

-- row r of n takes these words
unfoldable pub row_put : ℕ → List ℕ → ℕ → List ℕ → List ℕ
row_put n ws r six = cond (ltb r n) (sets ws (row_words * r) six) ws

-- a container's first child and how many it has, where `next` is the next row of their level
abbrev pub child_words : ℕ → ℕ → List ℕ
child_words first next = first_or_none (next - first) first ∷ (next - first) ∷ []

-- row r of n once its children are counted, if it is a container
unfoldable pub row_shut : ℕ → List ℕ → ℕ → ℕ → List ℕ
row_shut n ws r next =
    cond (ltb r n)
    (cond (leb (kind_number Array) (get_or ws (row_words * r) 0))
    (sets ws (row_words * r + 1) (child_words (get_or ws (row_words * r + 1) 0) next))
    ws)
    ws

-- the owner's row is the last that was taken one level higher
unfoldable pub owner_at : ℕ → List ℕ → ℕ
owner_at k rows = cond (eqb k 0) 0 (get_or rows (k - 1) 0 - 1)

-- the words of n rows, before any is written
unfoldable pub cleared : ℕ → List ℕ → List ℕ
cleared n ws = replicate (row_words * n) 0 ++ drop (row_words * n) ws

-- and the trailer behind them in the end, where the text has so many bytes
unfoldable pub finished : ℕ → ℕ → List ℕ → List ℕ
finished n size ws = sets ws (row_words * n) (trailer n size)

-- ---- what is done

-- the next row of the level is taken
unfoldable pub rowed : ℕ → RowKind → ℕ → ℕ → Desk → Desk
rowed n kind first count d =
    let r = get_or d.rows d.level 0 in
    record {
      level = d.level;
      rows = set d.rows d.level (r + 1);
      bytes = d.bytes;
      label = no_label;
      words = row_put n d.words r (kind_number kind ∷ first ∷ count ∷ owner_at d.level d.rows ∷ d.label.start ∷ d.label.length ∷ []);
      text = d.text;
    }

-- the next bytes of the level are these
unfoldable pub written : List ℕ → Desk → Desk
written bs d =
    let b = get_or d.bytes d.level 0 in
    record {
      level = d.level;
      rows = d.rows;
      bytes = set d.bytes d.level (b + length bs);
      label = d.label;
      words = d.words;
      text = sets d.text b bs;
    }

-- a name's bytes, to be the label of the value that follows
unfoldable pub named : List ℕ → Desk → Desk
named bs d =
    let w = written bs d in
    record {
      level = w.level;
      rows = w.rows;
      bytes = w.bytes;
      label = record { start = get_or d.bytes d.level 0; length = length bs };
      words = w.words;
      text = w.text;
    }

abbrev pub kind_of_bracket : Bracket → RowKind
kind_of_bracket square = Array
kind_of_bracket curly = Object

unfoldable pub opened : ℕ → RowKind → Desk → Desk
opened n kind d =
    let r = rowed n kind (get_or d.rows (d.level + 1) 0) 0 d in
    record { level = d.level + 1; rows = r.rows; bytes = r.bytes; label = r.label; words = r.words; text = r.text }

unfoldable pub shut : ℕ → Desk → Desk
shut n d =
    let k = d.level - 1 in
    record {
      level = k;
      rows = d.rows;
      bytes = d.bytes;
      label = no_label;
      words = row_shut n d.words (get_or d.rows k 0 - 1) (get_or d.rows d.level 0);
      text = d.text;
    }

-- a lexeme, where there are to be n rows
abbrev pub act : ℕ → Lexeme → Desk → Desk
act n (gap b) d = d
act n comma d = d
act n a_null d = rowed n Null 0 0 d
act n a_true d = rowed n True 0 0 d
act n a_false d = rowed n False 0 0 d
act n (num x) d = let z = billionths_of number_max (exact_of x) in rowed n Number (digits_word z) (scale_of z) d
act n (str s) d = rowed n String (get_or d.bytes d.level 0) (length (decoded s)) (written (decoded s) d)
act n (nam s w) d = named (decoded s) d
act n (opens b) d = opened n (kind_of_bracket b) d
act n (shuts b) d = shut n d

unfoldable pub acts : ℕ → List Lexeme → Desk → Desk
acts n [] d = d
acts n (l ∷ ls) d = acts n ls (act n l d)
