-- The whole call that reads JSON (02, #101): what it answers, and the words and the text at its end, for every input and every lent areas.
-- 20: the input is over 65,536 bytes; 21: it is no JSON text; 22 to 26: the fault that starts first; 27, 28: the areas are short, in this order, and the place is the
-- size needed. On refusal nothing is written; on success exactly the sheet's words and the text's bytes, from the areas' starts.
-- Assumes nothing.
use Rattle.std.specs.Prelude.{true, false, List, [], ◌∷◌, ◌++◌, ◌≡◌, ℕ, ◌-◌, ◌≤◌, ◌<◌, ltb, length, drop}
use Rattle.std.proofs.Math.Option.{Option, none, some}
use Rattle.jsontext.specs.Datum.{Datum}
use Rattle.jsontext.specs.Text.{Text, bytes}
use Rattle.jsontext.specs.Value.{value_of}
use Rattle.jsontext.specs.Starts.{text_starts}
use Rattle.jsontext.specs.Refusal as Found
use Rattle.jsontext.specs.Refusal.{Found}
use Rattle.sheet.specs.Kinds.{number_max}
use Rattle.sheet.specs.Refusals.{Outcome, accepted, refused, Line, first_line}
use Rattle.breadth.specs.Forest.{tree}
use Rattle.breadth.specs.Sheet.{rows, text}
use Rattle.breadth.specs.Words.{sheet_words}
use Rattle.reader.specs.Faults.{Fault, first_fault}

-- the most bytes of an input
abbrev pub input_max : ℕ
input_max = 65_536

-- ---- of a text

-- its value
abbrev pub datum_of : Text → Datum
datum_of t = value_of number_max t.root

-- its sheet
abbrev pub text_made : Text → List ℕ
text_made t = text (tree (datum_of t))

abbrev pub words_made : Text → List ℕ
words_made t = sheet_words (rows (tree (datum_of t))) (length (text_made t))

-- a fault's line of the refusal table; its place is the byte at which it starts
abbrev pub fault_line : ℕ → Option Fault → Line
fault_line size none = record { number = 22; applies = false; place = 0 }
fault_line size (some f) = record { number = f.number; applies = true; place = size - length f.behind }

-- a line that applies where fewer are lent than needed
abbrev pub short_line : ℕ → ℕ → ℕ → Line
short_line number needed lent = record { number = number; applies = ltb lent needed; place = needed }

-- what is answered where `words` words and `room` bytes are lent
unfoldable pub text_outcome : Text → ℕ → ℕ → Outcome
text_outcome t words room =
    first_line
    (fault_line (length (bytes t)) (first_fault 0 (text_starts number_max t))
    ∷ short_line 27 (length (words_made t)) words
    ∷ short_line 28 (length (text_made t)) room
    ∷ [])
    (length (rows (tree (datum_of t))))

-- an area at the end: on success what was made stands at its start
abbrev pub area_after : Outcome → List ℕ → List ℕ → List ℕ
area_after (accepted n) made area = made ++ drop (length made) area
area_after (refused k p) made area = area

-- ---- of any input

-- the answer, and both areas at the end
pub record Read : Type 0 where
  pub outcome : Outcome
  pub words : List ℕ
  pub room : List ℕ

-- what the call gives for an input and two areas
pub data Reads (json words room : List ℕ) : Read → Type 0 where
  too_long : input_max < length json → Reads json words room (record { outcome = refused 20 0; words = words; room = room })
  not_json : {place : ℕ} → length json ≤ input_max → Found json (Found.refused place)
      → Reads json words room (record { outcome = refused 21 place; words = words; room = room })
  is_text : (t : Text) → length json ≤ input_max → bytes t ≡ json
      → Reads json words room
      (record {
        outcome = text_outcome t (length words) (length room);
        words = area_after (text_outcome t (length words) (length room)) (words_made t) words;
        room = area_after (text_outcome t (length words) (length room)) (text_made t) room;
      })
