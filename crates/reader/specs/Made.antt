-- What an accepted text gives (02, #101: "every accepted sheet passes the record check, and its meaning is the text's").
-- Assumes nothing.
use Rattle.std.specs.Prelude.{List, ◌++◌, ◌≡◌, ℕ, ◌≤◌, length, drop}
use Rattle.sheet.specs.Refusals.{accepted}
use Rattle.sheet.specs.Record.{doc_of}
use Rattle.sheet.specs.Faults.{record_outcome}
use Rattle.jsontext.specs.Text.{Text, bytes}
use Rattle.breadth.specs.Meaning.{Means, Utf8}
use Rattle.reader.specs.Call.{Read, datum_of}

pub record Made (json words room : List ℕ) (r : Read) (n : ℕ) : Type 0 where
  -- a sheet and its text stand at the starts of the areas, and what lies behind them is as it was
  pub sheet : List ℕ
  pub made : List ℕ
  pub fits_words : length sheet ≤ length words
  pub fits_room : length made ≤ length room
  pub words_are : r.words ≡ sheet ++ drop (length sheet) words
  pub room_are : r.room ≡ made ++ drop (length made) room
  -- the record check accepts them
  pub passes : record_outcome sheet made ≡ accepted n
  -- and row 0 means the value of the text, of which there is one (`once`)
  pub text : Text
  pub spelled : bytes text ≡ json
  pub means : Means (doc_of sheet made) 0 (datum_of text)
  -- whose strings and names are well-formed UTF-8
  pub utf8 : Utf8 (datum_of text)
