-- The words of a sheet: 6 a row, then the trailer. The sheet has no words before row 0.
-- Assumes nothing.
use Rattle.std.specs.Prelude.{List, [], ◌∷◌, ◌++◌, ℕ, ◌*◌, length}
use Rattle.sheet.specs.declared.record.Row.{Row}
use Rattle.sheet.specs.Kinds.{kind_number}
use Rattle.sheet.specs.Record.{row_words, record_kind}
use Rattle.breadth.specs.Sheet.{KindRow}

-- the row with its kind as a number
abbrev pub worded : KindRow → Row
worded r = record { kind = kind_number r.kind; first = r.first; count = r.count; owner = r.owner; label = r.label }

abbrev pub words_of_row : KindRow → List ℕ
words_of_row r = kind_number r.kind ∷ r.first ∷ r.count ∷ r.owner ∷ r.label.start ∷ r.label.length ∷ []

unfoldable pub all_words : List KindRow → List ℕ
all_words [] = []
all_words (r ∷ rs) = words_of_row r ++ all_words rs

abbrev pub trailer : ℕ → ℕ → List ℕ
trailer n size = n ∷ row_words * n ∷ size ∷ record_kind ∷ []

unfoldable pub sheet_words : List KindRow → ℕ → List ℕ
sheet_words rs size = all_words rs ++ trailer (length rs) size
