-- The text that an entry names, as a range. No public contract cites this.
-- Assumes nothing.
use Rattle.std.specs.Prelude.{true, List, ◌≡◌, ℕ}
use Rattle.text.specs.declared.Range.{Range}
use Rattle.text.specs.Part.{fits, part}
use Rattle.sheet.specs.Kinds.{kind_of}
use Rattle.sheet.specs.Doc.{string_bytes}
use Rattle.sheet.specs.Faults.{scalar_ok}
use Rattle.rulesheet.specs.declared.code.Fields.{Fields}
use Rattle.rulesheet.specs.declared.form.EntryRow.{EntryRow}
use Rattle.rulesheet.specs.Codes.{entry_value}
use Rattle.rulesheet.specs.Faults.{entry_ok, entry_text}

-- the range is the string of an entry of an enum, and lies within a text over which the entry is in order
pub record StringRange (entry : EntryRow) (r : Range) : Type 0 where
  pub is : (ts : List ℕ) → part ts r ≡ string_bytes (entry_value ts entry)
  pub lies : (size : ℕ) → scalar_ok (kind_of entry.first) size entry.second entry.third ≡ true → fits size r ≡ true

-- the same of the text that an entry of a list of these fields names
pub record TextRange (fields : Fields) (entry : EntryRow) (r : Range) : Type 0 where
  pub is : (ts : List ℕ) → part ts r ≡ entry_text fields ts entry
  pub lies : (size m : ℕ) → entry_ok fields size m entry ≡ true → fits size r ≡ true
