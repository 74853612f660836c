-- What the checks give to those who read a sheet after them. Each is a premise of the readers, or a conclusion about the record that they read.
-- Assumes nothing.
use Rattle.std.specs.Prelude.{true, false, List, ◌≡◌, ℕ, ◌+◌, ◌≤◌, ◌<◌, ℤ}
use Rattle.decimal.specs.declared.Decimal.{Decimal}
use Rattle.decimal.specs.Value.{value, Plain}
use Rattle.text.specs.declared.Range.{Range}
use Rattle.text.specs.Part.{fits, part}
use Rattle.utf8.specs.Encoding.{Utf8}
use Rattle.sheet.specs.declared.record.RecordForm.{RecordForm}
use Rattle.sheet.specs.declared.record.Children.{Children}
use Rattle.sheet.specs.Refusals.{accepted}
use Rattle.sheet.specs.Doc.{Doc, number, string, first_child, child_count, Child, is_object, level}
use Rattle.sheet.specs.Record.{rows_max, text_word, form_of, doc_of}
use Rattle.sheet.specs.Faults.{words_ok, row_ok, repeated, level_refused, record_outcome}

-- the form is that of these words, and their trailer is in order
pub record Formed (ws : List ℕ) (form : RecordForm) : Type 0 where
  pub trailer : words_ok ws ≡ true
  pub same_form : form ≡ form_of ws

-- and no row breaks the layout
pub record Laid (ws : List ℕ) (form : RecordForm) : Type 0 where
  pub formed : Formed ws form
  pub rows_ok : (j : ℕ) → j < form.rows → row_ok ws j ≡ true

-- the words and the text are an accepted record sheet of that form
pub record AcceptedRecord (ws ts : List ℕ) (form : RecordForm) : Type 0 where
  pub same_form : form ≡ form_of ws
  pub accepts : record_outcome ws ts ≡ accepted form.rows

-- r is the lower of `least` and the lowest child of row o whose name an earlier one has
pub record Lowered (d : Doc) (o least r : ℕ) : Type 0 where
  pub lower : r ≤ least
  pub clear : (j : ℕ) → Child d o j → j < r → repeated d j ≡ false
  pub found_one : r < least → repeated d r ≡ true

-- ---- what the readers give of row j, whatever the text

pub record ChildrenRead (ws : List ℕ) (j : ℕ) (r : Children) : Type 0 where
  pub first_is : (ts : List ℕ) → r.first ≡ first_child ((doc_of ws ts).value j)
  pub count_is : (ts : List ℕ) → r.count ≡ child_count ((doc_of ws ts).value j)

-- the row's name is the range's bytes, within a text of the length that the trailer says
pub record NameRead (ws : List ℕ) (j : ℕ) (r : Range) : Type 0 where
  pub name_is : (ts : List ℕ) → part ts r ≡ (doc_of ws ts).name j
  pub name_fits : fits (text_word ws) r ≡ true

-- and of a string its bytes
pub record StringRead (ws : List ℕ) (j : ℕ) (r : Range) : Type 0 where
  pub string_is : (ts bytes : List ℕ) → (doc_of ws ts).value j ≡ string bytes → part ts r ≡ bytes
  pub string_fits : (ts bytes : List ℕ) → (doc_of ws ts).value j ≡ string bytes → fits (text_word ws) r ≡ true

-- of a number its value, and that it is within the limits of exact arithmetic
pub record NumberRead (ws : List ℕ) (j : ℕ) (r : Decimal) : Type 0 where
  pub number_is : (ts : List ℕ) (z : ℤ) → (doc_of ws ts).value j ≡ number z → value r ≡ z
  pub number_plain : (ts : List ℕ) (z : ℤ) → (doc_of ws ts).value j ≡ number z → Plain r

-- an accepted record of n rows
pub record WellFormed (d : Doc) (n : ℕ) : Type 0 where
  pub some : 0 < n
  pub few : n ≤ rows_max
  -- children stand after their owner and inside n, and name it
  pub child_after : (j k : ℕ) → j < n → Child d j k → j < k
  pub child_inside : (j k : ℕ) → j < n → Child d j k → k < n
  pub child_owner : (j k : ℕ) → j < n → Child d j k → d.owner k ≡ j
  -- every row but the root is a child of the owner it names
  pub placed : (k : ℕ) → 0 < k → k < n → Child d (d.owner k) k
  pub owner_before : (k : ℕ) → 0 < k → k < n → d.owner k < k
  -- no two children of an object share a name
  pub names_differ : (j k l : ℕ) → j < n → is_object (d.value j) ≡ true → Child d j k → Child d j l → k < l → d.name k ≡ d.name l → ⊥
  -- names and strings are UTF-8
  pub name_readable : (j : ℕ) → j < n → Utf8 (d.name j)
  pub readable : (j : ℕ) → j < n → (bytes : List ℕ) → d.value j ≡ string bytes → Utf8 bytes
  -- the root is at level 1, a child one below its parent, and no row is deeper than level 32
  pub root_level : level d.owner 0 ≡ 1
  pub child_level : (j k : ℕ) → j < n → Child d j k → level d.owner k ≡ level d.owner j + 1
  pub shallow : (k : ℕ) → k < n → level d.owner k < level_refused
