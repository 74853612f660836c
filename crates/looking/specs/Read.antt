-- What is asked of the record sheet that is looked at, how a row's number, bytes and size are held, and which child has a name.
-- Assumes nothing.
use Rattle.std.specs.Prelude.{true, cond, List, ◌≡◌, ℕ, ◌+◌, ◌<◌, ℤ, eqb, length, Option as Found, Some, None}
use Rattle.std.proofs.Math.Option.{Option, none, some}
use Rattle.laws.specs.Lowest.{lowest}
use Rattle.decimal.specs.declared.Decimal.{Decimal}
use Rattle.decimal.specs.Value.{value, Plain}
use Rattle.text.specs.declared.Range.{Range}
use Rattle.text.specs.Part.{fits, part}
use Rattle.sheet.specs.declared.record.RecordForm.{RecordForm}
use Rattle.sheet.specs.Kinds.{kind_number}
use Rattle.sheet.specs.Doc.{Value, value_kind, Doc, Child, first_child, child_count, is_object}
use Rattle.sheet.specs.Record.{text_word, doc_of}
use Rattle.sheet.specs.Accepted.{Laid}
use Rattle.meaning.specs.Tests.{number?, bytes?}
use Rattle.meaning.specs.Rules.{called}

-- no row of the record breaks the layout, the text has the length that its trailer says, and no two children of an object share a name
pub record RecordRead (ws ts : List ℕ) (form : RecordForm) : Type 0 where
  pub laid : Laid ws form
  pub text_length : length ts ≡ text_word ws
  pub differ : (j k l : ℕ) → j < form.rows → is_object ((doc_of ws ts).value j) ≡ true → Child (doc_of ws ts) j k → Child (doc_of ws ts) j l → k < l
      → (doc_of ws ts).name k ≡ (doc_of ws ts).name l → ⊥

-- ---- numbers, strings and sizes

abbrev pub number_in : Found Decimal → Option ℤ
number_in (Some d) = some (value d)
number_in None = none

abbrev pub PlainIn : Found Decimal → Type 0
PlainIn (Some d) = Plain d
PlainIn None = Unit

-- r holds the number of a value that is one, within the limits of exact arithmetic
pub record NumberFound (v : Value) (r : Found Decimal) : Type 0 where
  pub number_is : number? v ≡ number_in r
  pub plain : PlainIn r

abbrev pub bytes_in : List ℕ → Found Range → Option (List ℕ)
bytes_in ts (Some r) = some (part ts r)
bytes_in ts None = none

abbrev pub FitsIn : ℕ → Found Range → Type 0
FitsIn n (Some r) = fits n r ≡ true
FitsIn n None = Unit

-- r holds where in this text the bytes of a value stand that is a string
pub record StringFound (ts : List ℕ) (v : Value) (r : Found Range) : Type 0 where
  pub bytes_is : bytes? v ≡ bytes_in ts r
  pub inside : FitsIn (length ts) r

abbrev pub size_in : Found ℕ → Option ℕ
size_in (Some n) = some n
size_in None = none

-- how many children a value of the kind that has this number has
abbrev pub count_if : ℕ → Value → Option ℕ
count_if kind v = cond (eqb (kind_number (value_kind v)) kind) (some (child_count v)) none

-- 0 where there is none
abbrev pub or_none : Option ℕ → ℕ
or_none none = 0
or_none (some n) = n

-- how many there are by this measure, if there can be any
abbrev pub size_by : (List ℕ → ℕ) → Option (List ℕ) → Option ℕ
size_by size none = none
size_by size (some xs) = some (size xs)

abbrev pub size_of : Option (List ℕ) → Option ℕ
size_of xs = size_by length xs

-- ---- names

-- which child of row j, counted from 0, is the first that has this name; the number of children if none has it
abbrev pub child_named : Doc → ℕ → List ℕ → ℕ
child_named d j name = lowest (λ i. called d name (first_child (d.value j) + i)) (child_count (d.value j))
