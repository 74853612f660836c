-- The refusal table (paper 01, "Refusal table"): its lines are asked in order, and the first that applies gives the refusal's number and place.
-- Assumes nothing.
use Rattle.std.specs.Prelude.{Bool, cond, List, [], ◌∷◌, ◌≡◌, ℕ, ◌+◌, ◌<◌, ltb, Result, Ok, Err}
use Rattle.laws.specs.Lowest.{lowest}
use Rattle.sheet.specs.declared.refusal.Refusal.{Refusal}
use Rattle.sheet.specs.declared.refusal.Refusal.TheVariants.{RecordTrailer, RecordLayout, RepeatedName, TooDeep, RuleTrailer, RuleLayout, RepeatedEntry, UnguardedLoop, LongChain, FewCells, ShortList, NotUtf8}
use Rattle.sheet.specs.declared.refusal.Refused.{Refused}

-- the number of each refusal: 01's, and 13 of request #102
abbrev pub refusal_number : Refusal → ℕ
refusal_number RecordTrailer = 1
refusal_number RecordLayout = 2
refusal_number RepeatedName = 3
refusal_number TooDeep = 4
refusal_number RuleTrailer = 5
refusal_number RuleLayout = 6
refusal_number RepeatedEntry = 7
refusal_number UnguardedLoop = 8
refusal_number LongChain = 9
refusal_number FewCells = 10
refusal_number ShortList = 11
refusal_number NotUtf8 = 13

-- what a check gives: the number of rows (of the record, or of the rules: the schemas), or a refusal's number and place
pub data Outcome : Type 0 where
  accepted : ℕ → Outcome
  refused : ℕ → ℕ → Outcome

-- an answer, in 01's numbers
abbrev pub outcome_of : Result ℕ Refused → Outcome
outcome_of (Ok rows) = accepted rows
outcome_of (Err r) = refused (refusal_number r.refusal) r.place

-- what a check answers at a line that applies: places count the things `before` first, and the lowest at fault is one of `count`
pub record Applies (refusal : Refusal) (before lowest count : ℕ) (r : Refused) : Type 0 where
  pub among : lowest < count
  pub why : r.refusal ≡ refusal
  pub at : r.place ≡ before + lowest

-- a line of the table: its number, whether it applies, and its place
pub record Line : Type 0 where
  pub number : ℕ
  pub applies : Bool
  pub place : ℕ

-- a line that applies where one of n things passes the test, and gives the lowest; places count the things `before` them first
abbrev pub lowest_line : ℕ → ℕ → ℕ → (ℕ → Bool) → Line
lowest_line number before n test = record { number = number; applies = ltb (lowest test n) n; place = before + lowest test n }

-- the first line that applies, or else what acceptance gives
unfoldable pub first_line : List Line → ℕ → Outcome
first_line [] rows = accepted rows
first_line (line ∷ lines) rows = cond line.applies (refused line.number line.place) (first_line lines rows)
