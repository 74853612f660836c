-- A text without fault, whose levels are counted, is written if the areas are long enough: lines 27 and 28 of the call (02, #101) and its success, as
-- reader/specs/Call.antt has them.
-- Assumes nothing.
use Rattle.std.specs.Prelude.{Result, Ok, Err, List, ◌≡◌, ℕ, zero, suc, ◌+◌, ◌<◌, length, get_or}
use Rattle.std.proofs.Math.Option.{none}
use Rattle.sheet.specs.Kinds.{number_max}
use Rattle.sheet.specs.Refusals.{Outcome, accepted, refused}
use Rattle.jsontext.specs.Text.{Text, bytes}
use Rattle.jsontext.specs.Starts.{text_starts}
use Rattle.reader.specs.Faults.{first_fault}
use Rattle.reader.specs.Call.{text_made, words_made, text_outcome, area_after}
use Rattle.tally.specs.Tallying.{tally_of}
use Rattle.tally.specs.declared.Units.{Units}
use Rattle.tally.proofs.Tallied.{Tallied}
use Rattle.laying.specs.declared.Refusal.{Refusal}
use Rattle.laying.specs.declared.Refusal.TheVariants.{TooLong, NotJson, RepeatedName, FewWords, ShortText}
use Rattle.laying.specs.declared.Refused.{Refused}

-- ---- where the levels start

-- the counters of the levels above level k, added up
unfoldable pub start_at : List ℕ → ℕ → ℕ
start_at counters zero = 0
start_at counters (suc k) = start_at counters k + get_or counters k 0

-- the first k cells hold the starts of their levels
abbrev pub Started : List ℕ → List ℕ → ℕ → Type 0
Started counters cells k = (j : ℕ) → j < k → get_or cells j 0 ≡ start_at counters j

-- ---- the call

-- 01's number of each refusal that is no fault of the first pass
abbrev pub refusal_number : Refusal → ℕ
refusal_number TooLong = 20
refusal_number NotJson = 21
refusal_number RepeatedName = 25
refusal_number FewWords = 27
refusal_number ShortText = 28

-- an answer, as reader/specs/Call.antt has it
abbrev pub outcome_of : Result ℕ Refused → Outcome
outcome_of (Ok rows) = accepted rows
outcome_of (Err r) = refused r.number r.place

-- these bytes are of a text without fault, and the counters are its levels'
pub record Countable (json values texts : List ℕ) : Type 0 where
  pub of : Text
  pub spelled : bytes of ≡ json
  pub clean : first_fault 0 (text_starts number_max of) ≡ none
  pub units : Units
  pub counted : Tallied of (tally_of units values texts)

-- the answer for a text, and the areas at the end
pub record Laid (t : Text) (words room : List ℕ) (r : Result ℕ Refused) (words' room' : List ℕ) : Type 0 where
  pub answered : outcome_of r ≡ text_outcome t (length words) (length room)
  pub words_are : words' ≡ area_after (text_outcome t (length words) (length room)) (words_made t) words
  pub room_is : room' ≡ area_after (text_outcome t (length words) (length room)) (text_made t) room
