-- The listing of a queue (paper 02, #107): four words for each record, the start and the length of its words in one word slice, then of its text in one byte slice.
-- A call is refused, before anything is judged, by the first of three lines: 30, a listing whose length four does not divide, or of more than 512 records (place 0); 31, a
-- range that does not lie in its slice (place: the lowest such record); 32, fewer answers than records (place: the records given).
-- Assumes nothing.
use Rattle.std.specs.Prelude.{ℕ, ◌+◌, ◌*◌, ◌/◌, ◌%◌, ◌≤◌, ◌<◌, Bool, false, not, ◌||◌, Result, Ok, Err, List, [], ◌∷◌, ◌≡◌, eqb, ltb, length, get_or}
use Rattle.text.specs.declared.Range.{Range}
use Rattle.text.specs.Part.{fits}
use Rattle.sheet.specs.Refusals.{Outcome, accepted, refused, Line, lowest_line, first_line}
use Rattle.listing.specs.declared.QueueRefused.{QueueRefused}
use Rattle.listing.specs.declared.QueueRefused.TheVariants.{BadListing, Outside, FewAnswers}

abbrev pub most_records : ℕ
most_records = 512

-- how many records are given
abbrev pub records_in : List ℕ → ℕ
records_in listing = length listing / 4

-- where the words and the text of record k stand
abbrev pub words_at : List ℕ → ℕ → Range
words_at listing k = record { start = get_or listing (4 * k) 0; length = get_or listing (4 * k + 1) 0 }

abbrev pub text_at : List ℕ → ℕ → Range
text_at listing k = record { start = get_or listing (4 * k + 2) 0; length = get_or listing (4 * k + 3) 0 }

-- record k does not lie in slices of so many words and bytes: each range's end is exact
unfoldable pub outside : ℕ → ℕ → List ℕ → ℕ → Bool
outside words bytes listing k = not (fits words (words_at listing k)) || not (fits bytes (text_at listing k))

abbrev pub bad_listing : List ℕ → Bool
bad_listing listing = not (eqb (length listing % 4) 0) || ltb (4 * most_records) (length listing)

-- the refusal table of the call, for slices and an answer area of so many elements
abbrev pub queue_lines : (words bytes answers : ℕ) → List ℕ → List Line
queue_lines words bytes answers listing =
    record { number = 30; applies = bad_listing listing; place = 0 } ∷ lowest_line 31 0 (records_in listing) (outside words bytes listing)
    ∷ record { number = 32; applies = ltb answers (records_in listing); place = records_in listing } ∷ []

-- what the call gives: how many records were answered, or a refusal
unfoldable pub queue_outcome : (words bytes answers : ℕ) → List ℕ → Outcome
queue_outcome words bytes answers listing = first_line (queue_lines words bytes answers listing) (records_in listing)

-- an answer of the call, in 02's numbers
abbrev pub Queued : Type 0
Queued = Result ℕ QueueRefused

abbrev pub queued_outcome : Queued → Outcome
queued_outcome (Ok many) = accepted many
queued_outcome (Err BadListing) = refused 30 0
queued_outcome (Err (Outside place)) = refused 31 place
queued_outcome (Err (FewAnswers place)) = refused 32 place

-- every record lies in the slices, and there is an answer for each
pub record Tested (words bytes answers : ℕ) (listing : List ℕ) : Type 0 where
  pub all_within : (i : ℕ) → i < records_in listing → outside words bytes listing i ≡ false
  pub answers_enough : records_in listing ≤ answers
