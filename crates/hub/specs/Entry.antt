-- The promises to C (paper 01, "What the judge does"; paper 02, #101, #103, #105 and #107): one 64-bit number for the specification's answer, by one definition for every
-- call (`number_for_c`), and of judging and reading the specification's areas (`Called` in crate `number`, and here of a queue and of a text); and what they come to.
-- Assumes nothing.
use Rattle.std.specs.Prelude.{List, [], ◌∷◌, ◌++◌, ◌≡◌, ℕ, ◌+◌, ◌/◌, ◌%◌, length, drop}
use Rattle.text.specs.Part.{part}
use Rattle.sheet.specs.Refusals.{Outcome, accepted, refused}
use Rattle.meaning.specs.Lists.{range}
use Rattle.meaning.specs.Rules.{Way, whole}
use Rattle.meaning.specs.Answer.{Answer, valid, invalid, refuses, number_for_c}
use Rattle.meaning.specs.Demands.{Demands}
use Rattle.number.specs.Called.{outcome_answer}
use Rattle.listing.specs.Listing.{records_in, words_at, text_at, queue_outcome}
use Rattle.queue.specs.Queue.{judge_queue}
use Rattle.reader.specs.Call.{Reads}
use Rattle.reader.specs.Made.{Made}

-- ---- a queue

-- the number, the areas and the answers are each said to be one value, of the words, texts, listing and areas at entry
pub record QueueCalled (ws bs listing rs us cells₀ list₀ answers₀ cells list answers : List ℕ) (r : ℕ) : Type 0 where
  pub number_is : r ≡ number_for_c (outcome_answer (judge_queue ws bs listing rs us cells₀ list₀ answers₀).outcome)
  pub cells_are : cells ≡ (judge_queue ws bs listing rs us cells₀ list₀ answers₀).cells
  pub list_is : list ≡ (judge_queue ws bs listing rs us cells₀ list₀ answers₀).list
  pub answers_are : answers ≡ (judge_queue ws bs listing rs us cells₀ list₀ answers₀).answers

-- ---- reading

-- the number is that of what reading gives, and both areas are as it leaves them; there is one such outcome (`read_one` in `proofs/Readings.antt`)
pub record ReadCalled (json words₀ text₀ words text : List ℕ) (r : ℕ) : Type 0 where
  pub outcome : Outcome
  pub reads : Reads json words₀ text₀ (record { outcome = outcome; words = words; room = text })
  pub number_is : r ≡ number_for_c (outcome_answer outcome)

-- ---- what the number tells

-- of an answer: its lowest byte the case, what stands above it the count or the place
pub data Tells (r : ℕ) : Answer → Type 0 where
  tells_valid : {count marks : ℕ} → r % 256 ≡ 0 → r / 256 ≡ count → Tells r (valid count marks)
  tells_invalid : {count marks : ℕ} → r % 256 ≡ 1 → r / 256 ≡ count → Tells r (invalid count marks)
  tells_refused : {number place : ℕ} → r % 256 ≡ 10 + number → r / 256 ≡ place → Tells r (refuses number place)

-- the number tells an answer that meets the demands, with the areas as they are left
pub record NumberDemands (w : Way) (ws ts rs us cells₀ list₀ cells list : List ℕ) (r : ℕ) : Type 0 where
  pub answer : Answer
  pub tells : Tells r answer
  pub demands : Demands w ws ts rs us cells₀ list₀ (record { answer = answer; cells = cells; list = list })

-- each record's number tells an answer that meets the demands, with the areas as the record before left them
pub data EachMeets (ws bs listing rs us : List ℕ) : (records cells₀ list₀ numbers cells list : List ℕ) → Type 0 where
  no_more : {cs ls : List ℕ} → EachMeets ws bs listing rs us [] cs ls [] cs ls
  one_more : {k r : ℕ} {ks ns cs ls cs' ls' cells list : List ℕ} → NumberDemands whole (part ws (words_at listing k)) (part bs (text_at listing k)) rs us cs ls cs' ls' r
      → EachMeets ws bs listing rs us ks cs' ls' ns cells list → EachMeets ws bs listing rs us (k ∷ ks) cs ls (r ∷ ns) cells list

-- the number tells what the table of the queue gives; a refused queue leaves all as it was; otherwise the first numbers of the answers are the records'
pub record QueueDemands (ws bs listing rs us cells₀ list₀ answers₀ cells list answers : List ℕ) (r : ℕ) : Type 0 where
  pub tells : Tells r (outcome_answer (queue_outcome (length ws) (length bs) (length answers₀) listing))
  pub refused_same : (number place : ℕ) → queue_outcome (length ws) (length bs) (length answers₀) listing ≡ refused number place
      → (cells ≡ cells₀) × (list ≡ list₀) × (answers ≡ answers₀)
  pub numbers : List ℕ
  pub numbers_first : queue_outcome (length ws) (length bs) (length answers₀) listing ≡ accepted (records_in listing)
      → (length numbers ≡ records_in listing) × (answers ≡ numbers ++ drop (records_in listing) answers₀)
  pub each : queue_outcome (length ws) (length bs) (length answers₀) listing ≡ accepted (records_in listing)
      → EachMeets ws bs listing rs us (range 0 (records_in listing)) cells₀ list₀ numbers cells list

-- the number tells what reading gives; a refused text leaves the areas as they were, any other a sheet that passes the record check and means the text's value
pub record ReadDemands (json words₀ text₀ words text : List ℕ) (r : ℕ) : Type 0 where
  pub outcome : Outcome
  pub tells : Tells r (outcome_answer outcome)
  pub refused_same : (number place : ℕ) → outcome ≡ refused number place → (words ≡ words₀) × (text ≡ text₀)
  pub made : (n : ℕ) → outcome ≡ accepted n → Made json words₀ text₀ (record { outcome = outcome; words = words; room = text }) n
