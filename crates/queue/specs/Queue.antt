-- A whole queue (paper 02, #107): the records of a listing are judged one by one, in order, each by the base's call (`judge` in crate `meaning`) with the areas as the
-- one before left them, and each answer's 64-bit number (`number_for_c`) is written to the answers. A refused record is a call that changes no area. A refused queue
-- changes nothing.
-- Assumes nothing.
use Rattle.std.specs.Prelude.{ℕ, List, [], ◌∷◌, ◌++◌, ◌≡◌, length, drop}
use Rattle.text.specs.Part.{part}
use Rattle.sheet.specs.Refusals.{Outcome, accepted, refused}
use Rattle.meaning.specs.Lists.{range}
use Rattle.meaning.specs.Rules.{whole}
use Rattle.meaning.specs.Answer.{number_for_c, judge}
use Rattle.listing.specs.Listing.{records_in, words_at, text_at, Queued, queue_outcome, queued_outcome}

-- the answers' numbers, and the areas, once some records were judged
pub record Judged : Type 0 where
  pub numbers : List ℕ
  pub cells : List ℕ
  pub list : List ℕ

-- the records of these numbers, one after the other
unfoldable pub one_by_one : (words bytes listing rules rule_text : List ℕ) → List ℕ → (cells list : List ℕ) → Judged
one_by_one ws bs listing rs us [] cs ls = record { numbers = []; cells = cs; list = ls }
one_by_one ws bs listing rs us (k ∷ ks) cs ls =
    let left = judge whole (part ws (words_at listing k)) (part bs (text_at listing k)) rs us cs ls in
    let rest = one_by_one ws bs listing rs us ks left.cells left.list in
    record { numbers = number_for_c left.answer ∷ rest.numbers; cells = rest.cells; list = rest.list }

-- what the call gives, and what it leaves in the areas
pub record Left : Type 0 where
  pub outcome : Outcome
  pub cells : List ℕ
  pub list : List ℕ
  pub answers : List ℕ

abbrev pub unless : Outcome → (cells list answers : List ℕ) → Judged → Left
unless (accepted many) cs ls ns all = record { outcome = accepted many; cells = all.cells; list = all.list; answers = all.numbers ++ drop many ns }
unless (refused number place) cs ls ns all = record { outcome = refused number place; cells = cs; list = ls; answers = ns }

unfoldable pub judge_queue : (words bytes listing rules rule_text cells list answers : List ℕ) → Left
judge_queue ws bs listing rs us cs ls ns =
    let all = one_by_one ws bs listing rs us (range 0 (records_in listing)) cs ls in
    unless (queue_outcome (length ws) (length bs) (length ns) listing) cs ls ns all

-- the promise of the call, for every input
abbrev pub queue_leaves : (words bytes listing rules rule_text cells₀ list₀ answers₀ : List ℕ) → Queued → (cells list answers : List ℕ) → Type 0
queue_leaves ws bs listing rs us cells₀ list₀ answers₀ r cells list answers =
    ◌≡◌ {A = Left} (record { outcome = queued_outcome r; cells = cells; list = list; answers = answers }) (judge_queue ws bs listing rs us cells₀ list₀ answers₀)
