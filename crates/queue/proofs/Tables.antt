-- What the call leaves, by what its listing is answered.
--     refused_left         a refused call leaves all as it was
--     tested, all_left     a call that is not refused: its records lie in the slices, and what judging all of them leaves
-- Assumes nothing.
use mathlib.Core.List.{List, [], ◌∷◌, ◌++◌}
use mathlib.Core.Path.{◌≡◌, sym, ap, ◌∙◌}
use Prim.Native.Nat.{ℕ}
use lib.ListN.{length, drop}
use Rattle.std.specs.Prelude.{Ok, Err}
use Rattle.sheet.specs.Refusals.{Outcome, accepted, refused}
use Rattle.meaning.specs.Lists.{range}
use Rattle.listing.specs.declared.QueueRefused.{QueueRefused}
use Rattle.listing.specs.declared.QueueRefused.TheVariants.{BadListing, Outside, FewAnswers}
use Rattle.listing.specs.Listing.{records_in, queue_outcome, queued_outcome, Tested}
use Rattle.listing.proofs.Tables.{answered}
use Rattle.queue.specs.Queue.{Judged, one_by_one, unless, judge_queue, queue_leaves}
use Rattle.queue.specs.Parts.{AllJudged}

module _ (ws bs listing rs us cs ls ns : List ℕ) where
  abbrev all : Judged
  all = one_by_one ws bs listing rs us (range 0 (records_in listing)) cs ls

  abbrev outcome : Outcome
  outcome = queue_outcome (length ws) (length bs) (length ns) listing

  by_outcome : (o : Outcome) → o ≡ outcome → unless o cs ls ns all ≡ judge_queue ws bs listing rs us cs ls ns
  unfolding judge_queue
  by_outcome o e = ap (λ x. unless x cs ls ns all) e

  pub refused_left : (r : QueueRefused) → queued_outcome (Err r) ≡ outcome → queue_leaves ws bs listing rs us cs ls ns (Err r) cs ls ns
  refused_left BadListing e = by_outcome (refused 30 0) e
  refused_left (Outside place) e = by_outcome (refused 31 place) e
  refused_left (FewAnswers place) e = by_outcome (refused 32 place) e

  module _ (k : ℕ) (e : accepted k ≡ outcome) where
    pub tested : Tested (length ws) (length bs) (length ns) listing
    tested = (answered (length ws) (length bs) (length ns) listing k (sym e)).tested

    pub all_left : {cells list numbers : List ℕ} → AllJudged ws bs listing rs us cs ls ns cells list numbers → queue_leaves ws bs listing rs us cs ls ns (Ok k) cells list numbers
    all_left {numbers = numbers} a =
        let many : k ≡ records_in listing = (answered (length ws) (length bs) (length ns) listing k (sym e)).count_is in
        let behind : numbers ≡ all.numbers ++ drop k ns = a.answers_are ∙ ap (λ (x : ℕ). all.numbers ++ drop x ns) (sym many) in
        (λ i. record { outcome = accepted k; cells = a.cells_are i; list = a.list_is i; answers = behind i }) ∙ by_outcome (accepted k) e
