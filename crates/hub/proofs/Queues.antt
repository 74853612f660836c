-- The demands, of a queue's number and its answers.
--     queue_told       the number, the areas and the answers, from what the call leaves
--     queue_one        any two outcomes that the promise allows are equal
--     queue_demands    every call's number tells what the table gives, and each answer of it meets the demands
-- Assumes nothing.
use mathlib.Core.List.{List, [], ◌∷◌, ◌++◌}
use mathlib.Core.Path.{◌≡◌, refl, sym, ap, ◌∙◌}
use Prim.Native.Nat.{ℕ, zero, suc}
use lib.ListN.{length, drop}
use Rattle.text.specs.Part.{part}
use Rattle.sheet.specs.Refusals.{Outcome, accepted, refused}
use Rattle.meaning.specs.Lists.{all, range}
use Rattle.meaning.specs.Rules.{whole}
use Rattle.meaning.specs.Answer.{number_for_c, judge}
use Rattle.number.specs.Called.{outcome_answer, Called}
use Rattle.listing.specs.Listing.{records_in, words_at, text_at, Queued, queue_lines, queue_outcome, queued_outcome}
use Rattle.queue.specs.Queue.{Judged, one_by_one, Left, unless, judge_queue, queue_leaves}
use Rattle.hub.specs.Entry.{QueueCalled, EachMeets, no_more, one_more, QueueDemands}
use Rattle.hub.proofs.Numbers.{number_demands}
use Rattle.hub.proofs.Checks.{Small, small_first, tells}

module _ (ws bs listing rs us cs ls ns : List ℕ) where
  abbrev left : Left
  left = judge_queue ws bs listing rs us cs ls ns

  abbrev outcome : Outcome
  outcome = queue_outcome (length ws) (length bs) (length ns) listing

  abbrev judged : Judged
  judged = one_by_one ws bs listing rs us (range 0 (records_in listing)) cs ls

  pub queue_told : (q : Queued) {cells list answers : List ℕ} {r : ℕ} → queue_leaves ws bs listing rs us cs ls ns q cells list answers
      → r ≡ number_for_c (outcome_answer (queued_outcome q)) → QueueCalled ws bs listing rs us cs ls ns cells list answers r
  queue_told q e n =
      record {
        number_is = n ∙ ap (λ (x : Left). number_for_c (outcome_answer x.outcome)) e;
        cells_are = ap (λ (x : Left). x.cells) e;
        list_is = ap (λ (x : Left). x.list) e;
        answers_are = ap (λ (x : Left). x.answers) e;
      }

  pub queue_one : {cells cells' list list' answers answers' : List ℕ} {r r' : ℕ} → QueueCalled ws bs listing rs us cs ls ns cells list answers r
      → QueueCalled ws bs listing rs us cs ls ns cells' list' answers' r' → (r ≡ r') × (cells ≡ cells') × (list ≡ list') × (answers ≡ answers')
  queue_one a b =
      (a.number_is ∙ sym b.number_is, a.cells_are ∙ sym b.cells_are, a.list_is ∙ sym b.list_is, a.answers_are ∙ sym b.answers_are)

  -- ---- each record

  meets : (ks cs ls : List ℕ) → (let j = one_by_one ws bs listing rs us ks cs ls in EachMeets ws bs listing rs us ks cs ls j.numbers j.cells j.list)
  unfolding one_by_one
  meets [] cs ls = no_more
  meets (k ∷ ks) cs ls =
      let one = judge whole (part ws (words_at listing k)) (part bs (text_at listing k)) rs us cs ls in
      one_more
      (number_demands whole (part ws (words_at listing k)) (part bs (text_at listing k)) rs us cs ls {cells = one.cells} {list = one.list} {r = number_for_c one.answer}
      (record { number_is = refl; cells_are = refl; list_is = refl }))
      (meets ks one.cells one.list)

  as_many : (many k : ℕ) (cs ls : List ℕ) → length (one_by_one ws bs listing rs us (range k many) cs ls).numbers ≡ many
  unfolding one_by_one range
  as_many zero k cs ls = refl
  as_many (suc many) k cs ls = ap suc (as_many many (suc k) _ _)

  -- ---- the call

  by_outcome : (o : Outcome) → outcome ≡ o → left ≡ unless o cs ls ns judged
  unfolding judge_queue
  by_outcome o e = ap (λ x. unless x cs ls ns judged) e

  outcome_is : (o : Outcome) → outcome ≡ o → left.outcome ≡ outcome
  outcome_is (accepted many) e = ap (λ (x : Left). x.outcome) (by_outcome (accepted many) e) ∙ sym e
  outcome_is (refused number place) e = ap (λ (x : Left). x.outcome) (by_outcome (refused number place) e) ∙ sym e

  small : Small outcome
  unfolding all queue_outcome
  small = small_first (queue_lines (length ws) (length bs) (length ns) listing) (records_in listing) refl

  pub queue_demands : {cells list answers : List ℕ} {r : ℕ} → QueueCalled ws bs listing rs us cs ls ns cells list answers r
      → QueueDemands ws bs listing rs us cs ls ns cells list answers r
  queue_demands {r = r} q =
      record {
        tells = tells outcome small r (q.number_is ∙ ap (λ (o : Outcome). number_for_c (outcome_answer o)) (outcome_is outcome refl));
        refused_same = λ number place e.
            let same = by_outcome (refused number place) e in
            (q.cells_are ∙ ap (λ (x : Left). x.cells) same, q.list_is ∙ ap (λ (x : Left). x.list) same, q.answers_are ∙ ap (λ (x : Left). x.answers) same);
        numbers = judged.numbers;
        numbers_first = λ e.
            (as_many (records_in listing) 0 cs ls, q.answers_are ∙ ap (λ (x : Left). x.answers) (by_outcome (accepted (records_in listing)) e));
        each = λ e.
            let done = by_outcome (accepted (records_in listing)) e in
            rw (q.cells_are ∙ ap (λ (x : Left). x.cells) done, q.list_is ∙ ap (λ (x : Left). x.list) done) (meets (range 0 (records_in listing)) cs ls);
      }
