-- What the table of a call gives, line by line.
--     bad_listing_lem, outside_first, answers_short  a refused call
--     all_answered                                 a call that is not refused
--     answered                                     and what that gives: every record lies in the slices and has an answer
-- Assumes nothing.
use mathlib.Core.Bool.{Bool, true, false}
use mathlib.Core.List.{List, [], ◌∷◌}
use mathlib.Core.Logic.{⊎_elim}
use mathlib.Core.Path.{◌≡◌, refl, sym, ap, ◌∙◌}
use Prim.Native.Nat.{ℕ, ◌≤◌, ◌<◌}
use native.Mathlib.Nat.{zero-add}
use native.Mathlib.Omega.{arith}
use lib.Dec.{ltb}
use borrow.Author.Tests.{lt-ltb, le-ltb}
use Rattle.laws.specs.Lowest.{lowest}
use Rattle.laws.proofs.Tests.{decide, le_or_lt}
use Rattle.sheet.specs.Refusals.{Outcome, accepted, refused, Line, first_line}
use Rattle.sheet.proofs.Tables.{test_passed, test_given, line_passed, line_given}
use Rattle.sheet.proofs.Acceptance.{clash, same_count}
use Rattle.listing.specs.Listing.{records_in, outside, bad_listing, queue_outcome, Tested}
use Rattle.listing.proofs.Inside.{none_outside}

module _ (words bytes answers : ℕ) (listing : List ℕ) where
  abbrev many : ℕ
  many = records_in listing

  abbrev away : ℕ → Bool
  away = outside words bytes listing

  abbrev outcome : Outcome
  outcome = queue_outcome words bytes answers listing

  abbrev short : Line
  short = record { number = 32; applies = ltb answers many; place = many }

  pub bad_listing_lem : bad_listing listing ≡ true → outcome ≡ refused 30 0
  unfolding queue_outcome
  bad_listing_lem t = test_given _ _ many t

  module _ (good : bad_listing listing ≡ false) (place : ℕ) (found : place ≡ lowest away many) where
    pub outside_first : place < many → outcome ≡ refused 31 place
    unfolding queue_outcome
    outside_first h = test_passed _ _ many good ∙ line_given 31 0 many away _ many place found h ∙ ap (refused 31) (zero-add place)

    module _ (none : many ≤ place) where
      past_listing : outcome ≡ first_line (short ∷ []) many
      unfolding queue_outcome
      past_listing = test_passed _ _ many good ∙ line_passed 31 0 many away _ many (omega arith)

      pub answers_short : answers < many → outcome ≡ refused 32 many
      answers_short h = past_listing ∙ test_given short [] many (lt-ltb answers many h)

      pub all_answered : many ≤ answers → outcome ≡ accepted many
      unfolding first_line
      all_answered h = past_listing ∙ test_passed short [] many (le-ltb answers many h)

  -- what an accepted listing gives, and that it is answered with the number of its records
  pub record Answers (k : ℕ) : Type 0 where
    pub tested : Tested words bytes answers listing
    pub count_is : k ≡ many

  module _ (k : ℕ) (e : outcome ≡ accepted k) where
    by_answers : (good : bad_listing listing ≡ false) → many ≤ lowest away many → Answers k
    by_answers good none =
        ⊎_elim
        (λ (h : many ≤ answers).
        record {
          tested = record { all_within = none_outside words bytes listing (lowest away many) refl none; answers_enough = h };
          count_is = same_count outcome k many e (all_answered good (lowest away many) refl none h);
        })
        (λ (h : answers < many). clash outcome k 32 many e (answers_short good (lowest away many) refl none h))
        (le_or_lt many answers)

    pub answered : Answers k
    answered =
        ⊎_elim (λ (t : bad_listing listing ≡ true). clash outcome k 30 0 e (bad_listing_lem t))
        (λ (good : bad_listing listing ≡ false).
        ⊎_elim (λ (none : many ≤ lowest away many). by_answers good none)
        (λ (h : lowest away many < many). clash outcome k 31 (lowest away many) e (outside_first good (lowest away many) refl h))
        (le_or_lt many (lowest away many)))
        (decide (bad_listing listing))
