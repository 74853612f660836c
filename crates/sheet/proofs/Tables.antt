-- The refusal table, line by line, and that an answer is determined by its numbers.
--     line_passed, line_given        a line of the form `lowest_line` that does not apply, and one that does
--     test_passed, test_given        the same of a line with a single place
--     refused_at, line_told          what a line that applies gives
--     outcome_one                    two answers with 01's same numbers are the same answer
-- Assumes nothing.
use mathlib.Core.Bool.{Bool, true, false}
use mathlib.Core.List.{List, ◌∷◌}
use mathlib.Core.Path.{◌≡◌, refl, sym, ap, ◌∙◌}
use Prim.Native.Nat.{ℕ, ◌+◌, ◌≤◌, ◌<◌}
use lib.Dec.{eqb}
use Rattle.std.specs.Prelude.{Result, Ok, Err, IsErrAnd}
use Rattle.std.proofs.lemmas.Result.{err_from_is_err_and}
use borrow.Author.Tests.{lt-ltb, le-ltb}
use Rattle.laws.specs.Lowest.{lowest}
use Rattle.sheet.specs.declared.refusal.Refusal.{Refusal}
use Rattle.sheet.specs.declared.refusal.Refusal.TheVariants.{RecordTrailer, RecordLayout, RepeatedName, TooDeep, RuleTrailer, RuleLayout, RepeatedEntry, UnguardedLoop, LongChain, FewCells, ShortList, NotUtf8}
use Rattle.sheet.specs.declared.refusal.Refused.{Refused}
use Rattle.sheet.specs.Refusals.{refusal_number, Outcome, refused, outcome_of, Applies, Line, lowest_line, first_line}

module _ (line : Line) (lines : List Line) (rows : ℕ) where
  pub test_passed : line.applies ≡ false → first_line (line ∷ lines) rows ≡ first_line lines rows
  unfolding first_line
  test_passed e = rw e

  pub test_given : line.applies ≡ true → first_line (line ∷ lines) rows ≡ refused line.number line.place
  unfolding first_line
  test_given e = rw e

module _ (number before n : ℕ) (test : ℕ → Bool) (lines : List Line) (rows : ℕ) where
  pub line_passed : n ≤ lowest test n → first_line (lowest_line number before n test ∷ lines) rows ≡ first_line lines rows
  line_passed h = test_passed (lowest_line number before n test) lines rows (le-ltb (lowest test n) n h)

  pub line_given : (place : ℕ) → place ≡ lowest test n → place < n → first_line (lowest_line number before n test ∷ lines) rows ≡ refused number (before + place)
  line_given place e h = test_given (lowest_line number before n test) lines rows (rw (← e) (lt-ltb place n h)) ∙ rw (← e)

-- ---- answers

pick_refusal : Bool → Refusal → Refusal → Refusal
pick_refusal true a b = a
pick_refusal false a b = b

-- the refusal of a number
refusal_of : ℕ → Refusal
refusal_of n =
    pick_refusal (eqb n 1) RecordTrailer
    (pick_refusal (eqb n 2) RecordLayout
    (pick_refusal (eqb n 3) RepeatedName
    (pick_refusal (eqb n 4) TooDeep
    (pick_refusal (eqb n 5) RuleTrailer
    (pick_refusal (eqb n 6) RuleLayout
    (pick_refusal (eqb n 7) RepeatedEntry
    (pick_refusal (eqb n 8) UnguardedLoop
    (pick_refusal (eqb n 9) LongChain
    (pick_refusal (eqb n 10) FewCells
    (pick_refusal (eqb n 11) ShortList NotUtf8))))))))))

number_back : (f : Refusal) → refusal_of (refusal_number f) ≡ f
unfolding refusal_of pick_refusal
number_back RecordTrailer = refl
number_back RecordLayout = refl
number_back RepeatedName = refl
number_back TooDeep = refl
number_back RuleTrailer = refl
number_back RuleLayout = refl
number_back RepeatedEntry = refl
number_back UnguardedLoop = refl
number_back LongChain = refl
number_back FewCells = refl
number_back ShortList = refl
number_back NotUtf8 = refl

pub number_one : (f g : Refusal) → refusal_number f ≡ refusal_number g → f ≡ g
number_one f g e = sym (number_back f) ∙ ap refusal_of e ∙ number_back g

pub same_refused : (f g : Refused) → f.refusal ≡ g.refusal → f.place ≡ g.place → f ≡ g
same_refused f g refusals places =
    ap (λ (r : Refusal). record { refusal = r; place = f.place }) refusals ∙ ap (λ (p : ℕ). record { refusal = g.refusal; place = p }) places

pub outcome_one : (a b : Result ℕ Refused) → outcome_of a ≡ outcome_of b → a ≡ b
outcome_one (Ok n) (Ok m) e = let q : n ≡ m = cc in ap Ok q
outcome_one (Ok n) (Err g) e = cc
outcome_one (Err f) (Ok m) e = cc
outcome_one (Err f) (Err g) e =
    let numbers : refusal_number f.refusal ≡ refusal_number g.refusal = cc in
    let places : f.place ≡ g.place = cc in
    ap Err (same_refused f g (number_one f.refusal g.refusal numbers) places)

-- a refusal that a line gave has its number and place, and so has the check that leaves with it
module _ {refusal : Refusal} {before lowest count : ℕ} {given : Refused} (h : Applies refusal before lowest count given) (place : ℕ) (same : before + lowest ≡ place) {o : Outcome}
    (e : o ≡ refused (refusal_number refusal) place) where
  pub refused_at : outcome_of (Err given) ≡ o
  refused_at = rw (h.why, h.at, same) (sym e)

  pub line_told : (r : Result ℕ Refused) → IsErrAnd r (λ e. e ≡ given) → outcome_of r ≡ o
  line_told r left = let p = err_from_is_err_and r left in rw (p.1, p.2) refused_at
