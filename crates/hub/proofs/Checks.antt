-- What the number of a call tells that goes by a table: its outcome.
--     small_first     no line's number is larger than a byte can tell
--     tells           the number of an outcome of such a table tells it
--     check_tells     the lowest byte is the case, what stands above it the rows or the place
-- Assumes nothing.
use mathlib.Core.Bool.{Bool, true, false, cond}
use mathlib.Core.List.{List, [], ◌∷◌, map}
use mathlib.Core.Path.{◌≡◌, refl}
use Prim.Native.Nat.{ℕ, ◌+◌, ◌<◌}
use native.Mathlib.Omega.{arith}
use lib.Dec.{eqb, ltb}
use borrow.Author.Tests.{ltb-true}
use Rattle.laws.proofs.Tests.{left, right}
use Rattle.sheet.specs.Refusals.{Outcome, accepted, refused, Line, first_line}
use Rattle.sheet.specs.Record.{record_kind, rows_word, kind_word}
use Rattle.sheet.specs.Faults.{record_lines, record_outcome}
use Rattle.sheet.proofs.Acceptance.{clash}
use Rattle.rulesheet.specs.Sheet.{schemas_word}
use Rattle.rules.specs.Check.{rule_lines, rules_outcome}
use Rattle.sheetcheck.specs.LastWord.{unknown_kind, no_kind, check_outcome}
use Rattle.meaning.specs.Answer.{number_for_c}
use Rattle.meaning.specs.Lists.{all}
use Rattle.number.specs.Called.{outcome_answer}
use Rattle.hub.specs.Entry.{Tells, tells_valid, tells_refused}
use Rattle.hub.proofs.Numbers.{low, high}

-- the number of a refusal leaves room for ten more in a byte
abbrev pub Small : Outcome → Type 0
Small o = (number place : ℕ) → o ≡ refused number place → number < 246

small_cond : (b : Bool) (o p : Outcome) → Small o → Small p → Small (cond b o p)
small_cond true o p s t = s
small_cond false o p s t = t

pub small_refused : (number place : ℕ) → number < 246 → Small (refused number place)
small_refused number place h n p e = let same : number ≡ n = cc in omega arith

abbrev pub small_line : Line → Bool
small_line line = ltb line.number 246

pub small_first : (lines : List Line) (rows : ℕ) → all (map small_line lines) ≡ true → Small (first_line lines rows)
unfolding first_line all
small_first [] rows h = λ number place e. clash (accepted rows) rows number place refl e
small_first (line ∷ lines) rows h =
    let one = small_line line in
    let others = all (map small_line lines) in
    small_cond line.applies (refused line.number line.place) (first_line lines rows)
    (small_refused line.number line.place (ltb-true line.number 246 (left one others h)))
    (small_first lines rows (right one others h))

-- so its number tells it
pub tells : (o : Outcome) → Small o → (r : ℕ) → r ≡ number_for_c (outcome_answer o) → Tells r (outcome_answer o)
tells (accepted rows) s r e = tells_valid (low rows 0 (omega (arith, e)) (omega arith)) (high rows 0 (omega (arith, e)) (omega arith))
tells (refused number place) s r e =
    let fits : 10 + number < 256 = omega (arith, s number place refl) in
    tells_refused (low place (10 + number) e fits) (high place (10 + number) e fits)

module _ (ws ts : List ℕ) where
  small_record : Small (record_outcome ws ts)
  unfolding all record_outcome
  small_record = small_first (record_lines ws ts) (rows_word ws) refl

  small_rules : Small (rules_outcome ws ts)
  unfolding all rules_outcome
  small_rules = small_first (rule_lines ws ts) (schemas_word ws) refl

  small_check : Small (check_outcome ws ts)
  unfolding check_outcome
  small_check =
      small_cond (no_kind ws) (refused unknown_kind 0) (cond (eqb (kind_word ws) record_kind) (record_outcome ws ts) (rules_outcome ws ts))
      (small_refused unknown_kind 0 (omega arith))
      (small_cond (eqb (kind_word ws) record_kind) (record_outcome ws ts) (rules_outcome ws ts) small_record small_rules)

  pub check_tells : (r : ℕ) → r ≡ number_for_c (outcome_answer (check_outcome ws ts)) → Tells r (outcome_answer (check_outcome ws ts))
  check_tells r e = tells (check_outcome ws ts) small_check r e
