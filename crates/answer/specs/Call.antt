-- The promises of the two calls: the answer, and what is left in the areas, are the specification's (`judge` in crate `meaning`), for every input.
-- Assumes nothing.
use Rattle.std.specs.Prelude.{List, [], ◌≡◌, ℕ, Result, Ok, Err}
use Rattle.sheet.specs.declared.refusal.Refused.{Refused}
use Rattle.sheet.specs.Refusals.{refusal_number}
use Rattle.meaning.specs.Rules.{Way, whole, cut}
use Rattle.meaning.specs.Answer as A
use Rattle.meaning.specs.Answer.{verdict, refuses, Left, judge}
use Rattle.answer.specs.declared.Judged.{Judged}

abbrev pub Answer : Type 0
Answer = Result Judged Refused

-- 01's numbers for each case of the answer
abbrev pub answer_of : Answer → A.Answer
answer_of (Ok j) = verdict j.valid j.pairs j.marked
answer_of (Err r) = refuses (refusal_number r.refusal) r.place

abbrev pub leaves : Way → (ws ts rs us cells₀ list₀ : List ℕ) → Answer → (cells list : List ℕ) → Type 0
leaves w ws ts rs us cells₀ list₀ r cells list = ◌≡◌ {A = Left} (record { answer = answer_of r; cells = cells; list = list }) (judge w ws ts rs us cells₀ list₀)

-- of the full call
abbrev pub call_leaves : (ws ts rs us cells₀ list₀ : List ℕ) → Answer → (cells list : List ℕ) → Type 0
call_leaves = leaves whole

-- of the call for the verdict only, which has no list
abbrev pub verdict_leaves : (ws ts rs us cells₀ : List ℕ) → Answer → (cells : List ℕ) → Type 0
verdict_leaves ws ts rs us cells₀ r cells = leaves cut ws ts rs us cells₀ [] r cells []
