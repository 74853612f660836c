-- What the promises of the calls come to: any two outcomes that one allows are equal, it meets the demands, and both give the same verdict.
--     answer_one     two answers with 01's same numbers are the same answer
--     call_one       the answer, the cells and the list of a call are determined by its inputs
--     judge_demands  the three demands of every call, full or for the verdict only
--     verdict_full   the verdict only is that of the full call, on every input, where that call's list is long enough
-- Assumes nothing.
use mathlib.Core.Bool.{Bool, true, false}
use mathlib.Core.List.{List, []}
use mathlib.Core.Path.{◌≡◌, sym, ap, ◌∙◌}
use Prim.Native.Nat.{ℕ, ◌*◌, ◌≤◌}
use lib.ListN.{length}
use Rattle.std.specs.Prelude.{Ok, Err}
use Rattle.sheet.specs.Record.{rows_word}
use Rattle.rulesheet.specs.Sheet.{schemas_word}
use Rattle.meaning.specs.Rules.{Way}
use Rattle.sheet.specs.Refusals.{refusal_number}
use Rattle.sheet.proofs.Tables.{number_one, same_refused}
use Rattle.meaning.specs.Answer.{Left, verdict, refuses, uncounted}
use Rattle.meaning.specs.Demands.{Demands}
use Rattle.meaning.proofs.Verdicts.{verdict_same}
use Rattle.meaning.proofs.Demands.{demands}
use Rattle.answer.specs.declared.Judged.{Judged}
use Rattle.answer.specs.Call.{Answer, answer_of, leaves, call_leaves, verdict_leaves}

same_verdict : (j k : Judged) → verdict j.valid j.pairs j.marked ≡ verdict k.valid k.pairs k.marked → j ≡ k
same_verdict j k e = by_kinds j.valid k.valid j.pairs j.marked k.pairs k.marked e
  where
    by_kinds : (v w : Bool) (a b c d : ℕ) → verdict v a b ≡ verdict w c d → ◌≡◌ {A = Judged} (record { valid = v; pairs = a; marked = b }) (record { valid = w; pairs = c; marked = d })
    by_kinds true true a b c d e = let x : a ≡ c = cc in let y : b ≡ d = cc in rw (x, y)
    by_kinds true false a b c d e = cc
    by_kinds false true a b c d e = cc
    by_kinds false false a b c d e = let x : a ≡ c = cc in let y : b ≡ d = cc in rw (x, y)

never_refused : (v : Bool) (a b number place : ℕ) → verdict v a b ≡ refuses number place → ⊥
never_refused true a b number place e = cc
never_refused false a b number place e = cc

pub answer_one : (a b : Answer) → answer_of a ≡ answer_of b → a ≡ b
answer_one (Ok j) (Ok k) e = ap Ok (same_verdict j k e)
answer_one (Ok j) (Err r) e = absurd (never_refused _ _ _ _ _ e)
answer_one (Err r) (Ok j) e = absurd (never_refused _ _ _ _ _ (sym e))
answer_one (Err f) (Err g) e =
    let numbers : refusal_number f.refusal ≡ refusal_number g.refusal = cc in
    let places : f.place ≡ g.place = cc in
    ap Err (same_refused f g (number_one f.refusal g.refusal numbers) places)

module _ (w : Way) (ws ts rs us cells₀ list₀ : List ℕ) where
  pub call_one : (a b : Answer) (c d l k : List ℕ) → leaves w ws ts rs us cells₀ list₀ a c l → leaves w ws ts rs us cells₀ list₀ b d k → (a ≡ b) × (c ≡ d) × (l ≡ k)
  call_one a b c d l k e f =
      let same = e ∙ sym f in
      (answer_one a b (ap (λ (x : Left). x.answer) same), ap (λ (x : Left). x.cells) same, ap (λ (x : Left). x.list) same)

  pub judge_demands : (r : Answer) (cells list : List ℕ) → leaves w ws ts rs us cells₀ list₀ r cells list
      → Demands w ws ts rs us cells₀ list₀ (record { answer = answer_of r; cells = cells; list = list })
  judge_demands r cells list e = demands w ws ts rs us cells₀ list₀ (record { answer = answer_of r; cells = cells; list = list }) e

pub verdict_full : (ws ts rs us cells₀ list₀ : List ℕ) (r s : Answer) (c d l : List ℕ) → rows_word ws * schemas_word rs ≤ length list₀
    → verdict_leaves ws ts rs us cells₀ r c → call_leaves ws ts rs us cells₀ list₀ s d l → uncounted (answer_of r) ≡ uncounted (answer_of s)
verdict_full ws ts rs us cells₀ list₀ r s c d l h e f =
    ap (λ (x : Left). uncounted x.answer) e ∙ verdict_same ws ts rs us cells₀ [] list₀ h ∙ sym (ap (λ (x : Left). uncounted x.answer) f)
