-- A pair clause by clause, as the loop over its clauses finds it; and what settling keeps.
--     res_at, done_at        the result of a pair after its first i clauses, and the pairs settled then
--     res_stays, done_stays  what a failure has stopped stays as it is
--     truth_at, settle_at    after all of them
--     settle_old, settle_kept, settle_self, settle_still, settle_new, settle_grows     what settling a pair does to the list
--     turn_new, turn_grows                                                             and settling some in turn
-- Assumes nothing.
use mathlib.Core.Bool.{true, false, ◌&&◌, cond, true≢false}
use mathlib.Core.List.{List, [], ◌∷◌, ◌++◌, append-nil}
use mathlib.Core.Logic.{⊎_elim}
use mathlib.Core.Path.{◌≡◌, refl, sym, ap, ◌∙◌}
use Prim.Native.Nat.{ℕ, zero, suc, ◌+◌, ◌<◌, ◌≤◌}
use native.Mathlib.Nat.{le_refl, le_trans}
use native.Mathlib.Omega.{arith}
use lib.ListN.{length, drop, length-append}
use lib.Seq.{take-suc, drop-cons}
use Rattle.laws.proofs.Tests.{decide}
use Rattle.unguarded.proofs.Lists.{is_false}
use Rattle.rulesheet.specs.Ruleset.{never, Clause, asserts}
use Rattle.meaning.specs.Rules.{Pair, nothing, ◌∪◌, Result, Judgement, found, answer, applied, and_then, stops, clause, clauses, depth, judgement, applies}
use Rattle.meaning.specs.Settling.{listed, in_turn, settle}
use Rattle.meaning.proofs.Lists.{by_test}
use Rattle.meaning.proofs.Cuts.{cut_result}
use Rattle.meaning.proofs.Judgements.{answer_then, applied_then}
use Rattle.meaning.proofs.Steps.{deep}
use Rattle.meaning.proofs.Truth.{truth_is}
use Rattle.meaning.proofs.Settled.{listed_in, in_listed, not_listed, kept, new, reached_low, settles, settle_is}
use Rattle.plan.proofs.Folds.{turn_append}
use Rattle.lent.specs.Lent.{Case, Fits, clauses_of, clause_at, before_of}
use Rattle.progress.specs.State.{rank_of, truth_of, settle_of}

abbrev pub start : Result
start = record { holds = true; marks = nothing }

unfoldable pub both : Result → Result → Result
both r q = record { holds = r.holds && q.holds; marks = r.marks ∪ q.marks }

-- a schema that fails has no marks
unfoldable pub shut : Result → Result
shut r = record { holds = r.holds; marks = λ k. r.holds && r.marks k }

-- a clause after one that failed, when cut, leaves all as it is
unfoldable pub res_at : Case → Pair → ℕ → Result
res_at T p zero = start
res_at T p (suc i) = cond (stops T.way (res_at T p i)) (res_at T p i) (both (res_at T p i) (answer (truth_of T) (clause T.doc T.way p (before_of T p i) (res_at T p i).marks (clause_at T p i))))

unfoldable pub done_at : Case → Pair → List Pair → ℕ → List Pair
done_at T p d zero = d
done_at T p d (suc i) =
    cond (stops T.way (res_at T p i)) (done_at T p d i)
    (in_turn (settle_of T) (applied (truth_of T) (clause T.doc T.way p (before_of T p i) (res_at T p i).marks (clause_at T p i))) (done_at T p d i))

module _ (T : Case) (p : Pair) where
  abbrev cs : List Clause
  cs = clauses_of T p

  no_clause : {A : Type 0} (i : ℕ) (l : List A) → length l ≤ i → drop i l ≡ []
  no_clause zero [] h = refl
  no_clause (suc i) [] h = refl
  no_clause zero (x ∷ l) h = absurd (omega arith)
  no_clause (suc i) (x ∷ l) h = no_clause i l (omega arith)

  -- the clauses from i on
  next_clause : (i : ℕ) → i < length cs → drop i cs ≡ clause_at T p i ∷ drop (suc i) cs
  next_clause i h = drop-cons cs i (asserts never) h

  pub one_before : (i : ℕ) → i < length cs → before_of T p (suc i) ≡ before_of T p i ++ clause_at T p i ∷ []
  one_before i h = take-suc cs i (asserts never) h

  -- what a failure has stopped stays as it is
  pub res_stays : (i j : ℕ) → stops T.way (res_at T p i) ≡ true → res_at T p (i + j) ≡ res_at T p i
  unfolding res_at
  res_stays i zero e = let z : i + 0 ≡ i = omega arith in rw z
  res_stays i (suc j) e = let z : i + suc j ≡ suc (i + j) = omega arith in rw (z, res_stays i j e, e)

  pub done_stays : (d : List Pair) (i j : ℕ) → stops T.way (res_at T p i) ≡ true → done_at T p d (i + j) ≡ done_at T p d i
  unfolding done_at
  done_stays d i zero e = let z : i + 0 ≡ i = omega arith in rw z
  done_stays d i (suc j) e = let z : i + suc j ≡ suc (i + j) = omega arith in rw (z, res_stays i j e, e) (done_stays d i j e)

  abbrev clause_judgement : ℕ → Judgement
  clause_judgement i = clause T.doc T.way p (before_of T p i) (res_at T p i).marks (clause_at T p i)

  pub res_next : (i : ℕ) → stops T.way (res_at T p i) ≡ false → res_at T p (suc i) ≡ both (res_at T p i) (answer (truth_of T) (clause_judgement i))
  unfolding res_at
  res_next i e = rw e

  pub done_next : (d : List Pair) (i : ℕ) → stops T.way (res_at T p i) ≡ false → done_at T p d (suc i) ≡ in_turn (settle_of T) (applied (truth_of T) (clause_judgement i)) (done_at T p d i)
  unfolding done_at
  done_next d i e = rw e

  -- the clauses from the next on
  after_one : ℕ → Result → Judgement
  unfolding both
  after_one i q = clauses T.doc T.way p (before_of T p i ++ clause_at T p i ∷ []) (both (res_at T p i) q) (drop (suc i) cs)

  one_opened : (i : ℕ) → i < length cs → clauses T.doc T.way p (before_of T p i) (res_at T p i) (drop i cs) ≡ cond (stops T.way (res_at T p i)) (found (res_at T p i)) (and_then (clause_judgement i) (after_one i))
  unfolding clauses both after_one
  one_opened i h = ap (clauses T.doc T.way p (before_of T p i) (res_at T p i)) (next_clause i h)

  one_after : (i : ℕ) → i < length cs → stops T.way (res_at T p i) ≡ false
      → after_one i (answer (truth_of T) (clause_judgement i)) ≡ clauses T.doc T.way p (before_of T p (suc i)) (res_at T p (suc i)) (drop (suc i) cs)
  unfolding after_one
  one_after i h e = rw (one_before i h, res_next i e)

  answer_rest : (j i : ℕ) → i + j ≡ length cs → answer (truth_of T) (clauses T.doc T.way p (before_of T p i) (res_at T p i) (drop i cs)) ≡ res_at T p (i + j)
  unfolding clauses answer
  answer_rest zero i e =
      let z : i + 0 ≡ i = omega arith in
      rw (no_clause i cs (omega arith), z)
  answer_rest (suc j) i e =
      let d : i + suc j ≡ suc i + j = omega arith in
      let h : i < length cs = omega arith in
      ap (answer (truth_of T)) (one_opened i h)
      ∙ ⊎_elim
      (λ (t : stops T.way (res_at T p i) ≡ true). rw t (sym (res_stays i (suc j) t)))
      (λ (t : stops T.way (res_at T p i) ≡ false).
      ap (λ b. answer (truth_of T) (cond b (found (res_at T p i)) (and_then (clause_judgement i) (after_one i)))) t
      ∙ answer_then (truth_of T) (clause_judgement i) (after_one i)
      ∙ ap (answer (truth_of T)) (one_after i h t)
      ∙ rw d (answer_rest j (suc i) (omega arith)))
      (decide (stops T.way (res_at T p i)))

  applied_rest : (d : List Pair) (j i : ℕ) → i + j ≡ length cs
      → in_turn (settle_of T) (applied (truth_of T) (clauses T.doc T.way p (before_of T p i) (res_at T p i) (drop i cs))) (done_at T p d i) ≡ done_at T p d (i + j)
  unfolding clauses applied in_turn
  applied_rest d zero i e =
      let z : i + 0 ≡ i = omega arith in
      rw (no_clause i cs (omega arith), z)
  applied_rest d (suc j) i e =
      let g : i + suc j ≡ suc i + j = omega arith in
      let h : i < length cs = omega arith in
      let J = clause_judgement i in
      ap (λ K. in_turn (settle_of T) (applied (truth_of T) K) (done_at T p d i)) (one_opened i h)
      ∙ ⊎_elim
      (λ (t : stops T.way (res_at T p i) ≡ true). rw t (sym (done_stays d i (suc j) t)))
      (λ (t : stops T.way (res_at T p i) ≡ false).
      ap (λ b. in_turn (settle_of T) (applied (truth_of T) (cond b (found (res_at T p i)) (and_then J (after_one i)))) (done_at T p d i)) t
      ∙ ap (λ l. in_turn (settle_of T) l (done_at T p d i)) (applied_then (truth_of T) J (after_one i))
      ∙ turn_append (settle_of T) (applied (truth_of T) J) (applied (truth_of T) (after_one i (answer (truth_of T) J))) (done_at T p d i)
      ∙ ap (λ K. in_turn (settle_of T) (applied (truth_of T) K) (in_turn (settle_of T) (applied (truth_of T) J) (done_at T p d i))) (one_after i h t)
      ∙ ap (in_turn (settle_of T) (applied (truth_of T) (clauses T.doc T.way p (before_of T p (suc i)) (res_at T p (suc i)) (drop (suc i) cs)))) (sym (done_next d i t))
      ∙ rw g (applied_rest d j (suc i) (omega arith)))
      (decide (stops T.way (res_at T p i)))

module _ (T : Case) (fit : Fits T) where
  -- the result of a pair is that of all its clauses, shut
  pub truth_at : (p : Pair) → truth_of T p ≡ shut (res_at T p (length (clauses_of T p)))
  unfolding judgement answer res_at shut
  truth_at p =
      let z : 0 + length (clauses_of T p) ≡ length (clauses_of T p) = omega arith in
      truth_is T.doc T.rules T.n T.m fit p
      ∙ sym (cut_result T.doc T.rules (truth_of T) T.way p)
      ∙ answer_then (truth_of T) (clauses T.doc T.way p [] start (clauses_of T p)) (λ r. found (shut r))
      ∙ ap shut (rw z at (answer_rest T p (length (clauses_of T p)) 0 z))

  settle_eq : (p : Pair) (d : List Pair) → settle_of T p d ≡ cond (listed p d) d (in_turn (settle_of T) (applies T.doc T.rules T.way p) d ++ p ∷ [])
  unfolding settle_of
  settle_eq p d = settle_is T.doc T.rules T.way T.n T.m fit depth p d (deep T.doc T.rules T.n T.m fit p)

  -- a settled pair settles nothing
  pub settle_old : (p : Pair) (d : List Pair) → listed p d ≡ true → settle_of T p d ≡ d
  settle_old p d h = settle_eq p d ∙ rw h

  -- another one settles what its clauses settle, and itself
  pub settle_at : (p : Pair) (d : List Pair) → listed p d ≡ false → settle_of T p d ≡ done_at T p d (length (clauses_of T p)) ++ p ∷ []
  unfolding judgement applied applies res_at done_at shut
  settle_at p d h =
      let z : 0 + length (clauses_of T p) ≡ length (clauses_of T p) = omega arith in
      let J = clauses T.doc T.way p [] start (clauses_of T p) in
      let w = rw z at (applied_rest T p d (length (clauses_of T p)) 0 z) in
      settle_eq p d
      ∙ rw h
      (ap (λ l. in_turn (settle_of T) l d ++ p ∷ []) (applied_then (truth_of T) J (λ r. found (shut r)) ∙ append-nil (applied (truth_of T) J))
      ∙ ap (λ l. l ++ p ∷ []) w)

  -- ---- what settling keeps

  pub settle_kept : (p q : Pair) (d : List Pair) → listed q d ≡ true → listed q (settle_of T p d) ≡ true
  unfolding settle_of
  settle_kept p q d h = in_listed q (kept T.doc T.rules T.way depth p d q (listed_in q d h))

  pub settle_self : (p : Pair) (d : List Pair) → listed p (settle_of T p d) ≡ true
  unfolding settle_of
  settle_self p d = in_listed p (settles T.doc T.rules T.way T.n T.m fit depth p d (deep T.doc T.rules T.n T.m fit p))

  -- a pair ranked above is not settled by it
  pub settle_still : (p q : Pair) (d : List Pair) → rank_of T q < rank_of T p → listed p d ≡ false → listed p (settle_of T q d) ≡ false
  unfolding settle_of
  settle_still p q d l h =
      is_false _
      (λ e. ⊎_elim (λ i. not_listed p d h i)
      (λ r. let low = reached_low T.doc T.rules T.way T.n T.m fit r in omega arith)
      (new T.doc T.rules T.way depth q d p (listed_in p _ e)))

  pub settle_new : (p q : Pair) (d : List Pair) → listed q (settle_of T p d) ≡ false → listed q d ≡ false
  settle_new p q d h = is_false _ (λ e. true≢false (sym (settle_kept p q d e) ∙ h))

  turn_kept : (ps : List Pair) (q : Pair) (d : List Pair) → listed q d ≡ true → listed q (in_turn (settle_of T) ps d) ≡ true
  unfolding in_turn
  turn_kept [] q d h = h
  turn_kept (p ∷ ps) q d h = turn_kept ps q (settle_of T p d) (settle_kept p q d h)

  pub turn_new : (ps : List Pair) (q : Pair) (d : List Pair) → listed q (in_turn (settle_of T) ps d) ≡ false → listed q d ≡ false
  turn_new ps q d h = is_false _ (λ e. true≢false (sym (turn_kept ps q d e) ∙ h))

-- ---- the list grows

module _ (T : Case) where
  turn_grows_by : (f : ℕ) → ((p : Pair) (d : List Pair) → length d ≤ length (settle T.doc T.rules T.way f p d))
      → (ps d : List Pair) → length d ≤ length (in_turn (λ x y. settle T.doc T.rules T.way f x y) ps d)
  unfolding in_turn
  turn_grows_by f one [] d = le_refl _
  turn_grows_by f one (p ∷ ps) d = le_trans (one p d) (turn_grows_by f one ps (settle T.doc T.rules T.way f p d))

  settle_grows_by : (f : ℕ) (p : Pair) (d : List Pair) → length d ≤ length (settle T.doc T.rules T.way f p d)
  unfolding settle
  settle_grows_by zero p d = le_refl _
  settle_grows_by (suc f) p d =
      by_test (λ (l : List Pair). length d ≤ length l) (listed p d) d _ (λ e. le_refl _)
      (λ e.
      let a = turn_grows_by f (settle_grows_by f) (applies T.doc T.rules T.way p) d in
      let b = length-append (in_turn (λ x y. settle T.doc T.rules T.way f x y) (applies T.doc T.rules T.way p) d) (p ∷ []) in
      omega arith)

  pub settle_grows : (p : Pair) (d : List Pair) → length d ≤ length (settle_of T p d)
  unfolding settle_of
  settle_grows p d = settle_grows_by depth p d

  pub turn_grows : (ps d : List Pair) → length d ≤ length (in_turn (settle_of T) ps d)
  unfolding in_turn
  turn_grows [] d = le_refl _
  turn_grows (p ∷ ps) d = le_trans (settle_grows p d) (turn_grows ps (settle_of T p d))
