-- Which schema takes a clause, on a sheet whose layout is accepted, and the steps of a schema clause by clause.
--     quiet_none, quiet_more     no clause from k on has a step, and from k - 1 on
--     after_more             the schemas after s start after a clause, and s does
--     starts_later           a schema's clauses end where the next schema's start, or before
--     first_low              schema 0 starts at clause 0
--     taker_here             the last schema that starts at clause k or before takes it
--     start_after            the schemas after the one that takes a clause start after it
--     takers_rise            a later clause is not an earlier schema's
--     taken_step, step_taken     a schema's steps are those of the clauses that it takes
-- Assumes nothing.
use mathlib.Core.Bool.{true≢false}
use mathlib.Core.List.Memᴰ.{not-nil as in_none}
use mathlib.Core.List.{List, Memᴰ as In}
use mathlib.Core.Logic.{⊎_elim}
use mathlib.Core.Path.{◌≡◌, refl, sym, ◌∙◌, subst}
use Prim.Native.Nat.{ℕ, zero, suc, ◌+◌, ◌-◌, ◌≤◌, ◌<◌}
use native.Mathlib.Omega.{arith}
use lib.ListN.{length}
use Rattle.laws.proofs.Tests.{le_or_lt}
use Rattle.rulesheet.specs.declared.form.RuleForm.{RuleForm}
use Rattle.rulesheet.specs.Sheet.{schemas_word, clauses_word, schema_at, targets_of, next_of}
use Rattle.rulesheet.specs.Faults.{schema_start}
use Rattle.rulesheet.specs.Read.{RulesLaid}
use Rattle.rulesheet.proofs.Runs.{starts_rise}
use Rattle.rulesheet.proofs.Taking.{schema_first, schema_runs, clause_untaken}
use Rattle.unguarded.specs.Lengths.{Quiet, Takes, StartAfter}
use Rattle.unguarded.proofs.Steps.{schema_count, clause_count, next_is, next_none, joined_in, in_joined}

-- ---- clauses without a step, and schemas that start after a clause

module _ (ws : List ℕ) where
  pub quiet_none : (to : ℕ) → Quiet ws to to
  quiet_none to = record { low = omega arith; none = λ k l (h : k < to). absurd (omega arith) }

  pub quiet_more : {k to : ℕ} → Quiet ws k to → 0 < k → length (targets_of ws (k - 1)) ≡ 0 → Quiet ws (k - 1) to
  quiet_more {k} {to} q h e =
      record {
        low = omega (arith, q.low);
        none = λ j l g. ⊎_elim
            (λ (a : k ≤ j). q.none j a g)
            (λ (b : j < k). let same : k - 1 ≡ j = omega arith in rw same at e)
            (le_or_lt k j);
      }

  pub after_more : (s k : ℕ) → StartAfter ws s k → k < (schema_at ws s).first → StartAfter ws (s - 1) k
  after_more s k after h u l g =
      ⊎_elim
      (λ (a : u ≤ s). let same : s ≡ u = omega arith in rw same at h)
      (λ (b : s < u). after u b g)
      (le_or_lt u s)

-- ---- on a sheet whose layout is accepted

module _ (ws : List ℕ) (form : RuleForm) (laid : RulesLaid ws form) where
  starts : (s : ℕ) → s < schemas_word ws → (schema_at ws s).first ≡ schema_start ws s
  starts s h = schema_first ws form laid.clauses_laid.schemas_laid s (omega (arith, schema_count ws form laid))

  ends : (s : ℕ) → schema_start ws (suc s) ≡ (schema_at ws s).first + (schema_at ws s).count
  unfolding schema_start
  ends s = refl

  pub starts_later : (s u : ℕ) → s < u → u < schemas_word ws → (schema_at ws s).first + (schema_at ws s).count ≤ (schema_at ws u).first
  starts_later s u l h =
      omega (
        arith,
        ends s,
        starts u h,
        starts_rise (schemas_word ws) _ (λ i. (schema_at ws i).first) (λ i. (schema_at ws i).count) (schema_start ws) (schema_runs ws form laid.clauses_laid.schemas_laid) (suc s) u l (omega arith),
      )

  -- schema 0 starts at clause 0
  pub first_low : (s k : ℕ) → s < schemas_word ws → s ≤ 0 → (schema_at ws s).first ≤ k
  unfolding schema_start
  first_low zero k h z = omega (arith, starts 0 h)
  first_low (suc s) k h z = absurd (omega arith)

  -- no clause is left over
  within : (k : ℕ) → k < clauses_word ws → k < schema_start ws (schemas_word ws)
  within k h =
      ⊎_elim
      (λ (past : schema_start ws (schemas_word ws) ≤ k).
      absurd (true≢false (sym (laid.clauses_laid.clauses_fine k (omega (arith, clause_count ws form laid))) ∙ clause_untaken ws form laid.clauses_laid.schemas_laid k past)))
      (λ l. l)
      (le_or_lt (schema_start ws (schemas_word ws)) k)

  pub taker_here : (s k : ℕ) → s < schemas_word ws → k < clauses_word ws → StartAfter ws s k → (schema_at ws s).first ≤ k → Takes ws s k
  taker_here s k h g after low =
      record {
        inside = h;
        low = low;
        high = ⊎_elim
            (λ (last : schemas_word ws ≤ suc s). let e : schemas_word ws ≡ suc s = omega arith in omega (arith, rw e at (within k g), ends s))
            (λ (more : suc s < schemas_word ws). omega (arith, after (suc s) (omega arith) more, starts (suc s) more, ends s))
            (le_or_lt (schemas_word ws) (suc s));
      }

  pub start_after : {s k : ℕ} → Takes ws s k → (j : ℕ) → j ≤ k → StartAfter ws s j
  start_after {s} {k} t j h u l g = omega (arith, starts_later s u l g, t.high)

  pub takers_rise : {s k u j : ℕ} → Takes ws s k → Takes ws u j → k ≤ j → s ≤ u
  takers_rise {s} {k} {u} {j} t v h =
      ⊎_elim
      (λ (l : s ≤ u). l)
      (λ (l : u < s). absurd (omega (arith, starts_later u s l t.inside, t.low, v.high)))
      (le_or_lt s u)

  pub taken_step : {s k t : ℕ} → Takes ws s k → In t (targets_of ws k) → In t (next_of ws s)
  taken_step {s} {k} {t} v i =
      let first = (schema_at ws s).first in
      let e : first + (k - first) ≡ k = omega (arith, v.low) in
      subst (λ xs. In t xs) (sym (next_is ws s v.inside))
      (in_joined (targets_of ws) first (schema_at ws s).count (k - first) (omega (arith, v.low, v.high)) (subst (λ n. In t (targets_of ws n)) (sym e) i))

  pub step_taken : {s t : ℕ} → In t (next_of ws s) → (k : ℕ) × (Takes ws s k × In t (targets_of ws k))
  step_taken {s} {t} i = ⊎_elim (λ (h : schemas_word ws ≤ s). absurd (past h)) inner (le_or_lt (schemas_word ws) s)
    where
      past : schemas_word ws ≤ s → ⊥
      past h = in_none (subst (λ xs. In t xs) (next_none ws s h) i)

      inner : s < schemas_word ws → (k : ℕ) × (Takes ws s k × In t (targets_of ws k))
      inner h =
          let first = (schema_at ws s).first in
          let r = joined_in (targets_of ws) first (schema_at ws s).count (subst (λ xs. In t xs) (next_is ws s h) i) in
          (first + r.0, (record { inside = h; low = omega arith; high = omega (arith, r.1.0) }, r.1.1))
