-- A pass over the clauses of a sheet, from the last to the first.
--     Passing, begin             what holds once the clauses from k on were passed, and where none has a step from there on
--     quiet_on                   clauses that have no step
--     clause_raised, clause_kept     one clause more, which raises the length of its schema, or does not
--     pass_done                  at the end of the pass
--     quiet_sheet                where no clause has a step there is no chain
-- Assumes nothing.
use mathlib.Core.Bool.{Bool, false, ◌||◌, false≢true}
use mathlib.Core.List.{List, Memᴰ as In}
use mathlib.Core.Logic.{◌⊎◌, inl, inr, ⊎_elim}
use mathlib.Core.Path.{◌≡◌, refl, sym, ◌∙◌, subst}
use Prim.Native.Nat.{ℕ, ◌+◌, ◌-◌, ◌≤◌, ◌<◌}
use native.Mathlib.Decide.{ℕ_discrete}
use native.Mathlib.Omega.{arith}
use lib.ListN.{length, get_or, set, length-set}
use lib.Seq.{get_or-set_same, get_or-set_other}
use Rattle.laws.proofs.Tests.{le_or_lt, neither}
use Rattle.laws.proofs.Searches.{lowest_is}
use Rattle.rulesheet.specs.declared.form.RuleForm.{RuleForm}
use Rattle.rulesheet.specs.Sheet.{schemas_word, clauses_word, schema_at, targets_of, next_of}
use Rattle.rulesheet.specs.Read.{RulesLaid}
use Rattle.unguarded.specs.Graph.{chain_steps, chain}
use Rattle.unguarded.specs.Places.{chain_place}
use Rattle.unguarded.specs.Worklist.{Marked}
use Rattle.unguarded.specs.Lengths.{Quiet, Takes, StartAfter, Raised, Noted, Told, Passed}
use Rattle.unguarded.proofs.Lists.{is_false, empty_none, any_out}
use Rattle.unguarded.proofs.Steps.{clause_inside}
use Rattle.unguarded.proofs.Takers.{start_after, takers_rise, taken_step, step_taken}
use Rattle.unguarded.proofs.Lengths.{raised_chain}

module _ (ws : List ℕ) where
  -- a fact about each step of a clause from k on: the schema that takes it, and where it leads
  abbrev EachFrom : ℕ → (ℕ → ℕ → Type 0) → Type 0
  EachFrom k P = (j u t : ℕ) → k ≤ j → Takes ws u j → In t (targets_of ws j) → P u t

  -- along a step, `high` tells a longer chain than `low`
  abbrev Rises : List ℕ → List ℕ → ℕ → ℕ → Type 0
  Rises low high u t = get_or high u 0 < chain_steps → get_or low t 0 < get_or high u 0

  pub record Passing (table₀ table : List ℕ) (late : List Bool) (again : Bool) (s k : ℕ) : Type 0 where
    pub told : Told (schemas_word ws) (next_of ws) table
    pub more : (u : ℕ) → get_or table₀ u 0 ≤ get_or table u 0
    pub each : EachFrom k (Rises table₀ table)
    pub all : again ≡ false → EachFrom k (Rises table table)
    pub marked : EachFrom k (λ u t. t ≤ u → Marked late t)
    pub inside : s < schemas_word ws
    pub within : k ≤ clauses_word ws
    pub after : (j : ℕ) → j < k → StartAfter ws s j

  -- ---- clauses without a step

  silent : {from to : ℕ} (P : ℕ → ℕ → Type 0) → Quiet ws from to → EachFrom to P → EachFrom from P
  silent {from} {to} P quiet each j u t l v i =
      ⊎_elim
      (λ (h : to ≤ j). each j u t h v i)
      (λ (h : j < to). absurd (empty_none (targets_of ws j) (quiet.none j l h) i))
      (le_or_lt to j)

  pub quiet_on : {table₀ table : List ℕ} {late : List Bool} {again : Bool} {s k from : ℕ} → Passing table₀ table late again s k → Quiet ws from k → Passing table₀ table late again s from
  quiet_on {table₀} {table} {late} p quiet =
      record {
        told = p.told;
        more = p.more;
        each = silent (Rises table₀ table) quiet p.each;
        all = λ e. silent (Rises table table) quiet (p.all e);
        marked = silent (λ u t. t ≤ u → Marked late t) quiet p.marked;
        inside = p.inside;
        within = omega (arith, p.within, quiet.low);
        after = λ j l. p.after j (omega (arith, quiet.low));
      }

-- ---- on a sheet whose layout is accepted

module _ (ws : List ℕ) (form : RuleForm) (laid : RulesLaid ws form) where
  past : (P : ℕ → ℕ → Type 0) → EachFrom ws (clauses_word ws) P
  past P j u t l v i =
      absurd (omega (arith, v.low, v.high, clause_inside ws form laid u (j - (schema_at ws u).first) v.inside (omega (arith, v.low, v.high))))

  -- where no clause has a step there is no chain
  pub quiet_sheet : {last : ℕ} → last ≤ 0 → Quiet ws last (clauses_word ws) → schemas_word ws ≡ chain_place (schemas_word ws) (next_of ws)
  unfolding chain
  quiet_sheet h quiet =
      lowest_is (chain (next_of ws) chain_steps) (schemas_word ws) (schemas_word ws) (omega arith)
      (λ s l. is_false (chain (next_of ws) chain_steps s) (λ e. let a = any_out (chain (next_of ws) 31) (next_of ws s) e in nowhere s a.0 a.1.0))
      (λ (l : schemas_word ws < schemas_word ws). absurd (omega arith))
    where
      nowhere : (s t : ℕ) → In t (next_of ws s) → ⊥
      nowhere s t i = let v = step_taken ws form laid i in silent ws (λ u t. ⊥) quiet (past (λ u t. ⊥)) v.0 s t (omega arith) v.1.0 v.1.1

  pub begin : {last : ℕ} (table : List ℕ) (late : List Bool) → 0 < schemas_word ws → Quiet ws last (clauses_word ws) → Told (schemas_word ws) (next_of ws) table
      → Passing ws table table late false (schemas_word ws - 1) last
  begin table late some quiet told =
      record {
        told = told;
        more = λ u. omega arith;
        each = silent ws (Rises ws table table) quiet (past (Rises ws table table));
        all = λ e. silent ws (Rises ws table table) quiet (past (Rises ws table table));
        marked = silent ws (λ u t. t ≤ u → Marked late t) quiet (past (λ u t. t ≤ u → Marked late t));
        inside = omega arith;
        within = quiet.low;
        after = λ j l u (a : schemas_word ws - 1 < u) (b : u < schemas_word ws). absurd (omega arith);
      }

  pub pass_done : {table₀ table : List ℕ} {late : List Bool} {again : Bool} {s k : ℕ} → k ≤ 0 → Passing ws table₀ table late again s k → Passed (schemas_word ws) (next_of ws) table₀ table again
  pass_done h p =
      record {
        told = p.told;
        each = record { rises = λ s t i. let v = step_taken ws form laid i in p.each v.0 s t (omega arith) v.1.0 v.1.1 };
        all = λ e. record { rises = λ s t i. let v = step_taken ws form laid i in p.all e v.0 s t (omega arith) v.1.0 v.1.1 };
      }

  -- clause k is passed: schema s, which takes it, now has the length `long`, and no other schema has another length than before
  module _ {table₀ table : List ℕ} {late : List Bool} {again : Bool} {s₀ k₀ k long : ℕ} {late' : List Bool} (s : ℕ) (p : Passing ws table₀ table late again s₀ k₀) (one : k₀ ≡ k + 1) (v : Takes ws s k)
      (f : Raised (targets_of ws k) table (get_or table s 0) long) (n : Noted s (targets_of ws k) late late') (table' : List ℕ) (again' : Bool)
      (size : length table' ≡ length table) (here : get_or table' s 0 ≡ long) (there : (u : ℕ) → (u ≡ s → ⊥) → get_or table' u 0 ≡ get_or table u 0)
      (same : again' ≡ false → (again ≡ false) × ((Marked late' s → ⊥) ⊎ (long ≡ get_or table s 0))) where
    rose : (u : ℕ) → get_or table u 0 ≤ get_or table' u 0
    rose u = elim (ℕ_discrete u s) [ yes e ↦ rw e (omega (arith, here, f.more)) | no e ↦ omega (arith, there u e) ]

    -- the step of a clause from k on is that of clause k, or was passed before
    which : (P : ℕ → ℕ → Type 0) → ((t : ℕ) → In t (targets_of ws k) → P s t) → EachFrom ws k₀ P → EachFrom ws k P
    which P now before j u t l w i =
        ⊎_elim
        (λ (h : k₀ ≤ j). before j u t h w i)
        (λ (h : j < k₀).
        let e : j ≡ k = omega arith in
        let q : u ≡ s = omega (arith, takers_rise ws form laid v w l, takers_rise ws form laid w v (omega arith)) in
        subst (λ (x : ℕ). P x t) (sym q) (now t (subst (λ (x : ℕ). In t (targets_of ws x)) e i)))
        (le_or_lt k₀ j)

    told : Told (schemas_word ws) (next_of ws) table'
    told =
        record {
          room = omega (arith, p.told.room, size);
          low = λ u. elim (ℕ_discrete u s) [ yes e ↦ rw e (omega (arith, here, f.full)) | no e ↦ omega (arith, there u e, p.told.low u) ];
          has = λ u. elim (ℕ_discrete u s) [
            | yes e ↦ rw (e, here) (raised_chain (schemas_word ws) (next_of ws) p.told (λ t i. taken_step ws form laid v i) (p.told.has s) f)
            | no e ↦ rw (there u e) (p.told.has u)
          ];
        }

    each : EachFrom ws k (Rises ws table₀ table')
    each =
        which (Rises ws table₀ table')
        (λ t i (h : get_or table' s 0 < chain_steps). omega (arith, here, p.more t, f.above t i (omega (arith, here))))
        (λ j u t l w i (h : get_or table' u 0 < chain_steps). omega (arith, rose u, p.each j u t l w i (omega (arith, rose u))))

    marked : EachFrom ws k (λ u t. t ≤ u → Marked late' t)
    marked = which (λ u t. t ≤ u → Marked late' t) (λ t i. n.marked t i) (λ j u t l w i h. n.kept t (p.marked j u t l w i h))

    all : again' ≡ false → EachFrom ws k (Rises ws table' table')
    all e j u t l w i h = elim (ℕ_discrete t s) [ yes q ↦ itself q | no q ↦ omega (arith, there t q, old j u t l w i h) ]
      where
        old : EachFrom ws k (Rises ws table table')
        old =
            which (Rises ws table table')
            (λ t i (h : get_or table' s 0 < chain_steps). omega (arith, here, f.above t i (omega (arith, here))))
            (λ j u t l w i (h : get_or table' u 0 < chain_steps). omega (arith, rose u, p.all (same e).0 j u t l w i (omega (arith, rose u))))

        -- a step to s: s was marked, so it was not raised
        itself : t ≡ s → get_or table' t 0 < get_or table' u 0
        itself q =
            ⊎_elim
            (λ unmarked. absurd (unmarked (subst (λ (x : ℕ). Marked late' x) q (marked j u t l w i (omega (arith, takers_rise ws form laid v w l))))))
            (λ (kept : long ≡ get_or table s 0). omega (arith, rw (← q) at here, rw (← q) at kept, old j u t l w i h))
            (same e).1

    pub clause_done : Passing ws table₀ table' late' again' s k
    clause_done =
        record {
          told = told;
          more = λ u. omega (arith, p.more u, rose u);
          each = each;
          all = all;
          marked = marked;
          inside = v.inside;
          within = omega (arith, p.within);
          after = λ j l. start_after ws form laid v j (omega arith);
        }

  -- the two ways that a clause is passed
  module _ {table₀ table : List ℕ} {late : List Bool} {again : Bool} {s₀ k₀ k long : ℕ} {late' : List Bool} (s : ℕ) (p : Passing ws table₀ table late again s₀ k₀) (one : k₀ ≡ k + 1) (v : Takes ws s k)
      (f : Raised (targets_of ws k) table (get_or table s 0) long) (n : Noted s (targets_of ws k) late late') where
    pub clause_raised : Passing ws table₀ (set table s long) late' (again || get_or late' s false) s k
    clause_raised =
        clause_done s p one v f n (set table s long) (again || get_or late' s false) (simp length-set)
        (get_or-set_same table s long 0 (omega (arith, v.inside, p.told.room)))
        (λ u e. get_or-set_other table s u long 0 e)
        (λ e. ((neither again _ e).0, inl (λ (h : Marked late' s). false≢true (sym (neither again _ e).1 ∙ h))))

    pub clause_kept : long ≤ get_or table s 0 → Passing ws table₀ table late' again s k
    clause_kept h =
        let e : long ≡ get_or table s 0 = omega (arith, f.more) in
        clause_done s p one v f n table again refl (sym e) (λ u q. refl) (λ q. (q, inr e))
