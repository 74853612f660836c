-- What a pass that came to the end of the sheet tells.
--     all_laid          no schema, clause or entry is at fault, and no name is there again
--     all_short         no chain has 33 schemas: the number of clauses with steps that stand before a schema rises along each step
--     tells             both, by the tests at the end
-- Assumes nothing.
use mathlib.Core.Bool.{Bool, true, false, ◌&&◌}
use mathlib.Core.List.Memᴰ.{not-nil as in_none}
use mathlib.Core.List.{List, Memᴰ as In}
use mathlib.Core.Logic.{⊎_elim}
use mathlib.Core.Path.{◌≡◌, sym, ap, ◌∙◌, subst}
use Prim.Native.Nat.{ℕ, zero, suc, ◌+◌, ◌-◌, ◌≤◌, ◌<◌}
use native.Mathlib.Nat.{eq-or-lt_of_le}
use native.Mathlib.Omega.{arith}
use lib.Dec.{eqb, ltb}
use borrow.Author.Tests.{eqb-true, ltb-true}
use Rattle.laws.proofs.Tests.{decide, le_or_lt, left, right}
use Rattle.laws.proofs.Searches.{none_found}
use Rattle.rulesheet.specs.declared.form.RuleForm.{RuleForm}
use Rattle.rulesheet.specs.Sheet.{schemas_word, clauses_word, schema_at, clause_at, targets_of, next_of}
use Rattle.rulesheet.specs.Faults.{is_list, is_named, fields_at, schema_start, schema_fine, list_start, repeated}
use Rattle.rulesheet.specs.Read.{RulesFormed, SchemasLaid, ClausesLaid, RulesLaid}
use Rattle.rulesheet.proofs.Trailers.{form_m, form_c}
use Rattle.rulesheet.proofs.Taking.{schema_first, schema_within, clause_taken, list_facts, list_over_lem, entry_taken}
use Rattle.unguarded.specs.Graph.{chain_steps, chain}
use Rattle.unguarded.specs.Places.{chain_place}
use Rattle.unguarded.proofs.Lists.{any_out}
use Rattle.unguarded.proofs.Targets.{target_inside}
use Rattle.unguarded.proofs.Steps.{next_is, next_none, joined_in}
use Rattle.unguarded.proofs.Takers.{starts_later}
use Rattle.rulelists.specs.Lists.{ListFine}
use Rattle.rulesteps.specs.Later.{unit}
use Rattle.rulepass.specs.Pass.{Laid, Told, steps_before, ClauseFine, Come}
use Rattle.rulepass.proofs.Going.{steps_so, steps_after}

module _ (ws ts : List ℕ) (form : RuleForm) (formed : RulesFormed ws form) (start steps : ℕ)
    (schemas : (u : ℕ) → u < form.m → schema_fine ws u ≡ true) (come : Come ws ts form.m form.c start steps) (clauses_end : schema_start ws form.m ≡ form.c) (entries_end : start ≡ form.e) where
  schemas_laid : SchemasLaid ws form
  schemas_laid = record { formed = formed; schemas_fine = schemas }

  -- ---- the schema that takes a clause

  taken : (k s : ℕ) → s ≤ form.m → k < schema_start ws s → (u : ℕ) × ((u < form.m) × ((schema_at ws u).first ≤ k) × (k < (schema_at ws u).first + (schema_at ws u).count))
  unfolding schema_start
  taken k zero h l = absurd (omega arith)
  taken k (suc s) h l =
      ⊎_elim
      (λ (low : schema_start ws s ≤ k). (s, (h, omega (arith, schema_first ws form schemas_laid s h), l)))
      (λ (below : k < schema_start ws s). taken k s (omega arith) below)
      (le_or_lt (schema_start ws s) k)

  fine_clause : (k : ℕ) → k < form.c → (u : ℕ) × ((u < form.m) × ((schema_at ws u).first ≤ k) × (k < (schema_at ws u).first + (schema_at ws u).count) × ClauseFine ws ts u k)
  fine_clause k h =
      let u = taken k form.m (omega arith) (omega arith) in
      (u.0, (u.1.0, u.1.1, u.1.2, come.clauses u.0 u.1.0 k u.1.1 u.1.2))

  laid : ClausesLaid ws form
  laid =
      record {
        schemas_laid = schemas_laid;
        clauses_fine = λ (k : ℕ) (h : k < form.c). let u = fine_clause k h in clause_taken ws form schemas_laid u.0 k u.1.0 u.1.1 u.1.2 ∙ u.1.3.fine;
      }

  -- ---- the list that takes an entry

  listed : (x k : ℕ) → k ≤ form.c → x < list_start ws k
      → (j : ℕ) × ((j < form.c) × (is_list (fields_at ws j) ≡ true) × ((clause_at ws j).first ≤ x) × (x < (clause_at ws j).first + (clause_at ws j).count))
  unfolding list_start
  listed x zero h l = absurd (omega arith)
  listed x (suc k) h l =
      ⊎_elim
      (λ (t : is_list (fields_at ws k) ≡ true).
      ⊎_elim
      (λ (low : (clause_at ws k).first ≤ x). (k, (h, t, low, rw t at l)))
      (λ (below : x < (clause_at ws k).first). listed x k (omega arith) (omega (arith, (list_facts ws k (laid.clauses_fine k h) t).list_first)))
      (le_or_lt (clause_at ws k).first x))
      (λ (t : is_list (fields_at ws k) ≡ false). listed x k (omega arith) (rw t at l))
      (decide (is_list (fields_at ws k)))

  list_of : (x : ℕ) → x < form.e
      → (j : ℕ) × ((j < form.c) × (is_list (fields_at ws j) ≡ true) × ((clause_at ws j).first ≤ x) × (x < (clause_at ws j).first + (clause_at ws j).count))
  list_of x h = listed x form.c (omega arith) (omega (arith, come.next))

  list_fine : (k : ℕ) → k < form.c → is_list (fields_at ws k) ≡ true → ListFine ws ts (fields_at ws k) (clause_at ws k).first (clause_at ws k).count
  list_fine k h t = (fine_clause k h).1.3.list t

  rules : RulesLaid ws form
  rules =
      record {
        clauses_laid = laid;
        entries_fine =
            λ (x : ℕ) (h : x < form.e).
            let j = list_of x h in
            let below : j.0 < clauses_word ws = omega (arith, j.1.0, form_c ws form formed) in
            entry_taken ws form laid j.0 x below j.1.1 j.1.2 j.1.3 ∙ (list_fine j.0 j.1.0 j.1.1).entries x j.1.2 j.1.3;
      }

  again : (x k : ℕ) → k < form.c → is_list (fields_at ws k) ≡ true → (clause_at ws k).first ≤ x → x < (clause_at ws k).first + (clause_at ws k).count → repeated ws ts x ≡ false
  unfolding repeated
  again x k h t low high =
      rw (list_over_lem ws form laid k x (omega (arith, form_c ws form formed)) t low high)
      (⊎_elim
      (λ (n : is_named (fields_at ws k) ≡ true). rw n (((list_fine k h t).names n).differ (x - (clause_at ws k).first) (omega arith)))
      (λ (n : is_named (fields_at ws k) ≡ false). rw n)
      (decide (is_named (fields_at ws k))))

  all_laid : Laid ws ts form
  all_laid =
      record {
        rules_laid = rules;
        names_differ = λ (x : ℕ) (h : x < form.e). let j = list_of x h in again x j.0 j.1.0 j.1.1 j.1.2 j.1.3;
      }

  -- ---- chains

  rises_to : (k n : ℕ) → k ≤ n → steps_before ws k ≤ steps_before ws n
  unfolding steps_before
  rises_to k zero h = let e : k ≡ 0 = omega arith in rw e (omega arith)
  rises_to k (suc n) h =
      ⊎_elim
      (λ (e : k ≡ suc n). rw e (omega arith))
      (λ (l : k < suc n). omega (arith, rises_to k n (omega arith)))
      (eq-or-lt_of_le h)

  -- so many clauses with steps stand before a schema
  rank : ℕ → ℕ
  rank s = steps_before ws (schema_at ws s).first

  module _ (few : steps < chain_steps) where
    clause_rises : (s j t : ℕ) → s < form.m → (schema_at ws s).first ≤ j → j < (schema_at ws s).first + (schema_at ws s).count → In t (targets_of ws j) → (rank s < rank t) × (rank t < chain_steps)
    unfolding rank
    clause_rises s j t h low high i =
        let m = form_m ws form formed in
        let c = form_c ws form formed in
        let within = schema_within ws form schemas_laid s h in
        let up = come.leads few s h j low high t i in
        let inside = target_inside ws form rules j (omega arith) i in
        let after = starts_later ws form rules s t up inside in
        let one = steps_after ws j ∙ ap (λ (b : Bool). steps_before ws j + unit b) (steps_so ws j t i) in
        let below = schema_within ws form schemas_laid t (omega arith) in (
          omega (arith, rises_to (schema_at ws s).first j low, rises_to (j + 1) (schema_at ws t).first (omega arith)),
          omega (arith, rises_to (schema_at ws t).first form.c (omega arith), come.count few),
        )

    step_rises : (s t : ℕ) → In t (next_of ws s) → (rank s < rank t) × (rank t < chain_steps)
    step_rises s t i =
        ⊎_elim
        (λ (past : schemas_word ws ≤ s). absurd (in_none (subst (λ xs. In t xs) (next_none ws s past) i)))
        (λ (h : s < schemas_word ws).
        let r = joined_in (targets_of ws) (schema_at ws s).first (schema_at ws s).count (subst (λ xs. In t xs) (next_is ws s h) i) in
        clause_rises s ((schema_at ws s).first + r.0) t (omega (arith, form_m ws form formed)) (omega arith) (omega (arith, r.1.0)) r.1.1)
        (le_or_lt (schemas_word ws) s)

    short : (k s : ℕ) → chain (next_of ws) (suc k) s ≡ true → rank s + suc k < chain_steps
    unfolding chain
    short zero s e = let a = any_out (chain (next_of ws) 0) (next_of ws s) e in omega (arith, (step_rises s a.0 a.1.0).0, (step_rises s a.0 a.1.0).1)
    short (suc k) s e =
        let a = any_out (chain (next_of ws) (suc k)) (next_of ws s) e in
        omega (arith, (step_rises s a.0 a.1.0).0, short k a.0 a.1.1)

    no_chain : (s : ℕ) → chain (next_of ws) chain_steps s ≡ false
    no_chain s =
        ⊎_elim
        (λ (e : chain (next_of ws) chain_steps s ≡ true). absurd (let l = short 31 s e in omega arith))
        (λ e. e)
        (decide (chain (next_of ws) chain_steps s))

    all_short : schemas_word ws ≤ chain_place (schemas_word ws) (next_of ws)
    all_short = omega (arith, none_found (chain (next_of ws) chain_steps) (schemas_word ws) 0 (λ s low high. no_chain s))

-- ---- by the tests at the end

module _ (ws ts : List ℕ) (form : RuleForm) (formed : RulesFormed ws form) (s k start steps : ℕ)
    (all : s ≡ form.m) (at : k ≡ schema_start ws s) (fine : (u : ℕ) → u < s → schema_fine ws u ≡ true) (come : Come ws ts s k start steps) where
  abbrev laid_by : Bool
  laid_by = eqb k form.c && eqb start form.e

  module _ (t : laid_by ≡ true) where
    at_c : k ≡ form.c
    at_c = eqb-true k form.c (left (eqb k form.c) (eqb start form.e) t)

    at_e : start ≡ form.e
    at_e = eqb-true start form.e (right (eqb k form.c) (eqb start form.e) t)

    schemas : (u : ℕ) → u < form.m → schema_fine ws u ≡ true
    schemas = subst (λ n. (u : ℕ) → u < n → schema_fine ws u ≡ true) all fine

    comes : Come ws ts form.m form.c start steps
    comes = subst (λ n. Come ws ts n form.c start steps) all (subst (λ n. Come ws ts s n start steps) at_c come)

    ends : schema_start ws form.m ≡ form.c
    ends = ap (schema_start ws) (sym all) ∙ sym at ∙ at_c

  pub tells : Told ws ts form (record { laid = laid_by; short = laid_by && ltb steps chain_steps })
  tells =
      record {
        laid = λ t. all_laid ws ts form formed start steps (schemas t) (comes t) (ends t) (at_e t);
        short =
            λ b.
            let t = left laid_by (ltb steps chain_steps) b in
            all_short ws ts form formed start steps (schemas t) (comes t) (ends t) (at_e t) (ltb-true steps chain_steps (right laid_by (ltb steps chain_steps) b));
      }
