-- How far a pass has come.
--     steps_so, steps_in, steps_after     the steps of a clause, and how many clauses had some after it
--     Gone                         the clauses of a schema that a pass has come by
--     gone_begins, gone_on, gone_ends     it begins, goes on past a clause, and ends
--     come_begins, come_on         the schemas
-- Assumes nothing.
use mathlib.Core.Bool.{true, false, ◌&&◌, ◌||◌}
use mathlib.Core.List.Memᴰ.{not-nil as in_none}
use mathlib.Core.List.{List, Memᴰ as In}
use mathlib.Core.Logic.{⊎_elim}
use mathlib.Core.Path.{◌≡◌, refl, ap, ◌∙◌, subst}
use Prim.Native.Nat.{ℕ, ◌+◌, ◌-◌, ◌≤◌, ◌<◌}
use native.Mathlib.Numerals.{add-one}
use native.Mathlib.Omega.{arith}
use lib.Dec.{eqb, ltb}
use Rattle.laws.proofs.Tests.{decide, both, le_or_lt}
use Rattle.rulesheet.specs.declared.form.ClauseRow.{ClauseRow}
use Rattle.rulesheet.specs.Codes.{shape_of}
use Rattle.rulesheet.specs.Sheet.{schemas_word, schema_at, clause_at, targets_of}
use Rattle.rulesheet.specs.Faults.{fields_ok, fields_at, rises, list_start, list_ok, clause_fine_in}
use Rattle.rulesheet.proofs.Taking.{next_list}
use Rattle.rulesheet.proofs.Reaching.{targets_are}
use Rattle.ruleclauses.proofs.Passes.{code_rises}
use Rattle.unguarded.specs.Graph.{chain_steps}
use Rattle.rulesteps.specs.Later.{unit}
use Rattle.rulepass.specs.declared.Pass.{Pass}
use Rattle.rulepass.specs.Pass.{steps_before, schemas_by, ClausePassed, ClauseFine, PassedTo, SchemaPassed, Come}

-- what a clause leads to, by its words
module _ (ws : List ℕ) (k t : ℕ) (i : In t (targets_of ws k)) where
  pub steps_so : (shape_of (clause_at ws k).code).unguarded ≡ true
  steps_so =
      ⊎_elim
      (λ (e : (shape_of (clause_at ws k).code).unguarded ≡ true). e)
      (λ (e : (shape_of (clause_at ws k).code).unguarded ≡ false). absurd (in_none (subst (λ xs. In t xs) (targets_are ws k ∙ rw e) i)))
      (decide (shape_of (clause_at ws k).code).unguarded)

  pub steps_in : In t (schemas_by ws (clause_at ws k))
  steps_in = subst (λ xs. In t xs) (targets_are ws k ∙ rw steps_so) i

pub steps_after : (ws : List ℕ) (k : ℕ) → steps_before ws (k + 1) ≡ steps_before ws k + unit (shape_of (clause_at ws k).code).unguarded
unfolding steps_before
steps_after ws k = rw (add-one k)

-- ---- the clauses of schema s

module _ (ws ts : List ℕ) (s steps : ℕ) where
  abbrev from : ℕ
  from = (schema_at ws s).first

  pub going_begins : PassedTo ws ts s from steps steps
  going_begins =
      record {
        clauses = λ j low (high : j < from). absurd (omega arith);
        low = λ l. l;
        count = λ l. refl;
        leads = λ l j low (high : j < from) t i. absurd (omega arith);
      }

  module _ (k start a : ℕ) (come : PassedTo ws ts s k steps a) (at : start ≡ list_start ws k) (clause : ClauseRow) (read : clause ≡ clause_at ws k) (r : Pass) (p : ClausePassed ws ts s clause start a r) where
    pub next_start : r.start ≡ list_start ws (k + 1)
    next_start = next_list ws k start r.start at (rw read at p.next)

    this : rises ws from k ≡ true → ClauseFine ws ts s k
    unfolding clause_fine_in
    this up =
        let c = clause_at ws k in
        record {
          fine =
              both (fields_ok (fields_at ws k) (schemas_word ws) c.first c.count) (rises ws from k && list_ok ws (list_start ws k) c)
              (rw read at p.fields)
              (both (rises ws from k) (list_ok ws (list_start ws k) c) up (rw (read, at) at p.listed));
          list = rw read at p.list;
        }

    pub going_on : rises ws from k ≡ true → PassedTo ws ts s (k + 1) steps r.steps
    going_on up =
        record {
          clauses = λ (j : ℕ) (low : from ≤ j) (high : j < k + 1). ⊎_elim (λ (h : k ≤ j). let e : k ≡ j = omega arith in subst (λ n. ClauseFine ws ts s n) e (this up)) (λ (h : j < k). come.clauses j low h) (le_or_lt k j);
          low = λ (l : r.steps < chain_steps). let n = p.counted.count l in come.low (omega arith);
          count =
              λ (l : r.steps < chain_steps).
              let n = rw read at (p.counted.count l) in
              let h : a < chain_steps = omega arith in
              omega (arith, steps_after ws k, come.count h);
          leads =
              λ (l : r.steps < chain_steps) (j : ℕ) (low : from ≤ j) (high : j < k + 1) (t : ℕ) (i : In t (targets_of ws j)).
              let n = p.counted.count l in
              ⊎_elim
              (λ (h : k ≤ j). let e : j ≡ k = omega arith in here l t (subst (λ n. In t (targets_of ws n)) e i))
              (λ (h : j < k). come.leads (omega arith) j low h t i)
              (le_or_lt k j);
        }
      where
        here : r.steps < chain_steps → (t : ℕ) → In t (targets_of ws k) → s < t
        here l t i = (p.counted.leads l (rw read (steps_so ws k t i))).later t (rw read (steps_in ws k t i))

-- clauses `first` to k of schema s are passed: the next list starts at `start`, and the last code was `last`
pub record Gone (ws ts : List ℕ) (s first end so_far start steps last k : ℕ) : Type 0 where
  pub low : first ≤ k
  pub high : k ≤ end
  pub passed : PassedTo ws ts s k so_far steps
  pub at_start : start ≡ list_start ws k
  pub before : (k ≡ first → ⊥) → last ≡ (clause_at ws (k - 1)).code

module _ (ws ts : List ℕ) (s first end so_far : ℕ) (at_first : first ≡ (schema_at ws s).first) where
  pub gone_begins : (start : ℕ) → start ≡ list_start ws first → first ≤ end → Gone ws ts s first end so_far start so_far 0 first
  gone_begins start at ends =
      record { low = omega arith; high = ends; passed = rw at_first (going_begins ws ts s so_far); at_start = at; before = λ n. absurd (n refl) }

  pub gone_on : {start steps last k : ℕ} → Gone ws ts s first end so_far start steps last k → k < end → (clause : ClauseRow) → clause ≡ clause_at ws k
      → (eqb k first || ltb last clause.code) ≡ true → (r : Pass) → ClausePassed ws ts s clause start steps r
      → Gone ws ts s first end so_far r.start r.steps clause.code (k + 1)
  gone_on {start} {steps} {last} {k} g more clause read up r p =
      let rising : rises ws (schema_at ws s).first k ≡ true = rw (← at_first, ← code_rises ws first last k g.low g.before, ← read) up in
      record {
        low = omega (arith, g.low);
        high = omega arith;
        passed = going_on ws ts s so_far k start steps g.passed g.at_start clause read r p rising;
        at_start = next_start ws ts s so_far k start steps g.passed g.at_start clause read r p;
        before = λ n. ap (λ (x : ClauseRow). x.code) read ∙ ap (λ (i : ℕ). (clause_at ws i).code) (omega arith);
      }

  pub gone_ends : {start steps last k : ℕ} → Gone ws ts s first end so_far start steps last k → end ≡ first + (schema_at ws s).count → end ≤ k
      → SchemaPassed ws ts s so_far (record { start = start; steps = steps })
  gone_ends {start} {steps} {last} {k} g ends past =
      let e : k ≡ (schema_at ws s).first + (schema_at ws s).count = omega (arith, g.high) in
      record { next = g.at_start ∙ ap (list_start ws) e; passed = subst (λ n. PassedTo ws ts s n so_far steps) e g.passed }

-- ---- the schemas

module _ (ws ts : List ℕ) where
  pub come_begins : Come ws ts 0 0 0 0
  unfolding list_start steps_before
  come_begins =
      record {
        next = refl;
        clauses = λ (u : ℕ) (h : u < 0). absurd (omega arith);
        count = λ l. refl;
        leads = λ l (u : ℕ) (h : u < 0). absurd (omega arith);
      }

  pub come_on : (s k start steps : ℕ) (r : Pass) → Come ws ts s k start steps → k ≡ (schema_at ws s).first → SchemaPassed ws ts s steps r
      → Come ws ts (s + 1) ((schema_at ws s).first + (schema_at ws s).count) r.start r.steps
  come_on s k start steps r come at p =
      record {
        next = p.next;
        clauses = λ (u : ℕ) (h : u < s + 1). ⊎_elim (λ (l : s ≤ u). let e : s ≡ u = omega arith in subst (λ n. (j : ℕ) → (schema_at ws n).first ≤ j → j < (schema_at ws n).first + (schema_at ws n).count → ClauseFine ws ts n j) e p.passed.clauses) (λ (l : u < s). come.clauses u l) (le_or_lt s u);
        count = λ (l : r.steps < chain_steps). let n = p.passed.count l in omega (arith, come.count (few l), ap (steps_before ws) at);
        leads = λ (l : r.steps < chain_steps) (u : ℕ) (h : u < s + 1). ⊎_elim (λ (g : s ≤ u). let e : s ≡ u = omega arith in subst (λ n. (j : ℕ) → (schema_at ws n).first ≤ j → j < (schema_at ws n).first + (schema_at ws n).count → (t : ℕ) → In t (targets_of ws j) → n < t) e (p.passed.leads l)) (λ (g : u < s). come.leads (few l) u g) (le_or_lt s u);
      }
    where
      few : r.steps < chain_steps → steps < chain_steps
      few l = p.passed.low l
