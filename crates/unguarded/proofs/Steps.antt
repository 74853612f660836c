-- The unguarded steps of a schema of a sheet.
--     joined, joined_more        lists after each other, and one more at the end
--     joined_in, in_joined       what is in them is in one of them
--     next_is, next_none         a schema's steps are its clauses' steps in turn; past the schemas there are none
--     next_same, same_next       they are the same over every text
--     next_read                  the same by the row that was read
--     schema_count, clause_count, few_schemas, few_clauses     the counts of an accepted layout
--     clause_inside, clause_read     a clause of a schema is a clause
--     next_inside                each step leads to a schema
-- Assumes nothing.
use mathlib.Core.List.Memᴰ.{append_cases as in_split}
use mathlib.Core.List.Memᴰ.{append_left as in_left}
use mathlib.Core.List.Memᴰ.{append_right as in_right}
use mathlib.Core.List.Memᴰ.{not-nil as in_none}
use mathlib.Core.List.{List, [], ◌++◌, map, append_assoc, append-nil, Memᴰ as In}
use mathlib.Core.Logic.{⊎_elim}
use mathlib.Core.Path.{◌≡◌, refl, sym, ap, ◌∙◌, subst, fun_ext}
use Prim.Native.Nat.{ℕ, zero, suc, ◌+◌, ◌≤◌, ◌<◌}
use native.Mathlib.Nat.{eq-or-lt_of_le, le_of_suc-le-suc, add-zero}
use native.Mathlib.Numerals.{add-one}
use native.Mathlib.Omega.{arith}
use borrow.Author.Tests.{lt-ltb, le-ltb}
use Rattle.laws.proofs.Tests.{le_or_lt}
use Rattle.rulesheet.specs.declared.form.SchemaRow.{SchemaRow}
use Rattle.rulesheet.specs.declared.form.RuleForm.{RuleForm}
use Rattle.rulesheet.specs.Ruleset.{steps, next}
use Rattle.rulesheet.specs.Sheet.{schemas_word, clauses_word, schema_at, run, clause_of, rules_of, targets_of, next_of}
use Rattle.rulesheet.specs.Faults.{schemas_max, parts_max}
use Rattle.rulesheet.specs.Read.{RulesFormed, RulesLaid}
use Rattle.rulesheet.proofs.Trailers.{facts, form_m, form_c}
use Rattle.rulesheet.proofs.Taking.{schema_within}
use Rattle.rulesheet.proofs.Reaching.{steps_over}
use Rattle.unguarded.proofs.Targets.{target_inside}

-- ---- lists after each other

-- the `many` lists from `from` on
unfoldable pub joined : (ℕ → List ℕ) → ℕ → ℕ → List ℕ
joined f from zero = []
joined f from (suc many) = joined f from many ++ f (from + many)

pub joined_more : (f : ℕ → List ℕ) (from many : ℕ) → joined f from (many + 1) ≡ joined f from many ++ f (from + many)
unfolding joined
joined_more f from many = rw add-one

-- the first list may be split off as well
joined_first : (f : ℕ → List ℕ) (from many : ℕ) → joined f from (suc many) ≡ f from ++ joined f (from + 1) many
unfolding joined
joined_first f from zero = rw (add-zero, append-nil)
joined_first f from (suc many) =
    let e : from + suc many ≡ (from + 1) + many = omega arith in
    ap (λ (l : List ℕ). l ++ f (from + suc many)) (joined_first f from many)
    ∙ append_assoc (f from) (joined f (from + 1) many) (f (from + suc many))
    ∙ ap (λ (n : ℕ). f from ++ (joined f (from + 1) many ++ f n)) e

pub joined_in : (f : ℕ → List ℕ) (from many : ℕ) {x : ℕ} → In x (joined f from many) → (i : ℕ) × ((i < many) × In x (f (from + i)))
unfolding joined
joined_in f from zero m = absurd (in_none m)
joined_in f from (suc many) m =
    ⊎_elim
    (λ n. let r = joined_in f from many n in (r.0, (omega (arith, r.1.0), r.1.1)))
    (λ n. (many, (omega arith, n)))
    (in_split (joined f from many) m)

pub in_joined : (f : ℕ → List ℕ) (from many i : ℕ) {x : ℕ} → i < many → In x (f (from + i)) → In x (joined f from many)
unfolding joined
in_joined f from zero i h m = absurd (omega arith)
in_joined f from (suc many) i {x} h m =
    ⊎_elim
    (λ e. in_right (joined f from many) (subst (λ n. In x (f (from + n))) e m))
    (λ l. in_left (f (from + many)) (in_joined f from many i l m))
    (eq-or-lt_of_le (le_of_suc-le-suc h))

-- ---- the steps of a schema

module _ (ws : List ℕ) where
  steps_joined : (ts : List ℕ) (many from : ℕ) → steps (map (clause_of ws ts) (run many from)) ≡ joined (targets_of ws) from many
  unfolding steps run joined
  steps_joined ts zero from = refl
  steps_joined ts (suc many) from =
      rw (steps_over ws ts from, steps_joined ts many (from + 1)) (sym (joined_first (targets_of ws) from many))

  next_over : (ts : List ℕ) (s : ℕ) → s < schemas_word ws → next (rules_of ws ts) s ≡ joined (targets_of ws) (schema_at ws s).first (schema_at ws s).count
  unfolding rules_of
  next_over ts s h = rw (lt-ltb s (schemas_word ws) h) (steps_joined ts (schema_at ws s).count (schema_at ws s).first)

  none_over : (ts : List ℕ) (s : ℕ) → schemas_word ws ≤ s → next (rules_of ws ts) s ≡ []
  unfolding rules_of steps
  none_over ts s h = rw (le-ltb s (schemas_word ws) h)

  pub next_is : (s : ℕ) → s < schemas_word ws → next_of ws s ≡ joined (targets_of ws) (schema_at ws s).first (schema_at ws s).count
  unfolding next_of
  next_is s h = next_over [] s h

  pub next_none : (s : ℕ) → schemas_word ws ≤ s → next_of ws s ≡ []
  unfolding next_of
  next_none s h = none_over [] s h

  pub next_same : (ts : List ℕ) (s : ℕ) → next (rules_of ws ts) s ≡ next_of ws s
  next_same ts s =
      ⊎_elim
      (λ (h : schemas_word ws ≤ s). none_over ts s h ∙ sym (next_none s h))
      (λ (h : s < schemas_word ws). next_over ts s h ∙ sym (next_is s h))
      (le_or_lt (schemas_word ws) s)

  pub same_next : (ts : List ℕ) → next (rules_of ws ts) ≡ next_of ws
  same_next ts = fun_ext (next_same ts)

  -- ---- by the row that was read

  module _ (s : ℕ) (h : s < schemas_word ws) (row : SchemaRow) (read : row ≡ schema_at ws s) where
    pub next_read : next_of ws s ≡ joined (targets_of ws) row.first row.count
    next_read = next_is s h ∙ rw read

  -- ---- on a sheet whose layout is accepted

  module _ (form : RuleForm) (laid : RulesLaid ws form) where
    formed : RulesFormed ws form
    formed = laid.clauses_laid.schemas_laid.formed

    pub schema_count : form.m ≡ schemas_word ws
    schema_count = form_m ws form formed

    pub clause_count : form.c ≡ clauses_word ws
    clause_count = form_c ws form formed

    pub few_schemas : schemas_word ws ≤ schemas_max
    few_schemas = (facts ws form formed).few

    pub few_clauses : clauses_word ws ≤ parts_max
    few_clauses = (facts ws form formed).few_clauses

    pub clause_inside : (s j : ℕ) → s < schemas_word ws → j < (schema_at ws s).count → (schema_at ws s).first + j < clauses_word ws
    clause_inside s j h l =
        omega (arith, schema_within ws form laid.clauses_laid.schemas_laid s (omega (arith, schema_count)))

    -- the same, by the row that was read
    pub clause_read : (s j : ℕ) (row : SchemaRow) → row ≡ schema_at ws s → s < schemas_word ws → j < row.count → row.first + j < clauses_word ws
    clause_read s j row read h l =
        let a = ap (λ (r : SchemaRow). r.first) read in
        let b = ap (λ (r : SchemaRow). r.count) read in
        omega (arith, clause_inside s j h (omega arith))

    pub next_inside : (s t : ℕ) → In t (next_of ws s) → t < schemas_word ws
    next_inside s t m = ⊎_elim (λ (h : schemas_word ws ≤ s). absurd (past h)) inner (le_or_lt (schemas_word ws) s)
      where
        past : schemas_word ws ≤ s → ⊥
        past h = in_none (subst (λ xs. In t xs) (next_none s h) m)

        inner : s < schemas_word ws → t < schemas_word ws
        inner h =
            let r = joined_in (targets_of ws) (schema_at ws s).first (schema_at ws s).count (subst (λ xs. In t xs) (next_is s h) m) in
            target_inside ws form laid ((schema_at ws s).first + r.0) (clause_inside s r.0 h r.1.0) r.1.1
