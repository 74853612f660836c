-- What one pass over a rule sheet tells. Only `Told` is cited by the check of a sheet; the rest says how far a pass has come.
-- Assumes nothing.
use Rattle.std.specs.Prelude.{Bool, true, false, cond, ◌&&◌, ◌≡◌, ℕ, zero, suc, ◌+◌, ◌≤◌, ◌<◌, eqb, leb}
use mathlib.Core.List.{List, map, Memᴰ as In}
use Rattle.rulesheet.specs.declared.code.Shape.{Shape}
use Rattle.rulesheet.specs.declared.form.ClauseRow.{ClauseRow}
use Rattle.rulesheet.specs.declared.form.RuleForm.{RuleForm}
use Rattle.rulesheet.specs.Codes.{shape_of}
use Rattle.rulesheet.specs.Sheet.{schemas_word, schema_at, clause_at, entry_at, run, targets_of, next_of}
use Rattle.rulesheet.specs.Faults.{is_list, fields_ok, fields_at, list_start, list_ok, clause_fine_in, repeated}
use Rattle.rulesheet.specs.Read.{RulesLaid}
use Rattle.rulesheet.proofs.Reaching.{named_by}
use Rattle.unguarded.specs.Graph.{chain_steps}
use Rattle.unguarded.specs.Places.{chain_place}
use Rattle.rulelists.specs.Lists.{ListFine}
use Rattle.rulesteps.specs.Later.{unit, Counted}
use Rattle.rulepass.specs.declared.Pass.{Pass}
use Rattle.rulepass.specs.declared.Order.{Order}

-- ---- what the check goes by

-- none of 6 and 7 applies
pub record Laid (ws ts : List ℕ) (form : RuleForm) : Type 0 where
  pub rules_laid : RulesLaid ws form
  pub names_differ : (x : ℕ) → x < form.e → repeated ws ts x ≡ false

-- what is told is so; what is not told may be so
pub record Told (ws ts : List ℕ) (form : RuleForm) (r : Order) : Type 0 where
  pub laid : r.laid ≡ true → Laid ws ts form
  pub short : r.short ≡ true → schemas_word ws ≤ chain_place (schemas_word ws) (next_of ws)

-- ---- steps

-- the clauses before k that apply schemas to the row itself
unfoldable pub steps_before : List ℕ → ℕ → ℕ
steps_before ws zero = 0
steps_before ws (suc k) = steps_before ws k + unit (shape_of (clause_at ws k).code).unguarded

-- the schemas that a clause names, by its words
abbrev pub schemas_by : List ℕ → ClauseRow → List ℕ
schemas_by ws clause = named_by (shape_of clause.code).fields clause.first (map (entry_at ws) (run clause.count clause.first))

-- they stand after s
pub record LeadsOn (ws : List ℕ) (s : ℕ) (clause : ClauseRow) : Type 0 where
  pub later : (t : ℕ) → In t (schemas_by ws clause) → s < t

-- ---- clauses and schemas

-- a list of this shape starts where the next one does, ends within e entries, and has as many as its shape asks
abbrev pub listed_by : ℕ → Shape → ℕ → ClauseRow → Bool
listed_by e shape start clause =
    eqb clause.first start && (leb (clause.first + clause.count) e && (leb shape.least clause.count && leb clause.count shape.most))

-- a clause of schema s was passed, from where the next list started and how many clauses had had steps
pub record ClausePassed (ws ts : List ℕ) (s : ℕ) (clause : ClauseRow) (start steps : ℕ) (r : Pass) : Type 0 where
  pub fields : fields_ok (shape_of clause.code).fields (schemas_word ws) clause.first clause.count ≡ true
  pub listed : list_ok ws start clause ≡ true
  pub list : is_list (shape_of clause.code).fields ≡ true → ListFine ws ts (shape_of clause.code).fields clause.first clause.count
  pub next : r.start ≡ cond (is_list (shape_of clause.code).fields) (clause.first + clause.count) start
  pub counted : Counted (shape_of clause.code).unguarded (LeadsOn ws s clause) steps r.steps

-- clause k, of schema s, is in order
pub record ClauseFine (ws ts : List ℕ) (s k : ℕ) : Type 0 where
  pub fine : clause_fine_in ws (schema_at ws s).first (list_start ws k) k ≡ true
  pub list : is_list (fields_at ws k) ≡ true → ListFine ws ts (fields_at ws k) (clause_at ws k).first (clause_at ws k).count

-- the clauses of schema s up to k were passed
pub record PassedTo (ws ts : List ℕ) (s k steps after : ℕ) : Type 0 where
  pub clauses : (j : ℕ) → (schema_at ws s).first ≤ j → j < k → ClauseFine ws ts s j
  pub low : after < chain_steps → steps < chain_steps
  pub count : after < chain_steps → after + steps_before ws (schema_at ws s).first ≡ steps + steps_before ws k
  pub leads : after < chain_steps → (j : ℕ) → (schema_at ws s).first ≤ j → j < k → (t : ℕ) → In t (targets_of ws j) → s < t

-- all its clauses were
pub record SchemaPassed (ws ts : List ℕ) (s steps : ℕ) (r : Pass) : Type 0 where
  pub next : r.start ≡ list_start ws ((schema_at ws s).first + (schema_at ws s).count)
  pub passed : PassedTo ws ts s ((schema_at ws s).first + (schema_at ws s).count) steps r.steps

-- the schemas before s were passed
pub record Come (ws ts : List ℕ) (s k start steps : ℕ) : Type 0 where
  pub next : start ≡ list_start ws k
  pub clauses : (u : ℕ) → u < s → (j : ℕ) → (schema_at ws u).first ≤ j → j < (schema_at ws u).first + (schema_at ws u).count → ClauseFine ws ts u j
  pub count : steps < chain_steps → steps ≡ steps_before ws k
  pub leads : steps < chain_steps → (u : ℕ) → u < s → (j : ℕ) → (schema_at ws u).first ≤ j → j < (schema_at ws u).first + (schema_at ws u).count → (t : ℕ) → In t (targets_of ws j) → u < t
