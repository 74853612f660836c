-- What the tests of a rule sheet give to those who read it: the premises of the readers.
-- Assumes nothing.
use Rattle.std.specs.Prelude.{true, List, ◌≡◌, ℕ, ◌<◌}
use Rattle.rulesheet.specs.declared.form.RuleForm.{RuleForm}
use Rattle.rulesheet.specs.Sheet.{form_of}
use Rattle.rulesheet.specs.Faults.{words_ok, schema_fine, clause_fine, entry_fine}

-- the form is that of these words, and their trailer is in order
pub record RulesFormed (ws : List ℕ) (form : RuleForm) : Type 0 where
  pub trailer : words_ok ws ≡ true
  pub same_form : form ≡ form_of ws

-- and no schema breaks the layout
pub record SchemasLaid (ws : List ℕ) (form : RuleForm) : Type 0 where
  pub formed : RulesFormed ws form
  pub schemas_fine : (s : ℕ) → s < form.m → schema_fine ws s ≡ true

-- and no clause
pub record ClausesLaid (ws : List ℕ) (form : RuleForm) : Type 0 where
  pub schemas_laid : SchemasLaid ws form
  pub clauses_fine : (k : ℕ) → k < form.c → clause_fine ws k ≡ true

-- and no entry
pub record RulesLaid (ws : List ℕ) (form : RuleForm) : Type 0 where
  pub clauses_laid : ClausesLaid ws form
  pub entries_fine : (x : ℕ) → x < form.e → entry_fine ws x ≡ true
