-- What acceptance of a rule sheet gives, and what is known once 5 does not apply.
-- Assumes nothing.
use Rattle.std.specs.Prelude.{true, false, ◌&&◌, List, ◌≡◌, ℕ, suc, ◌+◌, ◌≤◌, ◌<◌, length}
use Rattle.utf8.specs.Encoding.{Utf8}
use Rattle.sheet.specs.Refusals.{accepted}
use Rattle.rulesheet.specs.declared.form.RuleForm.{RuleForm}
use Rattle.rulesheet.specs.Ruleset.{next}
use Rattle.rulesheet.specs.Sheet.{clauses_word, entries_word, form_of, schema_at, clause_at, entry_at, rules_of}
use Rattle.rulesheet.specs.Faults.{words_ok, text_ok, schemas_max, is_list, fields_at, schema_start, list_start, list_over, repeated, entry_text}
use Rattle.rulesheet.specs.Read.{RulesLaid}
use Rattle.unguarded.specs.Graph.{Grounded}
use Rattle.rules.specs.Check.{rules_outcome}

-- 5 does not apply, and the form is that of the words
pub record TrailerFine (ws ts : List ℕ) (form : RuleForm) : Type 0 where
  pub good : (words_ok ws && text_ok ws (length ts)) ≡ true
  pub same_form : form ≡ form_of ws

-- the words and the text are an accepted rule sheet of that form
pub record AcceptedRules (ws ts : List ℕ) (form : RuleForm) : Type 0 where
  pub same_form : form ≡ form_of ws
  pub accepts : rules_outcome ws ts ≡ accepted form.m

pub record RulesFacts (ws ts : List ℕ) (form : RuleForm) : Type 0 where
  pub some : 1 ≤ form.m
  pub few : form.m ≤ schemas_max
  -- every schema, clause and entry is as its place asks: schemas that are named exist, ranges lie within the text. The readers' premise
  pub rules_laid : RulesLaid ws form
  -- schemas take the clauses in order, without gap or rest; list clauses the entries likewise
  pub schema_starts : (s : ℕ) → s < form.m → (schema_at ws s).first ≡ schema_start ws s
  pub schemas_end : schema_start ws form.m ≡ clauses_word ws
  pub list_starts : (k : ℕ) → k < form.c → is_list (fields_at ws k) ≡ true → (clause_at ws k).first ≡ list_start ws k
  pub lists_end : list_start ws form.c ≡ entries_word ws
  -- within a schema codes rise
  pub codes_rise : (s k : ℕ) → s < form.m → (schema_at ws s).first ≤ k → suc k < (schema_at ws s).first + (schema_at ws s).count
      → (clause_at ws k).code < (clause_at ws (suc k)).code
  -- no entry of a clause has an earlier one's name
  pub names_differ : (x : ℕ) → x < form.e → repeated ws ts x ≡ false
  -- the text that an entry names is UTF-8
  pub readable : (x : ℕ) → x < form.e → Utf8 (entry_text (fields_at ws (list_over ws x)) ts (entry_at ws x))
  -- no unguarded loop, no chain of 33 schemas, and a number for each schema that falls along every unguarded step
  pub grounds : Grounded (next (rules_of ws ts))
