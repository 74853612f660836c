-- What is asked of the rules that a test reads, and how a clause is read and tried.
-- Assumes nothing.
use Rattle.std.specs.Prelude.{Bool, true, List, ◌≡◌, ℕ, ◌+◌, ◌≤◌, ◌<◌, length, get_or, take}
use Rattle.sheet.specs.Doc.{Doc}
use Rattle.rulesheet.specs.declared.code.Fields.{Fields}
use Rattle.rulesheet.specs.declared.form.ClauseRow.{ClauseRow}
use Rattle.rulesheet.specs.declared.form.RuleForm.{RuleForm}
use Rattle.rulesheet.specs.declared.clause.Entries.{Entries}
use Rattle.rulesheet.specs.declared.clause.Clause.{Clause}
use Rattle.rulesheet.specs.Ruleset as R
use Rattle.rulesheet.specs.Ruleset.{Test, never, asserts}
use Rattle.rulesheet.specs.Sheet as S
use Rattle.rulesheet.specs.Faults.{entry_ok}
use Rattle.rulesheet.specs.Read.{RulesLaid}
use Rattle.rulesheet.specs.Clauses.{clause_means, Tested}
use Rattle.meaning.specs.Rules.{passes}

-- nothing of the rules breaks the layout, and their text has the length that their trailer says
pub record RulesRead (ws ts : List ℕ) (form : RuleForm) : Type 0 where
  pub laid : RulesLaid ws form
  pub text_length : length ts ≡ S.text_word ws

-- a list of entries of these fields, as the tests of the rules leave it
pub record ListRead (ws : List ℕ) (form : RuleForm) (fields : Fields) (list : Entries) : Type 0 where
  pub within : list.first + list.count ≤ form.e
  pub listed : (i : ℕ) → i < list.count → entry_ok fields (S.text_word ws) (S.schemas_word ws) (S.entry_at ws (list.first + i)) ≡ true

-- ---- a clause of a schema

-- the clauses of schema s: number i, and those before it
abbrev pub clause_in : List ℕ → List ℕ → ℕ → ℕ → R.Clause
clause_in rs us s i = get_or ((S.rules_of rs us).clauses s) i (asserts never)

abbrev pub before_in : List ℕ → List ℕ → ℕ → ℕ → List R.Clause
before_in rs us s i = take i ((S.rules_of rs us).clauses s)

-- the words of clause i of schema s
abbrev pub words_in : List ℕ → ℕ → ℕ → ClauseRow
words_in rs s i = S.clause_at rs ((S.schema_at rs s).first + i)

-- clause i of schema s was read, as far as f asks for it
pub record ClauseRead (f : R.Clause → R.Clause) (rs us : List ℕ) (form : RuleForm) (s i : ℕ) (clause : Clause) : Type 0 where
  pub schema_in : s < form.m
  pub clause_inside : i < (S.schema_at rs s).count
  pub means : clause_means rs us clause ≡ f (clause_in rs us s i)
  pub tested : Tested rs form clause

-- the clause c is a test, and row j passes it or not, as `ok` says
abbrev pub Tries : Doc → ℕ → R.Clause → Bool → Type 0
Tries d j c ok = (t : Test) × (c ≡ asserts t) × (ok ≡ passes d j t)

-- the first r of n clauses are tests that row j passes
pub record PassedFirst (d : Doc) (j : ℕ) (clauses : ℕ → R.Clause) (n r : ℕ) : Type 0 where
  pub within : r ≤ n
  pub passed : (k : ℕ) → k < r → Tries d j (clauses k) true
