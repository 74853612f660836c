-- A line of steps: step x of a clause applies one schema to row `first + x`, whatever is marked and carried.
-- Assumes nothing.
use Rattle.std.specs.Prelude.{ℕ, ◌+◌, ◌-◌, ◌≤◌, ◌<◌, Bool, true, false, List, ◌≡◌}
use Rattle.sheet.specs.declared.record.Pair as P
use Rattle.sheet.specs.Doc.{Doc, first_child}
use Rattle.sheet.specs.Record.{doc_of}
use Rattle.rulesheet.specs.declared.form.ClauseRow.{ClauseRow}
use Rattle.rulesheet.specs.declared.form.RuleForm.{RuleForm}
use Rattle.rulesheet.specs.Ruleset.{Clause}
use Rattle.rulesheet.specs.Sheet.{schema_at}
use Rattle.meaning.specs.Rules.{Pair}
use Rattle.clause.specs.Read.{RulesRead, clause_in, before_in, words_in}
use Rattle.areas.specs.Cells.{pair_is}
use Rattle.line.specs.declared.Line.{Line}
use Rattle.plan.specs.Plan.{counts_hits, branches, steps_of, aim_of, go_of}
use Rattle.told.specs.Read.{Started}

-- the first n steps of the clause apply schema s to the rows from `first` on; if there are any, it counts the steps that fail, and has no branches
pub record InLine (D : Doc) (p : Pair) (before : List Clause) (c : Clause) (first n s : ℕ) : Type 0 where
  pub within : n ≤ steps_of D p before c
  pub aims : (x : ℕ) → x < n → aim_of D p before c x ≡ record { row = first + x; rule = s }
  pub goes : (x : ℕ) → x < n → (marked : Bool) (t : ℕ) → go_of D p before c x marked t ≡ true
  pub hits_none : 0 < n → counts_hits c ≡ false
  pub branches_none : 0 < n → branches c ≡ false

-- r is the children of row j from number `from` on, of the first `many`, with schema s
pub record ChildrenLine (ws : List ℕ) (j s from many : ℕ) (r : Line) : Type 0 where
  pub count_is : r.count ≡ many - from
  pub first_is : 0 < r.count → (ts : List ℕ) → r.first ≡ first_child ((doc_of ws ts).value j) + from
  pub rule_is : 0 < r.count → r.rule.0 ≡ s

-- clause i of p's schema is one of the rules, its words are `row`, and `from` is what the clauses before tell it
pub record LineAsked (rs us : List ℕ) (rule_form : RuleForm) (p : P.Pair) (i : ℕ) (row : ClauseRow) (from : ℕ) : Type 0 where
  pub rules_read : RulesRead rs us rule_form
  pub rule_in : p.rule.0 < rule_form.m
  pub clause_inside : i < (schema_at rs p.rule.0).count
  pub row_is : row ≡ words_in rs p.rule.0 i
  pub started : Started (before_in rs us p.rule.0 i) (clause_in rs us p.rule.0 i) from

-- the steps of r are the first of clause i of p's schema, which means c: over the two sheets
abbrev pub LinedIn : (ws ts rs us : List ℕ) → P.Pair → ℕ → Clause → Line → Type 0
LinedIn ws ts rs us p i c r = InLine (doc_of ws ts) (pair_is p) (before_in rs us p.rule.0 i) c r.first r.count r.rule.0
