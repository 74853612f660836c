-- What passing clauses finds. No public contract cites this.
-- Assumes nothing.
use Rattle.std.specs.Prelude.{Bool, true, false, cond, ◌&&◌, List, Option, Some, None, ◌≡◌, ℕ, ◌+◌, ◌<◌}
use Rattle.laws.specs.Lowest.{lowest_from}
use Rattle.rulesheet.specs.declared.form.ClauseRow.{ClauseRow}
use Rattle.rulesheet.specs.Codes.{shape_of}
use Rattle.rulesheet.specs.Sheet.{schemas_word, schema_at}
use Rattle.rulesheet.specs.Faults.{is_list, fields_ok, list_start, list_ok, clause_fault}

-- what passing a clause finds, but for the rise of its code: where the next list starts, if the clause is not at fault; it starts at `start` before it
abbrev pub passed : Bool → ℕ → Option ℕ
passed true next = Some next
passed false next = None

abbrev pub passed_by : List ℕ → ℕ → ClauseRow → Option ℕ
passed_by ws start clause =
    let fields = (shape_of clause.code).fields in
    passed (fields_ok fields (schemas_word ws) clause.first clause.count && list_ok ws start clause)
    (cond (is_list fields) (clause.first + clause.count) start)

-- no clause of schema s is at fault, and the next list starts at `start` after them
pub record ClausesPassed (ws : List ℕ) (s start : ℕ) : Type 0 where
  pub none_is : (schema_at ws s).first + (schema_at ws s).count ≡ lowest_from (clause_fault ws) (schema_at ws s).count (schema_at ws s).first
  pub start_is : start ≡ list_start ws ((schema_at ws s).first + (schema_at ws s).count)

-- the lowest clause of schema s that is at fault
pub record ClauseFaulty (ws : List ℕ) (s fault : ℕ) : Type 0 where
  pub inside : fault < (schema_at ws s).first + (schema_at ws s).count
  pub fault_is : fault ≡ lowest_from (clause_fault ws) (schema_at ws s).count (schema_at ws s).first
