-- The steps of a clause that one pass over a rule sheet goes by: that they lead to later schemas, and how many clauses had some.
-- Assumes nothing.
use Rattle.std.specs.Prelude.{Bool, true, false, List, ◌≡◌, ℕ, ◌+◌, ◌≤◌, ◌<◌}
use Rattle.rulesheet.specs.declared.form.EntryRow.{EntryRow}
use Rattle.rulesheet.specs.Sheet.{entry_at}
use Rattle.unguarded.specs.Graph.{chain_steps}

abbrev pub unit : Bool → ℕ
unit true = 1
unit false = 0

-- the schema of an entry, which has a name or not
abbrev pub schema_in : Bool → EntryRow → ℕ
schema_in true entry = entry.third
schema_in false entry = entry.first

-- the schemas of these entries stand after s
pub record AllLater (ws : List ℕ) (named : Bool) (s first end : ℕ) : Type 0 where
  pub later : (x : ℕ) → first ≤ x → x < end → s < schema_in named (entry_at ws x)

-- one more than `steps` if the clause has steps, and then they lead to later schemas; from `chain_steps` on nothing is told
pub record Counted (unguarded : Bool) (later : Type 0) (steps r : ℕ) : Type 0 where
  pub count : r < chain_steps → r ≡ steps + unit unguarded
  pub leads : r < chain_steps → unguarded ≡ true → later
