-- One schema and one entry, by the rows that were read.
-- Assumes nothing.
use mathlib.Core.Bool.{◌&&◌}
use mathlib.Core.List.{List}
use mathlib.Core.Path.{◌≡◌}
use Prim.Native.Nat.{ℕ, ◌+◌}
use native.Mathlib.Numerals.{add-one}
use lib.Dec.{eqb, leb}
use Rattle.rulesheet.specs.declared.form.SchemaRow.{SchemaRow}
use Rattle.rulesheet.specs.Sheet.{clauses_word, schema_at}
use Rattle.rulesheet.specs.Faults.{schema_start, schema_fine}

module _ (ws : List ℕ) (s first end start c : ℕ) (row : SchemaRow) (read : row ≡ schema_at ws s) (at_first : first ≡ row.first) (at_end : end ≡ row.first + row.count) where
  pub schema_tested : start ≡ schema_start ws s → c ≡ clauses_word ws → (eqb first start && leb end c) ≡ schema_fine ws s
  unfolding schema_fine
  schema_tested at_start count = rw (at_first, at_end, at_start, count, read)

  pub next_schema : end ≡ schema_start ws (s + 1)
  unfolding schema_start
  next_schema = rw (add-one, at_end, read)
