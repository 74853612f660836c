-- What is read of what is lent: the case that it is, and a clause of one of its pairs.
-- Assumes nothing.
use Rattle.std.specs.Prelude.{ℕ, ◌<◌}
use Rattle.rulesheet.specs.declared.form.ClauseRow.{ClauseRow}
use Rattle.rulesheet.specs.Sheet.{schema_at}
use Rattle.meaning.specs.Rules.{Pair}
use Rattle.clause.specs.Read.{words_in}
use Rattle.lent.specs.declared.Lent.{Lent}
use Rattle.lent.specs.Lent.{Case, case_of, way_by, InCase}

-- the case that the sheets that are lent are
abbrev pub lent_case : Lent → Case
lent_case L = case_of (way_by L.cut) L.«record».now L.text.now L.rules.now L.rule_text.now

-- the words of clause i of p's schema
abbrev pub row_of : Lent → Pair → ℕ → ClauseRow
row_of L p i = words_in L.rules.now p.rule i

-- p is one of its pairs, and i a clause of the pair's schema
pub record ReadsClause (L : Lent) (p : Pair) (i : ℕ) : Type 0 where
  pub inside : InCase (lent_case L) p
  pub clause_inside : i < (schema_at L.rules.now p.rule).count
