-- What the checks give to those who judge: a record and rules that fit each other's kind, and the number that falls along every application.
-- Assumes nothing.
use mathlib.Core.List.{List, Memᴰ as In}
use Rattle.std.specs.Prelude.{◌≡◌, ℕ, suc, ◌+◌, ◌-◌, ◌*◌, ◌≤◌, ◌<◌}
use Rattle.sheet.specs.Doc.{Doc, null, level}
use Rattle.sheet.specs.Faults.{level_refused}
use Rattle.sheet.specs.Accepted.{WellFormed}
use Rattle.rulesheet.specs.Ruleset.{Clause, Ruleset, named, next}
use Rattle.rulesheet.specs.Faults.{schemas_max}
use Rattle.unguarded.specs.Graph.{chain_steps, longest, Grounded}
use Rattle.meaning.specs.Rules.{Pair}

-- a record of n rows and rules of m schemas, both accepted
pub record Fit (D : Doc) (R : Ruleset) (n m : ℕ) : Type 0 where
  pub rows : WellFormed D n
  pub past : (j : ℕ) → n ≤ j → D.value j ≡ null
  pub some : 0 < m
  pub few : m ≤ schemas_max
  pub inside : (s : ℕ) (c : Clause) (t : ℕ) → In c (R.clauses s) → In t (named c) → t < m
  pub grounds : Grounded (next R)

-- the pair is one of the n × m
pub record Inside (n m : ℕ) (p : Pair) : Type 0 where
  pub row_in : p.row < n
  pub rule_in : p.rule < m

-- the levels from the row's own down to the last that is allowed
abbrev pub levels_left : Doc → ℕ → ℕ
levels_left D j = level_refused - level D.owner j

-- levels left × 33 + the longest unguarded chain
unfoldable pub rank : Doc → Ruleset → Pair → ℕ
rank D R p = levels_left D p.row * suc chain_steps + longest (next R) chain_steps p.rule
