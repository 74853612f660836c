-- `rows_passed` meets its contract: the rows left after a clause are those that pass it too. Assumes nothing.
use mathlib.Core.Bool.{true}
use Prim.Native.Nat.{ℕ, ◌<◌}
use Rattle.sheet.specs.Doc.{Doc}
use Rattle.sheet.specs.Record.{doc_of}
use Rattle.rulesheet.specs.Ruleset.{Clause}
use Rattle.clause.specs.Read.{clause_in, Tries}
use Rattle.rows.specs.Firsts.{FirstRows}
use Rattle.rows.proofs.rows_passed.Given as goal

-- row j passes the first i clauses
abbrev pub Passed : Doc → (ℕ → Clause) → ℕ → ℕ → Type 0
Passed d clauses i j = (k : ℕ) → k < i → Tries d j (clauses k) true

abbrev pub invariant-loop-i : goal.invariant-loop-i
invariant-loop-i l = FirstRows l.p.row.0 l.n l.left (Passed (doc_of l.«record» l.text) (clause_in l.rules l.rule_text l.p.rule.0) l.i)
