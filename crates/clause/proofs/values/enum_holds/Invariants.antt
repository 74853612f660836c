-- `enum_holds` meets its contract: none of the entries passed is the row's value. Assumes nothing.
use mathlib.Core.Bool.{false}
use mathlib.Core.Path.{◌≡◌}
use Prim.Native.Nat.{ℕ, ◌+◌, ◌<◌}
use Rattle.sheet.specs.Record.{doc_of}
use Rattle.rulesheet.specs.Codes.{entry_value}
use Rattle.rulesheet.specs.Sheet.{entry_at}
use Rattle.meaning.specs.Tests.{equal}
use Rattle.clause.proofs.values.enum_holds.Given as goal

abbrev pub invariant-loop-i : goal.invariant-loop-i
invariant-loop-i l = (k : ℕ) → k < l.i → equal ((doc_of l.«record» l.text).value l.row.0) (entry_value l.rule_text (entry_at l.rules (l.list.first + k))) ≡ false
