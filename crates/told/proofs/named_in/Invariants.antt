-- `named_in` meets its contract: no entry passed has the row's name. Assumes nothing.
use mathlib.Core.Bool.{false}
use mathlib.Core.Path.{◌≡◌}
use Prim.Native.Nat.{ℕ, ◌+◌, ◌<◌}
use Rattle.sheet.specs.Record.{doc_of}
use Rattle.rulesheet.specs.Codes.{entry_name}
use Rattle.rulesheet.specs.Sheet.{entry_at}
use Rattle.meaning.specs.Rules.{called}
use Rattle.told.proofs.named_in.Given as goal

abbrev pub invariant-loop-i : goal.invariant-loop-i
invariant-loop-i l = (k : ℕ) → k < l.i → called (doc_of l.«record» l.text) (entry_name l.rule_text (entry_at l.rules (l.fn.list.first + k))) l.fn.row.0 ≡ false
