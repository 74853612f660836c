-- `required` meets its contract: each name passed is the name of a child. Assumes nothing.
use mathlib.Core.Bool.{true}
use mathlib.Core.Path.{◌≡◌}
use Prim.Native.Nat.{ℕ, ◌+◌, ◌<◌}
use Rattle.sheet.specs.Record.{doc_of}
use Rattle.rulesheet.specs.Codes.{entry_name}
use Rattle.rulesheet.specs.Sheet.{entry_at}
use Rattle.clause.proofs.Requiring.{is_named}
use Rattle.clause.proofs.members.required.Given as goal

abbrev pub invariant-loop-i : goal.invariant-loop-i
invariant-loop-i l = (k : ℕ) → k < l.i → is_named (doc_of l.«record» l.text) l.row.0 (entry_name l.rule_text (entry_at l.rules (l.list.first + k))) ≡ true
