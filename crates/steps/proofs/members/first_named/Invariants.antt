-- `first_named` meets its contract: no member has the name of an entry that was passed over. Assumes nothing.
use mathlib.Core.Path.{◌≡◌}
use Rattle.sheet.specs.Record.{doc_of}
use Rattle.rulesheet.specs.Clauses.{members_in}
use Rattle.meaning.specs.Rules.{Pair}
use Rattle.steps.specs.Turns.{NoneNamed}
use Rattle.steps.proofs.members.first_named.Given as goal

abbrev pub invariant-loop-at : goal.invariant-loop-at
invariant-loop-at l = (p : Pair) → p.row ≡ l.row.0 → NoneNamed (doc_of l.«record» l.text) p (members_in l.rules l.rule_text l.list) l.x l.at
