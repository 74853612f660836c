-- `other_turn` meets its contract: each member that was passed over has been named. Assumes nothing.
use Prim.Native.Nat.{ℕ}
use Rattle.sheet.specs.Record.{doc_of}
use Rattle.rulesheet.specs.Ruleset as R
use Rattle.meaning.specs.Rules.{Marks}
use Rattle.areas.specs.Cells.{pair_is}
use Rattle.clause.specs.Read.{before_in}
use Rattle.steps.specs.Turns.{Skipped}
use Rattle.steps.proofs.members.other_turn.Given as goal

abbrev pub invariant-loop-at : goal.invariant-loop-at
invariant-loop-at l =
    ((κ : Marks) (t : ℕ) → Skipped (doc_of l.«record» l.text) (pair_is l.p) (before_in l.rules l.rule_text l.p.rule.0 l.i) (R.takes (R.additional_properties l.rule.0)) κ t l.x l.at)
