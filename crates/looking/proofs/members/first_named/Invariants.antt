-- `first_named` meets its contract: what is left of the search tells what the whole tells. Assumes nothing.
use Prim.Native.Nat.{◌+◌}
use Rattle.laws.proofs.Passing.{Passing}
use Rattle.text.specs.Part.{part}
use Rattle.sheet.specs.Record.{doc_of}
use Rattle.meaning.specs.Rules.{called}
use Rattle.looking.proofs.members.first_named.Given as goal

abbrev pub invariant-loop-i : goal.invariant-loop-i
invariant-loop-i l = Passing (λ k. called (doc_of l.«record» l.text) (part l.rule_text l.name) (l.first + k)) l.count l.i
