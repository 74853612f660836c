-- `plainly_passed` meets its contract: each clause passed over is one that the row passes. Assumes nothing.
use mathlib.Core.Bool.{true}
use Prim.Native.Nat.{ℕ, ◌<◌}
use Rattle.sheet.specs.Record.{doc_of}
use Rattle.clause.specs.Read.{clause_in, Tries}
use Rattle.plain.proofs.plainly_passed.Given as goal

abbrev pub invariant-loop-i : goal.invariant-loop-i
invariant-loop-i l = (k : ℕ) → k < l.i → Tries (doc_of l.«record» l.text) l.p.row.0 (clause_in l.rules l.rule_text l.p.rule.0 k) true
