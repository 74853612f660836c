-- `clause_length` meets its contract. Where i steps were passed, the length is told from their schemas, and those are marked that do not come after s.
-- Assumes nothing.
use mathlib.Core.Path.{◌≡◌}
use lib.ListN.{length, take}
use Rattle.rulesheet.specs.Sheet.{targets_of}
use Rattle.unguarded.specs.Lengths.{Raised, Noted}
use Rattle.chains.proofs.clause_length.Given as goal

abbrev pub invariant-loop-i : goal.invariant-loop-i
invariant-loop-i l =
    Raised (take l.i (targets_of l.words l.k)) l.table l.most l.long × Noted l.s.0 (take l.i (targets_of l.words l.k)) l.initial.late l.late × (length l.late ≡ length l.initial.late)
