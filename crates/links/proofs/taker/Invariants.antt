-- `taker` meets its contract. Where the schemas after s were passed, they start after clause k. Assumes nothing.
use Prim.Native.Nat.{◌<◌}
use Rattle.rulesheet.specs.Sheet.{schemas_word}
use Rattle.unguarded.specs.Lengths.{StartAfter}
use Rattle.links.proofs.taker.Given as goal

abbrev pub invariant-loop-s : goal.invariant-loop-s
invariant-loop-s l =
    (l.s < schemas_word l.words) × StartAfter l.words l.s l.k
