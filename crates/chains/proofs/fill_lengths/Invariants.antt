-- `fill_lengths` meets its contract. After k passes no chain of up to k steps is longer than told. Assumes nothing.
use mathlib.Core.Path.{◌≡◌}
use lib.ListN.{length}
use Rattle.rulesheet.specs.Sheet.{schemas_word, next_of}
use Rattle.unguarded.specs.Lengths.{Told}
use Rattle.unguarded.proofs.Lengths.{Deep}
use Rattle.chains.proofs.fill_lengths.Given as goal

abbrev pub invariant-loop-k : goal.invariant-loop-k
invariant-loop-k l =
    Told (schemas_word l.words) (next_of l.words) l.table × Deep (schemas_word l.words) (next_of l.words) l._k l.table × (length l.table ≡ length l.initial.table) × (length l.late ≡ length l.initial.late)
