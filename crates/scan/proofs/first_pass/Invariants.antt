-- `scan::first_pass` meets its contract. The loop's invariant: what was read is a trail.
-- Assumes nothing.
use mathlib.Core.Path.{◌≡◌}
use lib.ListN.{length}
use Rattle.scan.specs.Scanning.{areas}
use Rattle.scan.proofs.Carrying.{Held}
use Rattle.scan.proofs.first_pass.Given as goal

abbrev pub invariant-loop-at : goal.invariant-loop-at
invariant-loop-at l =
    Held l.json (areas l.initial.values l.initial.texts l.initial.names l.initial.words l.initial.objects) l.at l.p (areas l.values l.texts l.names l.words l.objects) × (length l.values ≡ length l.initial.values) × (length l.texts ≡ length l.initial.texts) × (length l.names ≡ length l.initial.names) × (length l.words ≡ length l.initial.words) × (length l.objects ≡ length l.initial.objects)
