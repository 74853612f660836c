-- `write_sheet` meets its contract: after each turn as much is left to do as there was, in the same areas.
-- Assumes nothing.
use Prim.Native.Nat.{◌-◌}
use lib.ListN.{length}
use Rattle.writing.specs.Reading.{Reading, Going, ReadyAt, SameAreas, desk_of, desk_at}
use Rattle.writing.proofs.write_sheet.Given as goal

abbrev pub invariant-loop-spot : goal.invariant-loop-spot
invariant-loop-spot l = record {
  going : (s : Reading l.json 0 0) → Going l.initial.areas.n l.json 0 (desk_of 0 0 0 l.initial.areas.rows.now l.initial.areas.bytes.now l.initial.areas.words.now l.initial.areas.text.now) s l.spot.at (desk_at l.spot l.areas);
  ready : ReadyAt l.spot l.areas;
  same : SameAreas l.initial.areas l.areas;
}

abbrev pub decreases-loop-spot : goal.decreases-loop-spot
decreases-loop-spot l = length l.json - l.spot.at
