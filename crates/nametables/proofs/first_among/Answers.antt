use mathlib.Core.Path.{◌≡◌}
use native.Mathlib.Omega.{arith}
use Rattle.laws.proofs.Passing.{begin, here, further, nowhere}
use Rattle.ways.proofs.Ways.{spot_same, spot_fresh}
use Rattle.nametables.proofs.Growing.{standing_none, standing_more}
use Rattle.nametables.proofs.first_among.Goals as goal

pub loop-i-init : goal.loop-i-init
loop-i-init c = (begin _ _, standing_none _ _ _ _ _ _ c.requires.room c.requires.by_index)

pub returns-in_default : goal.returns-in_default
returns-in_default c = here c.loop-i.invariant.0 (omega arith) (spot_same c.in_default.ensures)

pub put-requires : goal.put-requires
put-requires c =
    let room = c.loop-i.invariant.1.room in
    let few = c.args.lain.lying.few in
    let low = c.in-Some.ensures.free.reached.low in record {
      i_in_bounds = (omega (arith, room.next_room), omega (arith, room.nodes_room), omega (arith, room.marks_room), omega (arith, few));
      node_in_bounds = (omega (arith, low, room.enough_places), omega (arith, low, room.few_places, few));
    }

pub loop-i-preserved : goal.loop-i-preserved
loop-i-preserved c =
    let inv = c.loop-i.invariant in
    let spot = c.in-Some.ensures in
    (further inv.0 (omega arith) (spot_fresh spot), standing_more inv.1 (omega arith) spot.free c.put.ensures)

pub returns : goal.returns
returns c =
    let e : c.loop-i.i ≡ c.args.lain.names.count = omega arith in
    rw e at (nowhere c.loop-i.invariant.0 (omega arith))
