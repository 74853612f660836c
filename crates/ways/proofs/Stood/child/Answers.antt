use mathlib.Core.Path.{sym, ◌∙◌}
use native.Mathlib.Omega.{arith}
use Rattle.ways.proofs.Chains.{begin, shorter, on}
use Rattle.ways.proofs.Ways.{leads_place, branch_mark}
use Rattle.ways.proofs.Stood.child.Goals as goal

pub letter_of-letter-requires : goal.letter_of-letter-requires
letter_of-letter-requires c l =
    rw c.name.ensures.bytes (branch_mark c.requires.reached l)

pub place_of-place-requires : goal.place_of-place-requires
place_of-place-requires c =
    omega (arith, c.requires.standing.room.enough_places, c.requires.i_in_bounds, c.requires.reached.low)

pub loop-c-init : goal.loop-c-init
loop-c-init c =
    let place = c.place_of-place.ensures in (
      begin (λ k h l. leads_place l ∙ sym place.0) c.from-c.ensures (c.requires.standing.chains.heads_are _ place.1),
      c.requires.i_in_bounds,
      c.requires.standing,
      rw c.name.ensures.bytes at c.letter_of-letter.ensures,
    )

pub leads-requires : goal.leads-requires
leads-requires c =
    let inv = c.loop-c.invariant in
    let room = inv.2.room in record {
      k_in_bounds = (omega arith, omega (arith, room.nodes_room), omega (arith, room.marks_room));
      mark_in_bounds = λ l. branch_mark (inv.2.stand.free _ (omega arith)).reached l;
    }

pub returns-then-leads : goal.returns-then-leads
returns-then-leads c =
    let inv = c.loop-c.invariant in
    record { within = omega arith; one = rw inv.3 at (c.leads.ensures.hit c.if-leads.true) }

pub bounds-self-k : goal.bounds-self-k
bounds-self-k c = omega (arith, c.loop-c.invariant.2.room.next_room)

pub loop-c-smaller : goal.loop-c-smaller
loop-c-smaller c =
    shorter _ _ (omega arith) c.from-c-in-loop-c.ensures (c.loop-c.invariant.2.chains.next_are _ (omega arith))

pub loop-c-preserved : goal.loop-c-preserved
loop-c-preserved c =
    let inv = c.loop-c.invariant in (
      on inv.0 (omega arith) (c.leads.ensures.miss c.if-leads.false) c.from-c-in-loop-c.ensures
          (inv.2.chains.next_are _ (omega arith)),
      inv.1,
      inv.2,
      inv.3,
    )

pub returns : goal.returns
returns c =
    let inv = c.loop-c.invariant in
    record { none = λ k h l. inv.0.passed k (omega arith) h (rw (← inv.3) at l) }
