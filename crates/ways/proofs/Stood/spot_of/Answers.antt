use mathlib.Core.Path.{refl}
use Prim.Native.Nat.{ℕ, ◌+◌, ◌≤◌, ◌<◌}
use native.Mathlib.Omega.{arith}
use Rattle.ways.specs.Tree.{root_of, print_of}
use Rattle.ways.proofs.Ways.{begin, spotted_free, met, met_below, met_above, met_same, met_on}
use Rattle.ways.proofs.Stood.spot_of.Goals as goal

below : {a b : ℕ} → a ≤ b → b < a → ⊥
below h g = omega arith

above : (a b : ℕ) → a + b < a → ⊥
above a b h = omega arith

pub fingerprint-print-requires : goal.fingerprint-print-requires
fingerprint-print-requires c = tt

pub scaled-node-requires : goal.scaled-node-requires
scaled-node-requires c =
    let room = c.requires.standing.room in
    (omega arith, room.some_places, room.few_places)

pub loop-k-init : goal.loop-k-init
unfolding root_of print_of
loop-k-init c =
    let name = c.name-name.ensures.bytes in
    let print = rw name at c.fingerprint-print.ensures in (
      rw (c.scaled-node.ensures.0, print) (begin c.requires.standing.stand (rw (c.scaled-node.ensures.0, print) at c.scaled-node.ensures.1)),
      record { root = λ h. refl; branch = λ h. absurd (below h c.scaled-node.ensures.1) },
      c.requires.i_in_bounds,
      c.requires.standing,
      name,
      c.name-name.ensures.short,
    )

pub child-requires : goal.child-requires
child-requires c = let inv = c.loop-k.invariant in record {
  i_in_bounds = inv.2;
  standing = inv.3;
  reached = inv.0.reached;
}

pub returns-in_default : goal.returns-in_default
returns-in_default c =
    let inv = c.loop-k.invariant in
    spotted_free inv.3.stand inv.0 c.in_default.ensures.none

pub name-other-requires : goal.name-other-requires
name-other-requires c =
    let inv = c.loop-k.invariant in
    omega (arith, met_below inv.3.stand inv.0 inv.1 c.in-Some.ensures, inv.2)

pub agreed-from-requires : goal.agreed-from-requires
agreed-from-requires c =
    let inv = c.loop-k.invariant in
    let both = met inv.3.stand inv.0 inv.1 c.in-Some.ensures in
    rw (inv.4, c.name-other.ensures.bytes) (both.2, both.0)

pub returns-then-name-from : goal.returns-then-name-from
returns-then-name-from c =
    let inv = c.loop-k.invariant in
    let child = c.in-Some.ensures in
    met_same inv.3.stand inv.0 inv.1 child
    (rw (inv.4, c.name-other.ensures.bytes) at c.agreed-from.ensures)
    (rw inv.4 at c.if-name-from.true)

pub overflow_add-node : goal.overflow_add-node
overflow_add-node c =
    let inv = c.loop-k.invariant in
    omega (arith, inv.3.room.few_places, c.args.lain.now.lying.few, inv.2, c.in-Some.ensures.within)

pub overflow_cast-mark-in-loop-k : goal.overflow_cast-mark-in-loop-k
overflow_cast-mark-in-loop-k c = omega (arith, c.loop-k.invariant.5)

pub loop-k-smaller : goal.loop-k-smaller
loop-k-smaller c =
    let inv = c.loop-k.invariant in
    let child = c.in-Some.ensures in
    omega (arith, met_above inv.3.stand inv.0 inv.1 child, met_below inv.3.stand inv.0 inv.1 child)

pub loop-k-preserved : goal.loop-k-preserved
loop-k-preserved c =
    let inv = c.loop-k.invariant in
    let child = c.in-Some.ensures in
    let agreed = rw (inv.4, c.name-other.ensures.bytes) at c.agreed-from.ensures in (
      met_on inv.3.stand inv.0 inv.1 child agreed (rw inv.4 at c.if-name-from.false),
      record { root = λ h. absurd (above _ _ h); branch = λ h. refl },
      inv.2,
      inv.3,
      inv.4,
      inv.5,
    )
