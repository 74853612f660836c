use mathlib.Core.Path.{ap, ◌∙◌}
use Prim.Native.Nat.{◌<◌}
use native.Mathlib.Omega.{arith}
use Rattle.told.specs.Read.{marks_named}
use Rattle.told.proofs.Earlier.{before_item, before_long, clauses_few}
use Rattle.told.proofs.only_names.Goals as goal

pub overflow_add-first : goal.overflow_add-first
overflow_add-first c = omega (arith, clauses_few _ _ _ c.requires)

pub marks_named-requires : goal.marks_named-requires
marks_named-requires c = (c.requires.0, omega (arith, clauses_few _ _ _ c.requires))

pub returns : goal.returns
returns c =
    λ e us k h.
    let asked = c.requires in
    let low : k < c.args.i = omega (arith, before_long _ _ _ asked us) in
    ap marks_named (before_item _ _ _ asked us k low) ∙ c.loop-k.invariant us k (omega arith)
