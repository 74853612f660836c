use native.Mathlib.Omega.{arith}
use Prim.Native.Nat.{◌+◌, ◌-◌}
use mathlib.Core.Path.{◌≡◌, sym, ◌∙◌}
use Rattle.unguarded.proofs.Steps.{clause_count}
use Rattle.unguarded.proofs.Takers.{quiet_none, quiet_more}
use Rattle.links.proofs.last_step.Goals as goal

pub loop-k-init : goal.loop-k-init
loop-k-init c =
    quiet_none c.args.words.now c.args.to

pub steps_of-requires : goal.steps_of-requires
steps_of-requires c =
    (c.requires.0.clauses_laid.schemas_laid.formed, omega (arith, c.loop-k.invariant.low, c.requires.1, clause_count c.args.words.now c.args.form c.requires.0))

pub returns-then-steps_of-ne0 : goal.returns-then-steps_of-ne0
returns-then-steps_of-ne0 c =
    let e : c.loop-k.k - 1 + 1 ≡ c.loop-k.k = omega arith in rw e c.loop-k.invariant

pub loop-k-preserved : goal.loop-k-preserved
loop-k-preserved c =
    quiet_more c.args.words.now c.loop-k.invariant (omega arith) (sym c.steps_of.ensures ∙ c.if-steps_of-ne0.false)

pub returns : goal.returns
returns c =
    let e : c.loop-k.k ≡ 0 = omega arith in rw e at c.loop-k.invariant
