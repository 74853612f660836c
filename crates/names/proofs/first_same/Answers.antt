use mathlib.Core.Path.{◌≡◌, sym, ◌∙◌}
use native.Mathlib.Omega.{arith}
use Rattle.laws.proofs.Passing.{begin, here, further, nowhere}
use Rattle.names.proofs.first_same.Goals as goal

pub range_at-name-requires : goal.range_at-name-requires
range_at-name-requires c = c.requires.0.inside _ c.requires.1

pub loop-k-init : goal.loop-k-init
loop-k-init c = begin _ _

pub range_at-other-requires : goal.range_at-other-requires
range_at-other-requires c =
    c.requires.0.inside _ (omega (arith, c.requires.1))

pub same_part-requires : goal.same_part-requires
same_part-requires c = record {
  p_fits = rw c.range_at-other.ensures (c.requires.0.fitting _ (omega (arith, c.requires.1)));
  q_fits = rw c.range_at-name.ensures (c.requires.0.fitting _ c.requires.1);
}

pub returns-then-same_part : goal.returns-then-same_part
returns-then-same_part c =
    here c.loop-k.invariant (omega arith)
    (rw (c.range_at-other.ensures, c.range_at-name.ensures) at (sym c.same_part.ensures ∙ c.if-same_part.true))

pub loop-k-preserved : goal.loop-k-preserved
loop-k-preserved c =
    further c.loop-k.invariant (omega arith)
    (rw (c.range_at-other.ensures, c.range_at-name.ensures) at (sym c.same_part.ensures ∙ c.if-same_part.false))

pub returns : goal.returns
returns c =
    let e : c.loop-k.k ≡ c.args.i = omega arith in
    rw e at (nowhere c.loop-k.invariant (omega arith))
