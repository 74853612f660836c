use mathlib.Core.Path.{sym, ◌∙◌}
use Prim.Native.Nat.{ℕ, ◌+◌}
use native.Mathlib.Omega.{arith}
use borrow.Author.Count.{below_more}
use Rattle.areas.specs.Cells.{Unsettled}
use Rattle.lent.specs.Lent.{pair}
use Rattle.trying.proofs.unsettled_rows.Goals as goal

pub loop-k-init : goal.loop-k-init
loop-k-init c = λ j h. absurd (omega arith)

pub overflow_add-row : goal.overflow_add-row
overflow_add-row c = omega (arith, c.requires.n_bound.0, c.loop-k-test.true)

pub verdict_of-requires : goal.verdict_of-requires
verdict_of-requires c = (c.requires.by_index c.loop-k.k c.loop-k-test.true, c.requires.n_bound.1)

pub returns-then-verdict_of-ne0 : goal.returns-then-verdict_of-ne0
returns-then-verdict_of-ne0 c = record { within = omega (arith, c.loop-k-test.true); each = c.loop-k.invariant }

pub loop-k-preserved : goal.loop-k-preserved
unfolding Unsettled
loop-k-preserved c =
    below_more (λ (j : ℕ). Unsettled c.args.m (pair (c.args.q.row.0 + j) c.args.q.rule.0) c.args.cells.now) c.loop-k.k c.loop-k.invariant (sym c.verdict_of.ensures ∙ c.if-verdict_of-ne0.false)

pub returns : goal.returns
returns c = record { within = omega arith; each = λ k h. c.loop-k.invariant k (omega (arith, c.loop-k-test.false)) }
