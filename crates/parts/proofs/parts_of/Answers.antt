-- `parts_of` calls a bundle bad exactly when it is. Assumes nothing.
use native.Mathlib.Omega.{arith}
use lib.ListN.{length}
use Rattle.parts.proofs.Bundles.{size_enough, size_bad, lengths_bad, lengths_good}
use Rattle.parts.proofs.parts_of.Goals as goal

pub returns-then-size : goal.returns-then-size
returns-then-size c = size_bad _ c.if-size.true

pub overflow_sub-trailer : goal.overflow_sub-trailer
overflow_sub-trailer c = size_enough _ c.if-size.false

pub lengths_at-of_record-requires : goal.lengths_at-of_record-requires
lengths_at-of_record-requires c = omega (arith, size_enough (length c.args.bundle.now) c.if-size.false)

pub lengths_at-of_rules-requires : goal.lengths_at-of_rules-requires
lengths_at-of_rules-requires c = omega (arith, size_enough (length c.args.bundle.now) c.if-size.false)

pub returns-then-all-size : goal.returns-then-all-size
returns-then-all-size c =
    lengths_bad _ _ _ c.if-size.false c.lengths_at-of_record.ensures.lengths_are c.lengths_at-of_rules.ensures.lengths_are c.if-all-size.true

pub returns : goal.returns
returns c =
    lengths_good _ _ _ c.if-size.false c.lengths_at-of_record.ensures.lengths_are c.lengths_at-of_rules.ensures.lengths_are c.if-all-size.false
