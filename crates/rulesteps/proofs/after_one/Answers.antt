-- `after_one` meets its contract. Assumes nothing.
use borrow.Author.Tests.{not-true, not-false, ltb-true}
use Rattle.rulesteps.proofs.Counting.{uncounted, counted}
use Rattle.rulesteps.proofs.after_one.Goals as goal

pub returns-then-not-unguarded : goal.returns-then-not-unguarded
returns-then-not-unguarded c = uncounted _ (not-true _ c.if-not-unguarded.true-raw)

pub returns : goal.returns
returns c = counted _ (not-false _ c.if-not-unguarded.false-raw) (ltb-true _ _) c.one_more.ensures
