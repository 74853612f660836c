-- `after_list` meets its contract. Assumes nothing.
use borrow.Author.Tests.{not-true, not-false}
use Rattle.rulesteps.proofs.Counting.{uncounted, counted}
use Rattle.rulesteps.proofs.after_list.Goals as goal

pub returns-then-not-shape : goal.returns-then-not-shape
returns-then-not-shape c = uncounted _ (not-true _ c.if-not-shape.true)

pub returns : goal.returns
returns c = counted _ (not-false _ c.if-not-shape.false) (rw c.is_named-named.ensures at c.all_later.ensures) c.one_more.ensures
