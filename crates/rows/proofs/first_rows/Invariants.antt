-- `first_rows` meets its contract: each row passed over passes the test. Assumes nothing.
use Rattle.rows.specs.Firsts.{FirstRows, Passing}
use Rattle.rows.proofs.first_rows.Given as goal

abbrev pub invariant-loop-k : goal.invariant-loop-k
invariant-loop-k g l = FirstRows l.row.0 l.n l.k (Passing (goal.F-post g l.test))
