-- `shut_row` meets its contract.
-- Assumes nothing.
use Rattle.setting.proofs.Cells.{shut_out, shut_scalar, shut_none, shut_some}
use native.Mathlib.Omega.{arith}
use lib.ListN.{length-set}
use Rattle.setting.proofs.shut_row.Goals as goal

pub returns-then-r-n : goal.returns-then-r-n
returns-then-r-n c = let a = c.args in shut_out a.words.now a.n a.r (omega arith) a.next

pub returns-then-words-at-lt-ARRAY : goal.returns-then-words-at-lt-ARRAY
returns-then-words-at-lt-ARRAY c = let a = c.args in shut_scalar a.words.now a.n a.r (omega arith) a.next (omega arith)

pub bounds-words-at-then-next-first-2 : goal.bounds-words-at-then-next-first-2
bounds-words-at-then-next-first-2 c = simp length-set (omega arith)

pub returns-then-next-first : goal.returns-then-next-first
returns-then-next-first c = let a = c.args in shut_none a.words.now a.n a.r (omega arith) a.next (omega arith) (omega arith)

pub bounds-words-at-4 : goal.bounds-words-at-4
bounds-words-at-4 c = simp length-set (omega arith)

pub returns : goal.returns
returns c = let a = c.args in shut_some a.words.now a.n a.r (omega arith) a.next (omega arith) (omega arith)
