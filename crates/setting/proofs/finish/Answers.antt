-- `finish` meets its contract.
-- Assumes nothing.
use Rattle.setting.proofs.Cells.{trailer_put}
use native.Mathlib.Omega.{arith}
use lib.ListN.{length-set}
use Rattle.setting.proofs.finish.Goals as goal

pub bounds-words-at-2 : goal.bounds-words-at-2
bounds-words-at-2 c = simp length-set (omega arith)

pub bounds-words-at-3 : goal.bounds-words-at-3
bounds-words-at-3 c = simp length-set (omega arith)

pub bounds-words-at-4 : goal.bounds-words-at-4
bounds-words-at-4 c = simp length-set (omega arith)

pub returns : goal.returns
returns c = let a = c.args in trailer_put a.words.now a.n a.size
