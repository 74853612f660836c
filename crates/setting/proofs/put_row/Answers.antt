-- `put_row` meets its contract.
-- Assumes nothing.
use mathlib.Core.List.{[], ◌∷◌}
use Rattle.setting.proofs.Cells.{put_out, put_done}
use native.Mathlib.Omega.{arith}
use lib.ListN.{length-set}
use Rattle.setting.proofs.put_row.Goals as goal

pub returns-then-r-n : goal.returns-then-r-n
returns-then-r-n c = let a = c.args in put_out a.words.now a.n a.r (omega arith) (a.row.kind ∷ a.row.first ∷ a.row.count ∷ a.row.owner ∷ a.row.label.start ∷ a.row.label.length ∷ [])

pub bounds-words-at-2 : goal.bounds-words-at-2
bounds-words-at-2 c = simp length-set (omega arith)

pub bounds-words-at-3 : goal.bounds-words-at-3
bounds-words-at-3 c = simp length-set (omega arith)

pub bounds-words-at-4 : goal.bounds-words-at-4
bounds-words-at-4 c = simp length-set (omega arith)

pub bounds-words-at-5 : goal.bounds-words-at-5
bounds-words-at-5 c = simp length-set (omega arith)

pub bounds-words-at-6 : goal.bounds-words-at-6
bounds-words-at-6 c = simp length-set (omega arith)

pub returns : goal.returns
returns c = let a = c.args in put_done a.words.now a.n a.r (omega arith) a.row.kind a.row.first a.row.count a.row.owner a.row.label.start a.row.label.length
