-- `characters::append` meets its contract, by how many bytes the character takes.
-- Assumes nothing.
use native.Mathlib.Omega.{arith}
use Rattle.characters.proofs.Appended.{appended_1, appended_2, appended_3, appended_4}
use Rattle.characters.proofs.append.Goals as goal

pub returns-then-code-lt128 : goal.returns-then-code-lt128
returns-then-code-lt128 c =
    let a = c.args in appended_1 a.area.now a.at a.code (omega arith) c.put.ensures

pub returns-then-code-lt2048 : goal.returns-then-code-lt2048
returns-then-code-lt2048 c =
    let a = c.args in appended_2 a.area.now a.at a.code (omega arith) (omega arith) c.put-then-code-lt2048.ensures c.put-then-code-lt2048-2.ensures

pub returns-then-code-lt65536 : goal.returns-then-code-lt65536
returns-then-code-lt65536 c =
    let a = c.args in appended_3 a.area.now a.at a.code (omega arith) (omega arith) c.put-then-code-lt65536.ensures c.put-then-code-lt65536-2.ensures c.put-then-code-lt65536-3.ensures

pub returns : goal.returns
returns c =
    let a = c.args in appended_4 a.area.now a.at a.code (omega arith) c.put-2.ensures c.put-3.ensures c.put-4.ensures c.put-5.ensures
