-- `escapes::size_of` meets its contract.
-- Assumes nothing.
use mathlib.Core.Path.{sym}
use native.Mathlib.Omega.{arith}
use Rattle.escapes.proofs.Escaped.{size_1, size_2, size_3, size_4}
use Rattle.escapes.proofs.size_of.Goals as goal

pub returns-then-code-lt128 : goal.returns-then-code-lt128
returns-then-code-lt128 c = sym (size_1 c.args.code (omega arith))

pub returns-then-code-lt2048 : goal.returns-then-code-lt2048
returns-then-code-lt2048 c = sym (size_2 c.args.code (omega arith) (omega arith))

pub returns-then-code-lt65536 : goal.returns-then-code-lt65536
returns-then-code-lt65536 c = sym (size_3 c.args.code (omega arith) (omega arith))

pub returns : goal.returns
returns c = sym (size_4 c.args.code (omega arith))
