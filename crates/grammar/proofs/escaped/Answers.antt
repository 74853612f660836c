-- `grammar::escaped` meets its contract: past the others, the last place is left.
-- Assumes nothing.
use mathlib.Core.Path.{◌≡◌}
use native.Mathlib.Omega.{arith}
use Rattle.grammar.proofs.Leading.{tables}
use Rattle.grammar.proofs.escaped.Goals as goal

pub returns-in_default : goal.returns-in_default
returns-in_default c = let last : c.args.place ≡ 35 = omega arith in λ k. rw last (grind (arith, tables))
