-- `cell_of` meets its contract: the row and the schema are the pair's. Assumes nothing.
use mathlib.Core.Path.{ap}
use Prim.Native.Nat.{ℕ, ◌*◌}
use native.Mathlib.Omega.{arith}
use Rattle.areas.proofs.cell_of.Goals as goal

pub overflow_mul-result : goal.overflow_mul-result
overflow_mul-result c = omega (arith, ap (λ (x : ℕ). x * c.args.m) c.wide.ensures, c.requires)

pub overflow_add-result : goal.overflow_add-result
overflow_add-result c = omega (arith, ap (λ (x : ℕ). x * c.args.m) c.wide.ensures, c.wide-2.ensures, c.requires)

pub returns : goal.returns
returns c = omega (arith, ap (λ (x : ℕ). x * c.args.m) c.wide.ensures, c.wide-2.ensures)
