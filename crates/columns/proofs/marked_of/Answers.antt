use mathlib.Core.Bool.{Bool, true, false}
use mathlib.Core.Path.{◌≡◌, refl, ap, ◌∙◌}
use Prim.Native.Nat.{ℕ, ◌+◌, ◌≤◌}
use mir.Val.{bool_byte}
use native.Mathlib.Omega.{arith}
use Rattle.areas.specs.Cells.{plus}
use Rattle.areas.proofs.Cells.{counted_none, counted_more, counted_end}
use Rattle.areas.proofs.Writers.{cell_below}
use Rattle.columns.proofs.marked_of.Goals as goal

-- a bool as a number is one more, if it is so
byte_low : (b : Bool) → bool_byte b ≤ 1
byte_low true = omega arith
byte_low false = omega arith

plus_byte : (n : ℕ) (b : Bool) → n + bool_byte b ≡ plus n b
unfolding plus
plus_byte n true = refl
plus_byte n false = omega arith

pub loop-i-init : goal.loop-i-init
loop-i-init c = counted_none _ _ _ _

pub overflow_add-row : goal.overflow_add-row
overflow_add-row c = omega (arith, c.requires.kids_end_fits)

pub is_marked-marked-requires : goal.is_marked-marked-requires
is_marked-marked-requires c = let w = c.requires.columns_in_cells in cell_below w c.loop-i.i c.loop-i-test.true _ w.rule_in

pub overflow_add-n : goal.overflow_add-n
overflow_add-n c = omega (arith, c.loop-i.invariant.most, c.from-n.ensures, byte_low c.is_marked-marked.result)

pub loop-i-preserved : goal.loop-i-preserved
loop-i-preserved c = (counted_more _ _ _ _ _ c.loop-i.invariant c.loop-i-test.true refl c.is_marked-marked.ensures (ap (λ (x : ℕ). c.loop-i.n + x) c.from-n.ensures ∙ plus_byte c.loop-i.n c.is_marked-marked.result))

pub returns : goal.returns
returns c = counted_end _ _ _ _ c.loop-i.invariant c.loop-i-test.false
