-- `numeral::write_down` meets its contract, by where the point moves.
-- Assumes nothing.
use mathlib.Core.Path.{◌≡◌, sym, ap}
use Prim.Native.Nat.{◌-◌}
use native.Mathlib.Omega.{arith}
use Rattle.numeral.specs.Numeral.{row_of}
use Rattle.numeral.proofs.Caps.{room_64, written_zero, written_wide, written_fits, high_wide}
use Rattle.numeral.proofs.write_down.Goals as goal

pub returns-then-kept-eq0 : goal.returns-then-kept-eq0
returns-then-kept-eq0 c = let s = c.args in sym (ap row_of (written_zero s.kept s.up s.down (omega arith)))

pub returns-then-by-ge-SCALE_MAX : goal.returns-then-by-ge-SCALE_MAX
returns-then-by-ge-SCALE_MAX c =
    let s = c.args in
    let some = c.if-kept-eq0.false in
    sym (ap row_of (written_wide s.kept s.up s.down some (high_wide s.kept s.up s.down some (omega arith))))

pub overflow_mul-digits : goal.overflow_mul-digits
overflow_mul-digits c =
    let s = c.args in
    let e = c.power.ensures in
    rw e (omega (arith, room_64 s.kept (s.up - s.down) c.requires (omega arith)))

pub returns-then-digits-gt-NUMBER_MAX : goal.returns-then-digits-gt-NUMBER_MAX
returns-then-digits-gt-NUMBER_MAX c =
    let s = c.args in
    let some = c.if-kept-eq0.false in
    let e = c.power.ensures in
    let over = c.if-digits-gt-NUMBER_MAX.true in
    sym (ap row_of (written_wide s.kept s.up s.down some (rw e at over)))

pub returns : goal.returns
returns c =
    let s = c.args in
    let some = c.if-kept-eq0.false in
    let e = c.power.ensures in
    let low = c.if-digits-gt-NUMBER_MAX.false in
    let none : s.down - s.up ≡ 0 = omega arith in
    rw (e, ← none) (sym (ap row_of (written_fits s.kept s.up s.down some (omega arith) (omega arith) (omega (arith, rw e at low)))))
