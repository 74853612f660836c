-- `numeral::longer` meets its contract: nine zeros before another digit are too many, and fewer leave room for the product.
-- Assumes nothing.
use mathlib.Core.Path.{sym}
use Prim.Native.Nat.{◌+◌, ◌*◌, ◌^◌}
use native.Mathlib.Omega.{arith}
use Rattle.sheet.specs.Kinds.{number_max}
use Rattle.numeral.proofs.Caps.{capped_low, capped_high, over_zeros, room_64}
use Rattle.numeral.proofs.longer.Goals as goal

pub returns-then-zeros-ge-SCALE_MAX : goal.returns-then-zeros-ge-SCALE_MAX
returns-then-zeros-ge-SCALE_MAX c =
    let s = c.args in
    sym (capped_high number_max (s.kept * 10 ^ (s.zeros + 1) + s.digit) (over_zeros s.kept s.zeros s.digit c.requires.1 (omega arith)))

pub overflow_mul-all : goal.overflow_mul-all
overflow_mul-all c =
    let s = c.args in
    let e = c.power.ensures in
    rw e (omega (arith, room_64 s.kept (s.zeros + 1) c.requires.0 (omega arith)))

pub overflow_add-all : goal.overflow_add-all
overflow_add-all c =
    let s = c.args in
    let e = c.power.ensures in
    rw e (omega (arith, room_64 s.kept (s.zeros + 1) c.requires.0 (omega arith), c.requires.2))

pub returns-then-all-gt-NUMBER_MAX : goal.returns-then-all-gt-NUMBER_MAX
returns-then-all-gt-NUMBER_MAX c =
    let s = c.args in
    let e = c.power.ensures in
    let over = c.if-all-gt-NUMBER_MAX.true in
    sym (capped_high number_max (s.kept * 10 ^ (s.zeros + 1) + s.digit) (rw e at over))

pub returns : goal.returns
returns c =
    let s = c.args in
    let e = c.power.ensures in
    let low = c.if-all-gt-NUMBER_MAX.false in
    rw e (sym (capped_low number_max (s.kept * 10 ^ (s.zeros + 1) + s.digit) (omega (arith, rw e at low))))
