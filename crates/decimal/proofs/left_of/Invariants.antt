-- `decimal::left_of` meets its contract. The loop's invariant: `left` is what is left of digits * 10 ^ the places passed.
-- Assumes nothing.
use mathlib.Core.Path.{◌≡◌}
use Prim.Native.Nat.{◌*◌, ◌%◌, ◌^◌, ◌<◌}
use Rattle.decimal.proofs.left_of.Given as goal

abbrev pub invariant-loop-place : goal.invariant-loop-place
invariant-loop-place l = (l.left < l.m) × (l.left ≡ (l.digits * 10 ^ l._place) % l.m)
