-- `ways::scaled` meets its contract: a part of the places that is below one of all. Assumes nothing.
use mathlib.Core.Path.{refl}
use Prim.Native.Nat.{ℕ, ◌*◌, ◌/◌, ◌≤◌, ◌<◌}
use native.Mathlib.Nat.{mul-le-mul_left, mul-lt-mul_of_pos_right, mul_comm, div-lt_iff_lt-mul}
use native.Mathlib.Omega.{arith}
use lib.Dec.{lit<}
use Rattle.ways.proofs.scaled.Goals as goal

small : (number places : ℕ) → number < 4_294_967_296 → places ≤ 8_192 → number * places < 18_446_744_073_709_551_616
small number places h few = let g = mul-le-mul_left number few in omega arith

below : (number places : ℕ) → number < 4_294_967_296 → 0 < places → number * places / 4_294_967_296 < places
below number places h some =
    (div-lt_iff_lt-mul (lit< tt)).1 (rw (mul_comm places 4_294_967_296) (mul-lt-mul_of_pos_right h some))

pub overflow_mul-result : goal.overflow_mul-result
overflow_mul-result c = record { fits = small _ _ c.requires.0 c.requires.2 }

pub returns : goal.returns
returns c = (refl, below _ _ c.requires.0 c.requires.1)
