-- Powers of ten: above zero, at most one, products of one another.
-- Assumes nothing.
use mathlib.Core.Path.{◌≡◌}
use Prim.Native.Nat.{ℕ, ◌+◌, ◌*◌, ◌^◌, ◌<◌}
use native.Mathlib.Nat.{one-le-pow}
use lib.Dec.{lit<}
use lib.Pow.{pow-add}

pub ten_above : (k : ℕ) → 0 < 10 ^ k
ten_above k = one-le-pow k 10 (lit< tt)

pub ten_split : (i j k : ℕ) → i ≡ j + k → 10 ^ i ≡ 10 ^ j * 10 ^ k
ten_split i j k e = rw e (pow-add 10 j k)
