-- How high the counters are, whatever the bytes are.
-- Assumes nothing.
use Rattle.std.specs.Prelude.{List, ℕ, ◌≤◌, get_or}

-- no counter is above n
pub record UpTo (n : ℕ) (counters : List ℕ) : Type 0 where
  pub each : (k : ℕ) → get_or counters k 0 ≤ n

-- as high as the code lets them be before a byte
abbrev pub most : ℕ
most = 1_000_000
