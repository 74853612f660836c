-- A number as two words, digits and scale. It takes its smallest scale: 1.0 is 1, 1e3 is 1000.
-- Assumes nothing.
use Rattle.std.specs.Prelude.{ℕ, ◌-◌, ◌/◌, ◌%◌, ◌^◌, ◌≤◌, eqb, ℤ, pos, negsuc, nat_abs}
use Rattle.laws.specs.Lowest.{lowest}
use Rattle.decimal.specs.Value.{scale_max}
use Rattle.sheet.specs.Kinds.{number_max}

-- the smallest scale at which z billionths are digits without a rest
unfoldable pub scale_of : ℤ → ℕ
scale_of z = lowest (λ s. eqb (nat_abs z % 10 ^ (scale_max - s)) 0) scale_max

-- how many digits' worth they are at that scale, below or above zero
unfoldable pub size_of : ℤ → ℕ
size_of z = nat_abs z / 10 ^ (scale_max - scale_of z)

-- the digits as a word, in two's complement
unfoldable pub digits_word : ℤ → ℕ
digits_word (pos n) = size_of (pos n)
digits_word (negsuc n) = 2 ^ 32 - size_of (negsuc n)

-- a row can hold the number
abbrev pub Narrow : ℤ → Type 0
Narrow z = size_of z ≤ number_max
