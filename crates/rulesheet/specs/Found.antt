-- What a search among the entries of a list finds.
-- Assumes nothing.
use Rattle.std.specs.Prelude.{Bool, Option, Some, None, ◌≡◌, ℕ, ◌+◌, ◌<◌}
use Rattle.laws.specs.Lowest.{lowest_from}

-- the lowest of the `many` numbers from `from` on at which the test holds, or `None` where there is none
abbrev pub FoundIn : (ℕ → Bool) → ℕ → ℕ → Option ℕ → Type 0
FoundIn test many from (Some x) = (x < from + many) × (x ≡ lowest_from test many from)
FoundIn test many from None = from + many ≡ lowest_from test many from
