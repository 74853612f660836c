-- What one record of a queue asks.
-- Assumes nothing.
use Rattle.std.specs.Prelude.{ℕ, ◌<◌, false, Result, List, ◌≡◌}
use Rattle.sheet.specs.declared.refusal.Refused.{Refused}
use Rattle.sheet.specs.Refusals.{outcome_of}
use Rattle.rules.specs.Check.{rules_outcome}
use Rattle.listing.specs.Listing.{records_in, outside}

-- the rules were checked, with this answer
abbrev pub RulesChecked : (rs us : List ℕ) → Result ℕ Refused → Type 0
RulesChecked rs us checked = outcome_of checked ≡ rules_outcome rs us

-- record i stands in the listing, and lies in slices of so many words and bytes
pub record Inside (words bytes : ℕ) (listing : List ℕ) (i : ℕ) : Type 0 where
  pub listed : i < records_in listing
  pub within : outside words bytes listing i ≡ false
