-- A number of a JSON text as it is read, digit by digit. What is over a bound is held as one more than the bound: a number with more digits than a row can hold, and
-- an exponent that no text of the greatest length could make up for, are told apart from nothing else.
-- Assumes nothing.
use Rattle.std.specs.Prelude.{Bool, true, false, cond, not, ◌&&◌, ◌≡◌, ℕ, suc, ◌-◌, ◌*◌, ◌^◌, ◌≤◌, eqb, leb, Option, Some, None}
use Rattle.sheet.specs.Kinds.{number_max}
use Rattle.jsontext.specs.Number.{Trimmed, trim_more, room_for}
use Rattle.numeral.specs.declared.Kept.{Kept}
use Rattle.numeral.specs.declared.Written.{Written}

-- the greatest exponent that is held as it is
abbrev pub power_max : ℕ
power_max = 999_999

-- n, or one more than the bound
abbrev pub capped : ℕ → ℕ → ℕ
capped most n = cond (leb n most) n (suc most)

abbrev pub trimmed_of : Kept → Trimmed
trimmed_of k = record { kept = k.kept; zeros = k.zeros }

-- the digits so far and one more
unfoldable pub kept_more : Kept → ℕ → Kept
kept_more k d = let t = trim_more (trimmed_of k) d in record { kept = capped number_max t.kept; zeros = t.zeros }

-- what is held of digits: zeros follow only another digit
pub record Holding (k : Kept) : Type 0 where
  pub bounded : k.kept ≤ suc number_max
  pub no_zeros : k.kept ≡ 0 → k.zeros ≡ 0
  pub few : k.zeros ≤ power_max

-- the digits and the scale of a number, or that no row can hold it
pub record Writing : Type 0 where
  pub wide : Bool
  pub digits : ℕ
  pub scale : ℕ

-- as code has it
abbrev pub row_of : Writing → Option Written
row_of w = cond w.wide None (Some (record { digits = w.digits; scale = w.scale }))

-- kept × 10 ^ up / 10 ^ down as digits and scale, the smallest, or that it is too wide
unfoldable pub written_of : ℕ → ℕ → ℕ → Writing
written_of kept up down =
    cond (not (room_for number_max kept up down)) (record { wide = true; digits = 0; scale = 0 })
    (cond (eqb kept 0) (record { wide = false; digits = 0; scale = 0 })
    (record { wide = false; digits = kept * 10 ^ (up - down); scale = down - up }))

-- digits with their sign as a word, in two's complement
abbrev pub word_of : Bool → ℕ → ℕ
word_of below digits = cond (below && not (eqb digits 0)) (2 ^ 32 - digits) digits
