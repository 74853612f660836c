-- What a decimal stands for. A decimal is a sign, digits and a scale, and stands for digits / 10 ^ scale, below zero if the sign says so.
-- A scale is at most 9, so every such value is a whole number of billionths (10 ^ -9). `value` is that number: the same for 1, for 1.0
-- and for every other way to write one value, so equality, order, wholeness and multiples are those of whole numbers.
-- Assumes nothing.
use Rattle.std.specs.Prelude.{ℕ, ◌-◌, ◌%◌, ◌^◌, ◌≤◌, ◌≡◌, Bool, true, false, cond, eqb, ltb, ℤ, pos, negsuc, neg_ℤ, nat_abs, ◌*ℤ◌}
use Rattle.decimal.specs.declared.Decimal.{Decimal}

-- the limits of a scale and of digits, and how many billionths 1 is
abbrev pub scale_max : ℕ
scale_max = 9

abbrev pub digits_max : ℕ
digits_max = 1_000_000_000_000_000

abbrev pub one : ℕ
one = 10 ^ scale_max

-- z / 10 ^ s in billionths, for a scale s up to the limit
unfoldable pub billionths : ℤ → ℕ → ℤ
billionths z s = z *ℤ pos (10 ^ (scale_max - s))

-- a word of 32 bits as a signed number, in two's complement
unfoldable pub signed : ℕ → ℤ
signed w = cond (ltb w (2 ^ 31)) (pos w) (negsuc (2 ^ 32 - 1 - w))

-- a size with its sign; both zeros are zero
abbrev pub with_sign : Bool → ℕ → ℤ
with_sign true n = neg_ℤ (pos n)
with_sign false n = pos n

-- the digits with their sign, and the value in billionths
unfoldable pub signed_digits : Decimal → ℤ
signed_digits d = with_sign d.below d.digits

unfoldable pub value : Decimal → ℤ
value d = billionths (signed_digits d) d.scale

-- within the limits
pub record Plain (d : Decimal) : Type 0 where
  pub small : d.digits ≤ digits_max
  pub few : d.scale ≤ scale_max

-- x = y; x ≤ y and x < y are the library's `le_z` and `lt_z`
abbrev pub equal_z : ℤ → ℤ → Bool
equal_z (pos a) (pos b) = eqb a b
equal_z (pos a) (negsuc b) = false
equal_z (negsuc a) (pos b) = false
equal_z (negsuc a) (negsuc b) = eqb a b

-- z billionths are a whole number
unfoldable pub is_whole : ℤ → Bool
is_whole z = eqb (nat_abs z % one) 0

-- z is m times a whole number; 0 is the only multiple of 0, since n % 0 is n
unfoldable pub is_multiple : ℤ → ℤ → Bool
is_multiple z m = eqb (nat_abs z % nat_abs m) 0

-- the decimal d is the signed number of the word w, over 10 ^ s
pub record OfWord (w s : ℕ) (d : Decimal) : Type 0 where
  pub means : value d ≡ billionths (signed w) s
  pub size : d.digits ≡ nat_abs (signed w)
  pub same : d.scale ≡ s

-- opens this module to a computation
unfoldable pub value_computes : Unit {0}
unfolding billionths signed signed_digits value is_whole is_multiple
value_computes = tt
