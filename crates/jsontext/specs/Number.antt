-- What a number of a text stands for (RFC 8259, section 6): its digits times a power of ten. A number is too wide if no digits up to a given most, with a scale of
-- 0 to 9, have its exact value; -0 is 0. First the value, by an equation in which nothing is divided; then the same, computed: the digits lose the zeros at their
-- end, so that an exponent of any size is only compared.
-- Assumes nothing.
use Rattle.std.specs.Prelude.{Bool, cond, ◌&&◌, ◌||◌, not, List, [], ◌∷◌, ◌++◌, ◌≡◌, ℕ, ◌+◌, ◌-◌, ◌*◌, ◌^◌, ◌≤◌, eqb, leb, ℤ, nat_abs, length}
use Rattle.std.proofs.Math.Option.{none, some}
use Rattle.decimal.specs.Value.{scale_max, with_sign}
use Rattle.jsontext.specs.Text.{Digit, Digits, Whole, nought, from, Fraction, Sign, unsigned, plus, minus, Exponent, Number}

-- ---- the value

-- the number of some digits, and then more
unfoldable pub worth_after : ℕ → List Digit → ℕ
worth_after m [] = m
worth_after m (d ∷ ds) = worth_after (m * 10 + d.worth) ds

abbrev pub worth : List Digit → ℕ
worth ds = worth_after 0 ds

-- one digit or more, as a list
abbrev pub listed : Digits → List Digit
listed ds = ds.first ∷ ds.others

abbrev pub whole_digits : Whole → List Digit
whole_digits nought = []
whole_digits (from d p ds) = d ∷ ds

abbrev pub part_digits : Fraction → List Digit
part_digits none = []
part_digits (some ds) = listed ds

-- how many places the exponent moves the point to the right, and to the left
abbrev pub right_by : Sign → ℕ → ℕ
right_by unsigned k = k
right_by plus k = k
right_by minus k = 0

abbrev pub left_by : Sign → ℕ → ℕ
left_by unsigned k = 0
left_by plus k = 0
left_by minus k = k

abbrev pub right_of : Exponent → ℕ
right_of none = 0
right_of (some e) = right_by e.sign (worth (listed e.places))

abbrev pub left_of : Exponent → ℕ
left_of none = 0
left_of (some e) = left_by e.sign (worth (listed e.places))

-- digits × 10 ^ up / 10 ^ down, below zero if it says so
pub record Exact : Type 0 where
  pub below : Bool
  pub digits : List Digit
  pub up : ℕ
  pub down : ℕ

unfoldable pub exact_of : Number → Exact
exact_of n =
    record {
      below = n.negative;
      digits = whole_digits n.integer ++ part_digits n.part;
      up = right_of n.power;
      down = length (part_digits n.part) + left_of n.power;
    }

-- the number is z billionths
pub record Is (e : Exact) (z : ℤ) : Type 0 where
  pub size : nat_abs z * 10 ^ e.down ≡ worth e.digits * 10 ^ (scale_max + e.up)
  pub sign : z ≡ with_sign e.below (nat_abs z)

-- z billionths can be written with digits up to `most` and a scale
pub record Written (most : ℕ) (z : ℤ) : Type 0 where
  pub digits : ℕ
  pub scale : ℕ
  pub few : digits ≤ most
  pub low : scale ≤ scale_max
  pub same : nat_abs z ≡ digits * 10 ^ (scale_max - scale)

-- ---- the same, computed

-- digits up to the last that is not 0, as a number, and how many zeros follow it
pub record Trimmed : Type 0 where
  pub kept : ℕ
  pub zeros : ℕ

-- one digit more; zeros before the first other digit count nothing
unfoldable pub trim_more : Trimmed → ℕ → Trimmed
trim_more t d =
    cond (eqb d 0)
    (record { kept = t.kept; zeros = cond (eqb t.kept 0) 0 (t.zeros + 1) })
    (record { kept = t.kept * 10 ^ (t.zeros + 1) + d; zeros = 0 })

unfoldable pub trim_after : Trimmed → List Digit → Trimmed
trim_after t [] = t
trim_after t (d ∷ ds) = trim_after (trim_more t d.worth) ds

abbrev pub trim : List Digit → Trimmed
trim ds = trim_after (record { kept = 0; zeros = 0 }) ds

-- no number that is to be written has more digits than this
abbrev pub digits_room : ℕ
digits_room = 18

-- kept × 10 ^ up / 10 ^ down can be written
abbrev pub room_for : ℕ → ℕ → ℕ → ℕ → Bool
room_for most kept up down =
    eqb kept 0 || (leb down (up + scale_max) && (leb up (down + digits_room) && leb (kept * 10 ^ (up - down)) most))

abbrev pub moved_by : ℕ → ℕ → ℕ → ℕ
moved_by kept up down = cond (eqb kept 0) 0 (kept * 10 ^ (up + scale_max - down))

-- the number is too wide
unfoldable pub wide : ℕ → Exact → Bool
wide most e = let t = trim e.digits in not (room_for most t.kept (e.up + t.zeros) e.down)

-- how many billionths it is, if it is not
unfoldable pub billionths_of : ℕ → Exact → ℤ
billionths_of most e =
    let t = trim e.digits in
    with_sign e.below (cond (wide most e) 0 (moved_by t.kept (e.up + t.zeros) e.down))
