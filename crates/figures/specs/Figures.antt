-- A number of a JSON text, read from the text: its digits, its fraction and its exponent, one after the other. Where each part stands in the text, and what is
-- read of it. Assumes nothing.
use Rattle.std.specs.Prelude.{Bool, false, cond, ◌&&◌, ◌||◌, List, [], ◌∷◌, ◌≢◌, ◌≡◌, ℕ, ◌+◌, ◌-◌, ◌*◌, ◌≤◌, ◌<◌, eqb, leb, length, get_or, drop, Option, Some, None}
use Rattle.sheet.specs.Kinds.{number_max}
use Rattle.jsontext.specs.Text.{Digit, digits, Fraction, fraction, Exponent, exponent, Number, number}
use Rattle.jsontext.specs.Number.{part_digits, right_of, left_of, exact_of, wide, billionths_of}
use Rattle.breadth.specs.Number.{digits_word, scale_of}
use Rattle.numeral.specs.declared.Kept.{Kept}
use Rattle.numeral.specs.Numeral.{power_max, capped, kept_more, Holding}

abbrev pub is_digit : ℕ → Bool
is_digit b = leb 0x30 b && leb b 0x39

-- what a byte is worth as a digit
abbrev pub digit_in : ℕ → Option ℕ
digit_in b = cond (is_digit b) (Some (b - 0x30)) None

-- the letter of an exponent
abbrev pub is_letter : ℕ → Bool
is_letter b = eqb b 0x45 || eqb b 0x65

-- no number goes on with this byte
pub record Stops (b : ℕ) : Type 0 where
  pub no_digit : is_digit b ≡ false
  pub no_point : b ≢ 0x2E
  pub no_capital : b ≢ 0x45
  pub no_small : b ≢ 0x65

-- the first byte, or 0
abbrev pub head_of : List ℕ → ℕ
head_of l = get_or l 0 0

-- what is held, and then digits
unfoldable pub after : {S : Type 0} → (S → ℕ → S) → S → List Digit → S
after f s [] = s
after f s (d ∷ ds) = after f (f s d.worth) ds

abbrev pub kept_all : Kept → List Digit → Kept
kept_all k ds = after kept_more k ds

-- one digit more of an exponent
abbrev pub power_more : ℕ → ℕ → ℕ
power_more p d = capped power_max (p * 10 + d)

-- ---- what stands at place i

pub record DigitsAt (json : List ℕ) (i : ℕ) : Type 0 where
  pub list : List Digit
  pub behind : List ℕ
  pub spelled : digits list behind ≡ drop i json
  pub stop : is_digit (head_of behind) ≡ false

pub record FractionAt (json : List ℕ) (i : ℕ) : Type 0 where
  pub part : Fraction
  pub behind : List ℕ
  pub spelled : fraction part behind ≡ drop i json
  pub no_digit : is_digit (head_of behind) ≡ false
  pub no_point : head_of behind ≢ 0x2E

pub record ExponentAt (json : List ℕ) (i : ℕ) : Type 0 where
  pub power : Exponent
  pub behind : List ℕ
  pub spelled : exponent power behind ≡ drop i json
  pub stop : Stops (head_of behind)

pub record NumberAt (json : List ℕ) (i : ℕ) : Type 0 where
  pub figure : Number
  pub behind : List ℕ
  pub spelled : number figure behind ≡ drop i json
  pub stop : Stops (head_of behind)
  pub narrow : wide number_max (exact_of figure) ≡ false

-- ---- what is read of it, up to place j

-- what is kept of digits, of which no more than there are bytes
pub record Sound (k : Kept) (j : ℕ) : Type 0 where
  pub holding : Holding k
  pub few : k.zeros ≤ j

pub record DigitsRead (json : List ℕ) (i : ℕ) (k : Kept) (q : DigitsAt json i) (j : ℕ) (r : Kept) : Type 0 where
  pub end : q.behind ≡ drop j json
  pub kept_is : r ≡ kept_all k q.list
  pub count : j ≡ i + length q.list

pub record FractionRead (json : List ℕ) (i : ℕ) (k : Kept) (q : FractionAt json i) (j : ℕ) (r : Kept) (places : ℕ) : Type 0 where
  pub end : q.behind ≡ drop j json
  pub kept_is : r ≡ kept_all k (part_digits q.part)
  pub count : places ≡ length (part_digits q.part)

pub record PowerRead (json : List ℕ) (i p : ℕ) (q : DigitsAt json i) (j r : ℕ) : Type 0 where
  pub end : q.behind ≡ drop j json
  pub power_is : r ≡ after power_more p q.list

pub record ExponentRead (json : List ℕ) (i : ℕ) (q : ExponentAt json i) (j up down : ℕ) : Type 0 where
  pub end : q.behind ≡ drop j json
  pub up_is : up ≡ capped power_max (right_of q.power)
  pub down_is : down ≡ capped power_max (left_of q.power)

pub record NumberRead (json : List ℕ) (i : ℕ) (q : NumberAt json i) (j word scale : ℕ) : Type 0 where
  pub end : q.behind ≡ drop j json
  pub word_is : word ≡ digits_word (billionths_of number_max (exact_of q.figure))
  pub scale_is : scale ≡ scale_of (billionths_of number_max (exact_of q.figure))
  pub forward : i < j
