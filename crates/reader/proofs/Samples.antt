-- Texts by computation: which numbers are too wide, a name repeated after decoding, lone surrogates, and one text that is read. Each text is a tree, and beside its
-- answer stands that its bytes are those of the text.
-- Assumes nothing.
use mathlib.Core.Bool.{true, false}
use mathlib.Core.List.{List, [], ◌∷◌, ◌++◌, map}
use mathlib.Core.Logic.{inl}
use mathlib.Core.Option.{none, some}
use mathlib.Core.Path.{◌≡◌, refl}
use Prim.Native.Nat.{ℕ, ◌%◌, ◌<◌}
use native.Mathlib.Omega.{arith}
use lib.Dec.{lit<}
use lib.IntN.{pos}
use lib.ListN.{replicate}
use Rattle.laws.specs.Lowest.{lowest_from}
use Rattle.text.specs.Part.{same_bytes}
use Rattle.sheet.specs.Kinds.{number_max}
use Rattle.sheet.specs.Refusals.{Outcome, refused, first_line}
use Rattle.jsontext.specs.Utf8.{encode}
use Rattle.jsontext.specs.Text.{space, spaces, Digit, digits, Digits, Whole, nought, from, Fraction, small, Sign, unsigned, minus, Exponent, Number, Hex, decimal, letter, Piece, plain, unit, pieces, Value, num, str, array, object, last, more, last_m, more_m, value, Text, bytes}
use Rattle.jsontext.specs.Number.{worth_after, exact_of, trim_more, trim_after, wide, billionths_of}
use Rattle.jsontext.specs.Value.{decoded_after, value_of}
use Rattle.jsontext.specs.Starts.{among, string_starts, value_starts}
use Rattle.breadth.specs.Number.{scale_of, size_of, digits_word}
use Rattle.breadth.specs.Breadth.{walk, on, above, breadth}
use Rattle.breadth.specs.Sheet.{weigh, text_of, owners_from, no_entry, row_for, row_of, rows_from, rows, text}
use Rattle.breadth.specs.Words.{all_words, sheet_words}
use Rattle.reader.specs.Faults.{value_fault, first_fault}
use Rattle.reader.specs.Call.{text_made, words_made, text_outcome}

-- ---- numbers

pub low : (n : ℕ) → n % 10 < 10
low n = omega arith

abbrev ds : List ℕ → List Digit
ds ks = map (λ (k : ℕ). record { worth = k % 10; small = low k }) ks

abbrev some_digits : ℕ → List ℕ → Digits
some_digits k ks = record { first = record { worth = k % 10; small = low k }; others = ds ks }

-- a whole part that starts with k
abbrev first : (k : ℕ) → k < 10 → 0 < k → List ℕ → Whole
first k l p ks = from (record { worth = k; small = l }) p (ds ks)

abbrev one : List ℕ → Whole
one ks = first 1 (lit< tt) (lit< tt) ks

abbrev e : Sign → List ℕ → Exponent
e s ks = some (record { letter = small; sign = s; places = some_digits 0 ks })

abbrev n : Whole → Fraction → Exponent → Number
n i f x = record { negative = false; integer = i; part = f; power = x }

abbrev zeros : ℕ → List ℕ
zeros k = replicate k 0

-- 0e999999, -0.000e-77, 1000000000e-1, 0.1000000000000, 999999999.0, 100e-11, 1e0000000000000000003, 0.000..1e601 with 600 zeros
abbrev fine : List Number
fine =
    n nought none (e unsigned (9 ∷ 9 ∷ 9 ∷ 9 ∷ 9 ∷ 9 ∷ []))
    ∷ record { negative = true; integer = nought; part = some (some_digits 0 (0 ∷ 0 ∷ [])); power = e minus (7 ∷ 7 ∷ []) }
    ∷ n (one (zeros 9)) none (e minus (1 ∷ []))
    ∷ n nought (some (some_digits 1 (zeros 12))) none
    ∷ n (first 9 (lit< tt) (lit< tt) (replicate 8 9)) (some (some_digits 0 [])) none
    ∷ n (one (zeros 2)) none (e minus (1 ∷ 1 ∷ []))
    ∷ n (one []) none (e unsigned (zeros 17 ++ 3 ∷ []))
    ∷ n nought (some (some_digits 0 (zeros 599 ++ 1 ∷ []))) (e unsigned (6 ∷ 0 ∷ 1 ∷ []))
    ∷ []

-- 1e9, 1e-10, 1234567.891, 0.1234567891, 1e99999999999999999999
abbrev too_wide : List Number
too_wide =
    n (one []) none (e unsigned (9 ∷ []))
    ∷ n (one []) none (e minus (1 ∷ 0 ∷ []))
    ∷ n (one (2 ∷ 3 ∷ 4 ∷ 5 ∷ 6 ∷ 7 ∷ [])) (some (some_digits 8 (9 ∷ 1 ∷ []))) none
    ∷ n nought (some (some_digits 1 (2 ∷ 3 ∷ 4 ∷ 5 ∷ 6 ∷ 7 ∷ 8 ∷ 9 ∷ 1 ∷ []))) none
    ∷ n (one []) none (e unsigned (replicate 20 9))
    ∷ []

pub fine_read : map (λ (x : Number). billionths_of number_max (exact_of x)) fine
    ≡ pos 0 ∷ pos 0 ∷ pos 100_000_000_000_000_000 ∷ pos 100_000_000 ∷ pos 999_999_999_000_000_000 ∷ pos 1 ∷ pos 1_000_000_000_000 ∷ pos 1_000_000_000 ∷ []
unfolding worth_after exact_of trim_more trim_after wide billionths_of
fine_read = refl

pub fine_narrow : map (λ (x : Number). wide number_max (exact_of x)) fine ≡ replicate 8 false
unfolding worth_after exact_of trim_more trim_after wide
fine_narrow = refl

pub wide_refused : map (λ (x : Number). wide number_max (exact_of x)) too_wide ≡ replicate 5 true
unfolding worth_after exact_of trim_more trim_after wide
wide_refused = refl

-- ---- names and escapes

abbrev hex : ℕ → Hex
hex k = decimal (record { worth = k % 10; small = low k })

abbrev hex_d : Hex
hex_d = letter small 3 (lit< tt)

abbrev hex_c : Hex
hex_c = letter small 2 (lit< tt)

-- \ud800, \udc00, \u0061
abbrev high : Piece
high = unit hex_d (hex 8) (hex 0) (hex 0)

abbrev low_half : Piece
low_half = unit hex_d hex_c (hex 0) (hex 0)

abbrev escaped_a : Piece
escaped_a = unit (hex 0) (hex 0) (hex 6) (hex 1)

abbrev plain_a : Piece
plain_a = plain 0x61 (record { scalar = inl (lit< tt); no_control = lit< tt; no_quote = λ x. omega arith; no_backslash = λ x. omega arith })

abbrev alone : Value → Text
alone v = record { before = []; root = v; behind = [] }

-- {"a":1,"\u0061":1}
abbrev repeating : Text
repeating =
    alone
    (object [] (more_m (plain_a ∷ []) [] [] (num (n (one []) none none)) [] [] (last_m (escaped_a ∷ []) [] [] (num (n (one []) none none)) [])))

-- "\ud800\ud800\udc00" and "\ud800\udc00\udc00"
abbrev lone_first : Text
lone_first = alone (str (high ∷ high ∷ low_half ∷ []))

abbrev lone_third : Text
lone_third = alone (str (high ∷ low_half ∷ low_half ∷ []))

abbrev asks : Text → Outcome
asks t = text_outcome t 100 100

pub faults : asks repeating ∷ asks lone_first ∷ asks lone_third ∷ [] ≡ refused 25 7 ∷ refused 26 1 ∷ refused 26 13 ∷ []
unfolding text_outcome first_line first_fault value_fault value_starts string_starts among same_bytes decoded_after encode bytes spaces value pieces digits worth_after exact_of trim_more trim_after wide
faults = refl

pub repeating_bytes : bytes repeating
    ≡ 0x7B ∷ 0x22 ∷ 0x61 ∷ 0x22 ∷ 0x3A ∷ 0x31 ∷ 0x2C ∷ 0x22 ∷ 0x5C ∷ 0x75 ∷ 0x30 ∷ 0x30 ∷ 0x36 ∷ 0x31 ∷ 0x22 ∷ 0x3A ∷ 0x31 ∷ 0x7D ∷ []
unfolding bytes spaces value pieces digits encode
repeating_bytes = refl

-- ---- a text that is read: ["\ud800\udc00", 1.0]

abbrev good : Text
good = alone (array [] (more (str (high ∷ low_half ∷ [])) [] (space ∷ []) (last (num (n (one []) (some (some_digits 0 [])) none)) [])))

pub good_text : text_made good ≡ 0xF0 ∷ 0x90 ∷ 0x80 ∷ 0x80 ∷ []
unfolding value_of decoded_after encode worth_after exact_of trim_more trim_after wide billionths_of walk on above breadth text_of text
good_text = refl

pub good_words : words_made good
    ≡ 5 ∷ 1 ∷ 2 ∷ 0 ∷ 0 ∷ 0 ∷ 4 ∷ 0 ∷ 4 ∷ 0 ∷ 0 ∷ 0 ∷ 3 ∷ 1 ∷ 0 ∷ 0 ∷ 0 ∷ 0 ∷ 3 ∷ 18 ∷ 4 ∷ 1 ∷ []
unfolding value_of decoded_after encode worth_after exact_of trim_more trim_after wide billionths_of lowest_from scale_of size_of digits_word walk on above breadth weigh text_of owners_from no_entry row_for row_of rows_from rows text all_words sheet_words
good_words = refl
