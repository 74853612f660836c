-- JSON texts (RFC 8259) in well-formed UTF-8 (RFC 3629), as trees of all that stands in them, and the bytes of a tree. There is no parser here.
-- A function over trees takes the bytes that follow and puts those of the tree before them: `value v rest` are the bytes of v and then rest.
-- Assumes nothing.
use Rattle.std.specs.Prelude.{Bool, true, false, List, [], ◌∷◌, ◌++◌, ◌≢◌, ◌≡◌, ℕ, ◌+◌, ◌≤◌, ◌<◌}
use Rattle.std.proofs.Math.Option.{Option, none, some}
use Rattle.jsontext.specs.Utf8.{Scalar, encode}

-- ---- white space (RFC 8259, section 2)

pub data Blank : Type 0 where
  space tab feed return : Blank

abbrev pub blank : Blank → ℕ
blank space = 0x20
blank tab = 0x09
blank feed = 0x0A
blank return = 0x0D

abbrev pub Space : Type 0
Space = List Blank

unfoldable pub spaces : Space → List ℕ → List ℕ
spaces [] rest = rest
spaces (c ∷ w) rest = blank c ∷ spaces w rest

-- ---- numbers (section 6)

pub record Digit : Type 0 where
  pub worth : ℕ
  pub small : worth < 10

abbrev pub digit : Digit → ℕ
digit d = 0x30 + d.worth

unfoldable pub digits : List Digit → List ℕ → List ℕ
digits [] rest = rest
digits (d ∷ ds) rest = digit d ∷ digits ds rest

-- one digit or more
pub record Digits : Type 0 where
  pub first : Digit
  pub others : List Digit

abbrev pub digits1 : Digits → List ℕ → List ℕ
digits1 ds rest = digit ds.first ∷ digits ds.others rest

-- the whole part: 0, or digits of which the first is not 0
pub data Whole : Type 0 where
  nought : Whole
  from : (d : Digit) → 0 < d.worth → List Digit → Whole

abbrev pub whole : Whole → List ℕ → List ℕ
whole nought rest = 0x30 ∷ rest
whole (from d p ds) rest = digit d ∷ digits ds rest

abbrev pub Fraction : Type 0
Fraction = Option Digits

abbrev pub fraction : Fraction → List ℕ → List ℕ
fraction none rest = rest
fraction (some ds) rest = 0x2E ∷ digits1 ds rest

pub data Letter : Type 0 where
  capital small : Letter

pub data Sign : Type 0 where
  unsigned plus minus : Sign

pub record Power : Type 0 where
  pub letter : Letter
  pub sign : Sign
  pub places : Digits

abbrev pub letter_e : Letter → ℕ
letter_e capital = 0x45
letter_e small = 0x65

abbrev pub signed : Sign → List ℕ → List ℕ
signed unsigned rest = rest
signed plus rest = 0x2B ∷ rest
signed minus rest = 0x2D ∷ rest

abbrev pub Exponent : Type 0
Exponent = Option Power

abbrev pub exponent : Exponent → List ℕ → List ℕ
exponent none rest = rest
exponent (some e) rest = letter_e e.letter ∷ signed e.sign (digits1 e.places rest)

pub record Number : Type 0 where
  pub negative : Bool
  pub integer : Whole
  pub part : Fraction
  pub power : Exponent

abbrev pub minus_if : Bool → List ℕ → List ℕ
minus_if true rest = 0x2D ∷ rest
minus_if false rest = rest

abbrev pub number : Number → List ℕ → List ℕ
number n rest = minus_if n.negative (whole n.integer (fraction n.part (exponent n.power rest)))

-- ---- strings (section 7)

-- what may stand in a string as it is: not a control, not the quote, not the backslash
pub record Plain (c : ℕ) : Type 0 where
  pub scalar : Scalar c
  pub no_control : 0x20 ≤ c
  pub no_quote : c ≢ 0x22
  pub no_backslash : c ≢ 0x5C

-- the short escapes: what may stand after a backslash, besides u
pub data Short : Type 0 where
  quote backslash slash backspace form_feed line_feed carriage_return tabulator : Short

abbrev pub short : Short → ℕ
short quote = 0x22
short backslash = 0x5C
short slash = 0x2F
short backspace = 0x62
short form_feed = 0x66
short line_feed = 0x6E
short carriage_return = 0x72
short tabulator = 0x74

-- a hexadecimal digit: a digit, or one of the six letters in either case
pub data Hex : Type 0 where
  decimal : Digit → Hex
  letter : Letter → (k : ℕ) → k < 6 → Hex

abbrev pub letter_a : Letter → ℕ
letter_a capital = 0x41
letter_a small = 0x61

abbrev pub hex : Hex → ℕ
hex (decimal d) = digit d
hex (letter l k p) = letter_a l + k

pub data Piece : Type 0 where
  plain : (c : ℕ) → Plain c → Piece
  escape : Short → Piece
  unit : Hex → Hex → Hex → Hex → Piece

abbrev pub piece : Piece → List ℕ → List ℕ
piece (plain c p) rest = encode c rest
piece (escape m) rest = 0x5C ∷ short m ∷ rest
piece (unit h i j k) rest = 0x5C ∷ 0x75 ∷ hex h ∷ hex i ∷ hex j ∷ hex k ∷ rest

unfoldable pub pieces : List Piece → List ℕ → List ℕ
pieces [] rest = rest
pieces (p ∷ ps) rest = piece p (pieces ps rest)

abbrev pub Str : Type 0
Str = List Piece

abbrev pub string : Str → List ℕ → List ℕ
string s rest = 0x22 ∷ pieces s (0x22 ∷ rest)

-- ---- values (sections 3, 4 and 5)

abbrev pub word_null : List ℕ
word_null = 0x6E ∷ 0x75 ∷ 0x6C ∷ 0x6C ∷ []

abbrev pub word_true : List ℕ
word_true = 0x74 ∷ 0x72 ∷ 0x75 ∷ 0x65 ∷ []

abbrev pub word_false : List ℕ
word_false = 0x66 ∷ 0x61 ∷ 0x6C ∷ 0x73 ∷ 0x65 ∷ []

mutual
  -- the white space of an array or object stands after its opening bracket, after each comma and colon, and after each name and value
  pub data Value : Type 0 where
    null truth falsity : Value
    num : Number → Value
    str : Str → Value
    empty_array : Space → Value
    array : Space → Elements → Value
    empty_object : Space → Value
    object : Space → Members → Value

  pub data Elements : Type 0 where
    last : Value → Space → Elements
    more : Value → Space → Space → Elements → Elements

  pub data Members : Type 0 where
    last_m : Str → Space → Space → Value → Space → Members
    more_m : Str → Space → Space → Value → Space → Space → Members → Members

unfoldable mutual
  pub value : Value → List ℕ → List ℕ
  value null rest = word_null ++ rest
  value truth rest = word_true ++ rest
  value falsity rest = word_false ++ rest
  value (num n) rest = number n rest
  value (str s) rest = string s rest
  value (empty_array w) rest = 0x5B ∷ spaces w (0x5D ∷ rest)
  value (array w vs) rest = 0x5B ∷ spaces w (elements vs (0x5D ∷ rest))
  value (empty_object w) rest = 0x7B ∷ spaces w (0x7D ∷ rest)
  value (object w ms) rest = 0x7B ∷ spaces w (members ms (0x7D ∷ rest))

  pub elements : Elements → List ℕ → List ℕ
  elements (last v w) rest = value v (spaces w rest)
  elements (more v w w' vs) rest = value v (spaces w (0x2C ∷ spaces w' (elements vs rest)))

  pub members : Members → List ℕ → List ℕ
  members (last_m s w w' v w'') rest = string s (spaces w (0x3A ∷ spaces w' (value v (spaces w'' rest))))
  members (more_m s w w' v w'' w''' ms) rest =
      string s (spaces w (0x3A ∷ spaces w' (value v (spaces w'' (0x2C ∷ spaces w''' (members ms rest))))))

-- ---- texts

pub record Text : Type 0 where
  pub before : Space
  pub root : Value
  pub behind : Space

unfoldable pub bytes : Text → List ℕ
bytes t = spaces t.before (value t.root (spaces t.behind []))

-- these bytes are a JSON text
abbrev pub Json : List ℕ → Type 0
Json bs = (t : Text) × (bytes t ≡ bs)

-- some JSON text begins with these bytes
abbrev pub Continues : List ℕ → Type 0
Continues p = (q : List ℕ) × Json (p ++ q)
