-- What the clauses that look at a value alone ask of it. A clause about another type of value holds.
-- Assumes nothing.
use Rattle.std.specs.Prelude.{ℕ, ◌/◌, ◌%◌, Bool, true, false, ◌&&◌, ◌||◌, not, List, [], ◌∷◌, map, eqb, leb, ℤ}
use Rattle.std.proofs.Math.Option.{Option, none, some}
use Rattle.decimal.specs.Value.{equal_z, is_whole}
use Rattle.text.specs.Part.{same_bytes}
use Rattle.counting.specs.Counting.{lead_length, count_after, count}
use Rattle.sheet.specs.Doc.{Value, null, bool, number, string, array, object, value_kind}
use Rattle.sheet.specs.Kinds.{kind_number}
use Rattle.meaning.specs.Lists.{any, range}

unfoldable pub number? : Value → Option ℤ
number? null = none
number? (bool b) = none
number? (number z) = some z
number? (string bytes) = none
number? (array first k) = none
number? (object first k) = none

unfoldable pub bytes? : Value → Option (List ℕ)
bytes? null = none
bytes? (bool b) = none
bytes? (number z) = none
bytes? (string bytes) = some bytes
bytes? (array first k) = none
bytes? (object first k) = none

-- the rows of an array's elements
unfoldable pub elements? : Value → Option (List ℕ)
elements? null = none
elements? (bool b) = none
elements? (number z) = none
elements? (string bytes) = none
elements? (array first k) = some (range first k)
elements? (object first k) = none

-- the rows of an object's members
unfoldable pub members? : Value → Option (List ℕ)
members? null = none
members? (bool b) = none
members? (number z) = none
members? (string bytes) = none
members? (array first k) = none
members? (object first k) = some (range first k)

-- p of what there is; true if there is nothing
unfoldable pub given : {A : Type 0} → Option A → (A → Bool) → Bool
given none p = true
given (some a) p = p a

unfoldable pub rows : Option (List ℕ) → List ℕ
rows none = []
rows (some ks) = ks

-- a string's length is how many characters it has, each counted by its lead byte: of UTF-8 how many code points it encodes (`count_is` of crate `counting`)
abbrev pub length_of : List ℕ → ℕ
length_of bytes = count bytes

-- the limits of a size: at least k and at most k of what there is
unfoldable pub at_least : (List ℕ → ℕ) → ℕ → Option (List ℕ) → Bool
at_least size k xs = given xs (λ ys. leb k (size ys))

unfoldable pub at_most : (List ℕ → ℕ) → ℕ → Option (List ℕ) → Bool
at_most size k xs = given xs (λ ys. leb (size ys) k)

-- a sum of types has the type of this number
unfoldable pub has : ℕ → ℕ → Bool
has mask bit = eqb (mask / bit % 2) 1

unfoldable pub typed : ℕ → Value → Bool
typed mask null = has mask 1
typed mask (bool b) = has mask 2
typed mask (number z) = has mask 8 || has mask 4 && is_whole z
typed mask (string bytes) = has mask 16
typed mask (array first k) = has mask 32
typed mask (object first k) = has mask 64

-- both or neither, and if both then e of them
unfoldable pub agree : {A : Type 0} → (A → A → Bool) → Option A → Option A → Bool
agree e none none = true
agree e none (some b) = false
agree e (some a) none = false
agree e (some a) (some b) = e a b

-- equal values of an enum, which has no array and no object
unfoldable pub equal : Value → Value → Bool
equal v w = eqb (kind_number (value_kind v)) (kind_number (value_kind w)) && agree equal_z (number? v) (number? w) && agree same_bytes (bytes? v) (bytes? w)

-- opens this module to a computation
unfoldable pub tests_computes : Unit {0}
unfolding lead_length count_after count number? bytes? elements? members? given rows agree at_least at_most has typed equal
tests_computes = tt
