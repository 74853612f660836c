-- The kinds of a record row and what belongs to a kind (paper 01, "Record sheet"): its number, and the bounds of a number's digits and scale.
-- Assumes nothing.
use Rattle.std.specs.Prelude.{Bool, true, false, ◌&&◌, ◌≡◌, ℕ, eqb, leb, nat_abs, Result, MatchResult}
use Rattle.decimal.specs.Value.{signed, scale_max}
use Rattle.sheet.specs.declared.kind.RowKind.{RowKind}
use Rattle.sheet.specs.declared.kind.UnknownKind.{UnknownKind}
use Rattle.sheet.specs.declared.kind.RowKind.TheVariants.{Null, False, True, Number, String, Array, Object}

-- 01's number of each kind
abbrev pub kind_number : RowKind → ℕ
kind_number Null = 0
kind_number False = 1
kind_number True = 2
kind_number Number = 3
kind_number String = 4
kind_number Array = 5
kind_number Object = 6

-- the numbers of the kinds run from 0 to that of the last
abbrev pub is_kind : ℕ → Bool
is_kind n = leb n (kind_number Object)

abbrev pub pick_kind : Bool → RowKind → RowKind → RowKind
pick_kind true a b = a
pick_kind false a b = b

-- the kind of a number; a number that is no kind's reads as `Null`, and no sheet with it is accepted
unfoldable pub kind_of : ℕ → RowKind
kind_of n =
    pick_kind (eqb n (kind_number False)) False
    (pick_kind (eqb n (kind_number True)) True
    (pick_kind (eqb n (kind_number Number)) Number
    (pick_kind (eqb n (kind_number String)) String
    (pick_kind (eqb n (kind_number Array)) Array
    (pick_kind (eqb n (kind_number Object)) Object Null)))))

-- rows of these kinds can have children
abbrev pub holds_children : RowKind → Bool
holds_children Null = false
holds_children False = false
holds_children True = false
holds_children Number = false
holds_children String = false
holds_children Array = true
holds_children Object = true

-- and the children of these have names
abbrev pub is_object_kind : RowKind → Bool
is_object_kind Null = false
is_object_kind False = false
is_object_kind True = false
is_object_kind Number = false
is_object_kind String = false
is_object_kind Array = false
is_object_kind Object = true

-- the most digits of a number, on either side of zero
abbrev pub number_max : ℕ
number_max = 999_999_999

-- a number's two words are within its bounds
abbrev pub number_ok : ℕ → ℕ → Bool
number_ok first count = leb (nat_abs (signed first)) number_max && leb count scale_max

-- what a number is read as: the kind whose number it is, or that no kind has it
abbrev pub KindRead : ℕ → Result RowKind UnknownKind → Type 0
KindRead code r = MatchResult r (λ kind. (is_kind code ≡ true) × (kind ≡ kind_of code)) (λ e. (is_kind code ≡ false) × (e.0 ≡ code))
