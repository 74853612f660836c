-- What is asked of a value, by the number that was found of it.
--     held_plain                              what was read is within the limits of exact arithmetic
--     held, told                              a bound, of a number and of what is none
--     number_typed, integer_typed, untyped    the types of a number
--     typed_number, typed_other               and of any value
--     type_positive                           the number of a type is not 0
-- Assumes nothing.
use Rattle.std.specs.Prelude.{Option as Found, Some, None, IsTrue, MatchOption}
use mathlib.Core.Bool.{Bool, true, false, ◌&&◌, ◌||◌}
use mathlib.Core.Option.{Option, none, some}
use mathlib.Core.Path.{◌≡◌, refl, sym, ap, ◌∙◌}
use Prim.Native.Nat.{ℕ, ◌<◌}
use native.Mathlib.Omega.{arith}
use lib.IntN.{ℤ}
use Rattle.decimal.specs.declared.Decimal.{Decimal}
use Rattle.decimal.specs.Value.{value, Plain, is_whole}
use Rattle.sheet.specs.declared.kind.RowKind.{RowKind}
use Rattle.sheet.specs.declared.kind.RowKind.TheVariants as K
use Rattle.sheet.specs.Doc.{Value, null, bool, number, string, array, object, value_kind}
use Rattle.meaning.specs.Tests.{number?, given, has, typed}
use Rattle.looking.specs.Read.{PlainIn, NumberFound}
use Rattle.testing.specs.Types.{type_number}

-- ---- bounds

pub held_plain : (r : Found Decimal) (d : Decimal) → r ≡ Some d → PlainIn r → Plain d
held_plain r d e plain = rw e at plain

-- what was made of the number, if there is one, is the test of it
pub held : {v : Value} {r : Found Decimal} {Made : Decimal → Type 0} (p : ℤ → Bool) (ok : Bool) → MatchOption r (IsTrue ok) Made → NumberFound v r
    → ((d : Decimal) → Made d → ok ≡ p (value d)) → ok ≡ given (number? v) p
unfolding given
held {r = Some d} p ok made found is = rw found.number_is (is d made)
held {r = None} p ok made found is = rw found.number_is made

-- and where a yes is one
pub told : {v : Value} {r : Found Decimal} {Made : Decimal → Type 0} (p : ℤ → Bool) (ok : Bool) → MatchOption r (IsTrue ok) Made → NumberFound v r → ok ≡ true
    → ((d : Decimal) → Made d → ok ≡ true → p (value d) ≡ true) → given (number? v) p ≡ true
unfolding given
told {r = Some d} p ok made found t is = rw found.number_is (is d made t)
told {r = None} p ok made found t is = rw found.number_is

-- ---- types

-- there is a number, and it is whole
abbrev whole_in : Option ℤ → Bool
whole_in none = false
whole_in (some z) = is_whole z

or_none : (a b : Bool) → a ≡ (a || (b && false))
or_none true b = refl
or_none false true = refl
or_none false false = refl

typed_is : (mask : ℕ) (v : Value) → typed mask v ≡ (has mask (type_number (value_kind v)) || (has mask 4 && whole_in (number? v)))
unfolding typed number?
typed_is mask null = or_none _ (has mask 4)
typed_is mask (bool true) = or_none _ (has mask 4)
typed_is mask (bool false) = or_none _ (has mask 4)
typed_is mask (number z) = refl
typed_is mask (string bytes) = or_none _ (has mask 4)
typed_is mask (array first k) = or_none _ (has mask 4)
typed_is mask (object first k) = or_none _ (has mask 4)

-- a number by its value, and what is none by its kind
module _ (mask : ℕ) (z : ℤ) {t : ℕ} (e : t ≡ 8) where
  pub number_typed : has mask t ≡ true → true ≡ typed mask (number z)
  unfolding typed
  number_typed h = let h₈ : has mask 8 ≡ true = sym (ap (has mask) e) ∙ h in sym (rw h₈)

  module _ (h : has mask t ≡ false) {b : Bool} (f : b ≡ has mask 4) where
    missed : typed mask (number z) ≡ (b && is_whole z)
    unfolding typed
    missed = let h₈ : has mask 8 ≡ false = sym (ap (has mask) e) ∙ h in rw (h₈, f)

    pub integer_typed : {w : Bool} → b ≡ true → w ≡ is_whole z → w ≡ typed mask (number z)
    integer_typed y g = g ∙ sym (missed ∙ rw y)

    pub untyped : b ≡ false → b ≡ typed mask (number z)
    untyped n = n ∙ sym (missed ∙ rw n)

as_number : (v : Value) (z : ℤ) → number? v ≡ some z → number z ≡ v
unfolding number?
as_number null z e = cc
as_number (bool b) z e = cc
as_number (number y) z e = let same : y ≡ z = cc in ap number (sym same)
as_number (string bytes) z e = cc
as_number (array first k) z e = cc
as_number (object first k) z e = cc

module _ (mask : ℕ) (v : Value) (r : Found Decimal) (found : NumberFound v r) where
  pub typed_number : (d : Decimal) {b : Bool} → r ≡ Some d → b ≡ typed mask (number (value d)) → b ≡ typed mask v
  typed_number d e f = f ∙ ap (typed mask) (as_number v (value d) (found.number_is ∙ rw e))

  pub typed_other : {t : ℕ} {b : Bool} → r ≡ None → t ≡ type_number (value_kind v) → b ≡ has mask t → b ≡ typed mask v
  typed_other {t} e read f = f ∙ sym (typed_is mask v ∙ rw (found.number_is, e, ← read) (sym (or_none (has mask t) (has mask 4))))

pub type_positive : (kind : RowKind) → 0 < type_number kind
type_positive K.Null = omega arith
type_positive K.False = omega arith
type_positive K.True = omega arith
type_positive K.Number = omega arith
type_positive K.String = omega arith
type_positive K.Array = omega arith
type_positive K.Object = omega arith
