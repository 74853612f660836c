-- Types and values.
--     has_is, whole_is, multiple_is     a type among a sum, whole numbers, multiples
--     typed_is                          a value's type is one of the sum
--     equal_is                          a value of an enum is the value itself
--     called_is                         a row has a name
--     and_then                          a thing said in other words, and these in others
-- Assumes nothing.
use mathlib.Core.Bool.{Bool, true, false, ◌&&◌, ◌||◌, true≢false, or-true}
use mathlib.Core.List.{List}
use mathlib.Core.Logic.{◌↔◌, inl, inr, ⊎_elim}
use mathlib.Core.Option.{Option, none, some}
use mathlib.Core.Path.{◌≡◌, refl, sym, ap, ◌∙◌, subst}
use Prim.Native.Nat.{ℕ, ◌*◌, ◌/◌, ◌%◌}
use lib.Dec.{eqb}
use lib.IntN.{ℤ, pos, nat_abs}
use borrow.Author.Tests.{eqb-true, eq-eqb}
use Rattle.laws.proofs.Tests.{both, left, right, either}
use Rattle.decimal.specs.Value.{one, equal_z, is_whole, is_multiple}
use Rattle.decimal.proofs.Multiples.{multiple_times, times_multiple}
use Rattle.decimal.proofs.Order.{equal_same, same_equal}
use Rattle.text.specs.Part.{same_bytes}
use Rattle.text.proofs.Bytes.{same_eq, eq_same}
use Rattle.sheet.specs.declared.kind.RowKind.{RowKind}
use Rattle.sheet.specs.declared.kind.RowKind.TheVariants.{Null, False, True, Number, String, Array, Object}
use Rattle.sheet.specs.Kinds.{kind_number, kind_of}
use Rattle.sheet.specs.Doc.{Value, null, bool, number, string, array, object, Doc, value_kind}
use Rattle.meaning.specs.Tests.{number?, bytes?, has, typed, agree, equal}
use Rattle.meaning.specs.Rules.{called}
use Rattle.meaning.specs.Keywords.{Times, Among, TypeOf, Scalar}

has_is : (mask bit : ℕ) → (has mask bit ≡ true) ↔ Among mask bit
unfolding has
has_is mask bit = (eqb-true (mask / bit % 2) 1, eq-eqb (mask / bit % 2) 1)

whole_is : (z : ℤ) → (is_whole z ≡ true) ↔ Times z one
unfolding is_whole is_multiple
whole_is z = ((λ e. (nat_abs z / one, multiple_times z (pos one) e)), λ w. times_multiple w.0 z (pos one) w.1)

pub multiple_is : (y z : ℤ) → (is_multiple y z ≡ true) ↔ Times y (nat_abs z)
multiple_is y z = ((λ e. (nat_abs y / nat_abs z, multiple_times y z e)), λ w. times_multiple w.0 y z w.1)

pub typed_is : (mask : ℕ) (v : Value) → (typed mask v ≡ true) ↔ TypeOf mask v
unfolding typed
typed_is mask null = has_is mask 1
typed_is mask (bool b) = has_is mask 2
typed_is mask (number z) = (
  λ e.
      ⊎_elim (λ h. inl ((has_is mask 8).0 h))
      (λ h. inr ((has_is mask 4).0 (left (has mask 4) (is_whole z) h), (whole_is z).0 (right (has mask 4) (is_whole z) h)))
      (either (has mask 8) (has mask 4 && is_whole z) e),
  λ t.
      ⊎_elim (λ h. rw ((has_is mask 8).1 h))
      (λ h. rw (both (has mask 4) (is_whole z) ((has_is mask 4).1 h.0) ((whole_is z).1 h.1), or-true)) t,
)
typed_is mask (string bytes) = has_is mask 16
typed_is mask (array first k) = has_is mask 32
typed_is mask (object first k) = has_is mask 64

-- a kind has its own number
kind_back : (k : RowKind) → kind_of (kind_number k) ≡ k
unfolding kind_of
kind_back Null = refl
kind_back False = refl
kind_back True = refl
kind_back Number = refl
kind_back String = refl
kind_back Array = refl
kind_back Object = refl

-- a value that is no array and no object, by its kind and by the number or the bytes that it has
abbrev numbered : Option ℤ → Value
numbered none = null
numbered (some z) = number z

abbrev lettered : Option (List ℕ) → Value
lettered none = null
lettered (some xs) = string xs

abbrev made : RowKind → Option ℤ → Option (List ℕ) → Value
made Null z xs = null
made False z xs = bool false
made True z xs = bool true
made Number z xs = numbered z
made String z xs = lettered xs
made Array z xs = null
made Object z xs = null

made_bool : (b : Bool) → bool b ≡ made (value_kind (bool b)) none none
made_bool true = refl
made_bool false = refl

made_is : (v : Value) → Scalar v → v ≡ made (value_kind v) (number? v) (bytes? v)
unfolding number? bytes?
made_is null s = refl
made_is (bool b) s = made_bool b
made_is (number z) s = refl
made_is (string bytes) s = refl
made_is (array first k) s = absurd s
made_is (object first k) s = absurd s

abbrev scalar_kind : RowKind → Type 0
scalar_kind Null = Unit {0}
scalar_kind False = Unit {0}
scalar_kind True = Unit {0}
scalar_kind Number = Unit {0}
scalar_kind String = Unit {0}
scalar_kind Array = ⊥
scalar_kind Object = ⊥

bool_kind : (b : Bool) → scalar_kind (value_kind (bool b))
bool_kind true = tt
bool_kind false = tt

of_scalar : (v : Value) → Scalar v → scalar_kind (value_kind v)
of_scalar null s = tt
of_scalar (bool b) s = bool_kind b
of_scalar (number z) s = tt
of_scalar (string bytes) s = tt
of_scalar (array first k) s = s
of_scalar (object first k) s = s

scalar_of : (v : Value) → scalar_kind (value_kind v) → Scalar v
scalar_of null s = tt
scalar_of (bool b) s = tt
scalar_of (number z) s = tt
scalar_of (string bytes) s = tt
scalar_of (array first k) s = s
scalar_of (object first k) s = s

agree_same : {A : Type 0} (e : A → A → Bool) → ((a b : A) → e a b ≡ true → a ≡ b) → (o p : Option A) → agree e o p ≡ true → o ≡ p
unfolding agree
agree_same e sound none none h = refl
agree_same e sound none (some b) h = absurd (true≢false (sym h))
agree_same e sound (some a) none h = absurd (true≢false (sym h))
agree_same e sound (some a) (some b) h = ap some (sound a b h)

same_agree : {A : Type 0} (e : A → A → Bool) → ((a : A) → e a a ≡ true) → (o : Option A) → agree e o o ≡ true
unfolding agree
same_agree e alike none = refl
same_agree e alike (some a) = alike a

pub equal_is : (v w : Value) → Scalar w → (equal v w ≡ true) ↔ (v ≡ w)
unfolding equal
equal_is v w s = (there, λ e. subst (λ x. equal x w ≡ true) (sym e) back)
  where
    there : equal v w ≡ true → v ≡ w
    there e =
        let k = eqb (kind_number (value_kind v)) (kind_number (value_kind w)) in
        let z = agree equal_z (number? v) (number? w) in
        let b = agree same_bytes (bytes? v) (bytes? w) in
        let kinds : value_kind v ≡ value_kind w = sym (kind_back (value_kind v)) ∙ ap kind_of (eqb-true _ _ (left k z (left (k && z) b e))) ∙ kind_back (value_kind w) in
        let numbers = agree_same equal_z equal_same (number? v) (number? w) (right k z (left (k && z) b e)) in
        let bytes = agree_same same_bytes same_eq (bytes? v) (bytes? w) (right (k && z) b e) in
        made_is v (scalar_of v (subst scalar_kind (sym kinds) (of_scalar w s)))
        ∙ (λ i. made (kinds i) (numbers i) (bytes i))
        ∙ sym (made_is w s)

    back : equal w w ≡ true
    back =
        rw (eq-eqb (kind_number (value_kind w)) (kind_number (value_kind w)) refl, same_agree equal_z (λ z. same_equal z z refl) (number? w), same_agree same_bytes (λ xs. eq_same xs xs refl) (bytes? w))

pub and_then : {A B C : Type 0} → A ↔ B → B ↔ C → A ↔ C
and_then f g = (λ a. g.0 (f.0 a), λ c. f.1 (g.1 c))

pub called_is : (D : Doc) (name : List ℕ) (k : ℕ) → (called D name k ≡ true) ↔ (D.name k ≡ name)
unfolding called
called_is D name k = (same_eq (D.name k) name, eq_same (D.name k) name)
