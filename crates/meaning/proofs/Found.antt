-- What a test of the value finds there.
--     number_given, string_given, array_given, object_given     a test of what a value has: it passes if there is nothing of the kind
-- Assumes nothing.
use mathlib.Core.Bool.{Bool, true}
use mathlib.Core.List.{List}
use mathlib.Core.Logic.{◌↔◌}
use mathlib.Core.Option.{Option, none, some, none-ne-some, some-injective}
use mathlib.Core.Path.{◌≡◌, refl, sym, ap, ◌∙◌, subst}
use Prim.Native.Nat.{ℕ}
use lib.IntN.{ℤ}
use Rattle.sheet.specs.Doc.{Value, null, bool, number, string, array, object}
use Rattle.meaning.specs.Lists.{range}
use Rattle.meaning.specs.Tests.{number?, bytes?, elements?, members?, given}

nothing_found : {A : Type 0} {a : A} {P : Type 0} → none ≡ some a → P
nothing_found {a = a} e = absurd (none-ne-some a e)

same_found : {A : Type 0} {a b : A} → some a ≡ some b → b ≡ a
same_found {a = a} {b = b} e = sym (some-injective a b e)

-- `of` gives what stands in the values that `make` makes, and nothing of any other
module _ {I A : Type 0} (of : Value → Option A) (make : I → Value) (get : I → A)
    (made : (i : I) → of (make i) ≡ some (get i)) (only : (v : Value) (a : A) → of v ≡ some a → (i : I) × (v ≡ make i) × (a ≡ get i)) where
  told : (v : Value) (p : A → Bool) → given (of v) p ≡ true → (i : I) → v ≡ make i → p (get i) ≡ true
  unfolding given
  told v p e i f = subst (λ o. given o p ≡ true) (ap of f ∙ made i) e

  asked : (v : Value) (p : A → Bool) → ((i : I) → v ≡ make i → p (get i) ≡ true) → (o : Option A) → of v ≡ o → given o p ≡ true
  unfolding given
  asked v p h none e = refl
  asked v p h (some a) e = let w = only v a e in subst (λ x. p x ≡ true) (sym w.2) (h w.0 w.1)

  given_is : (v : Value) (p : A → Bool) → (given (of v) p ≡ true) ↔ ((i : I) → v ≡ make i → p (get i) ≡ true)
  given_is v p = (told v p, λ h. asked v p h (of v) refl)

only_number : (v : Value) (z : ℤ) → number? v ≡ some z → (y : ℤ) × (v ≡ number y) × (z ≡ y)
unfolding number?
only_number null z e = nothing_found e
only_number (bool b) z e = nothing_found e
only_number (number y) z e = (y, refl, same_found e)
only_number (string bytes) z e = nothing_found e
only_number (array first k) z e = nothing_found e
only_number (object first k) z e = nothing_found e

only_string : (v : Value) (xs : List ℕ) → bytes? v ≡ some xs → (ys : List ℕ) × (v ≡ string ys) × (xs ≡ ys)
unfolding bytes?
only_string null xs e = nothing_found e
only_string (bool b) xs e = nothing_found e
only_string (number y) xs e = nothing_found e
only_string (string bytes) xs e = (bytes, refl, same_found e)
only_string (array first k) xs e = nothing_found e
only_string (object first k) xs e = nothing_found e

abbrev pub Rows : Type 0
Rows = ℕ × ℕ

abbrev pub as_array : Rows → Value
as_array r = array r.0 r.1

abbrev pub as_object : Rows → Value
as_object r = object r.0 r.1

abbrev pub rows_in : Rows → List ℕ
rows_in r = range r.0 r.1

pub only_array : (v : Value) (xs : List ℕ) → elements? v ≡ some xs → (r : Rows) × (v ≡ as_array r) × (xs ≡ rows_in r)
unfolding elements?
only_array null xs e = nothing_found e
only_array (bool b) xs e = nothing_found e
only_array (number y) xs e = nothing_found e
only_array (string bytes) xs e = nothing_found e
only_array (array first k) xs e = ((first, k), refl, same_found e)
only_array (object first k) xs e = nothing_found e

pub only_object : (v : Value) (xs : List ℕ) → members? v ≡ some xs → (r : Rows) × (v ≡ as_object r) × (xs ≡ rows_in r)
unfolding members?
only_object null xs e = nothing_found e
only_object (bool b) xs e = nothing_found e
only_object (number y) xs e = nothing_found e
only_object (string bytes) xs e = nothing_found e
only_object (array first k) xs e = nothing_found e
only_object (object first k) xs e = ((first, k), refl, same_found e)

pub number_given : (v : Value) (p : ℤ → Bool) → (given (number? v) p ≡ true) ↔ ((y : ℤ) → v ≡ number y → p y ≡ true)
unfolding number?
number_given = given_is number? number (λ y. y) (λ y. refl) only_number

pub string_given : (v : Value) (p : List ℕ → Bool) → (given (bytes? v) p ≡ true) ↔ ((ys : List ℕ) → v ≡ string ys → p ys ≡ true)
unfolding bytes?
string_given = given_is bytes? string (λ ys. ys) (λ ys. refl) only_string

pub array_given : (v : Value) (p : List ℕ → Bool) → (given (elements? v) p ≡ true) ↔ ((r : Rows) → v ≡ as_array r → p (rows_in r) ≡ true)
unfolding elements?
array_given = given_is elements? as_array rows_in (λ r. refl) only_array

pub object_given : (v : Value) (p : List ℕ → Bool) → (given (members? v) p ≡ true) ↔ ((r : Rows) → v ≡ as_object r → p (rows_in r) ≡ true)
unfolding members?
object_given = given_is members? as_object rows_in (λ r. refl) only_object
