-- The first byte of a value tells its kind.
--     alike           a value with the same bytes is of the same kind
--     *-no-blank      it is no white space
--     spaces_byte     white space before such a byte ends there
-- Assumes nothing.
use mathlib.Core.Bool.{Bool, true, false, cond}
use mathlib.Core.List.{List, [], ◌∷◌}
use mathlib.Core.Logic.{inl}
use mathlib.Core.Option.{Option, none, some}
use mathlib.Core.Path.{◌≡◌, refl, sym, ◌∙◌, ap, subst}
use Prim.Native.Nat.{ℕ, ◌<◌}
use native.Mathlib.Omega.{arith}
use lib.Dec.{eqb}
use borrow.Author.Tests.{ne_eqb}
use Rattle.jsontext.specs.Text.{space, tab, feed, return, Space, spaces, Digit, digit, Whole, nought, from, whole, Number, Str, Value, null, truth, falsity, num, str, empty_array, array, empty_object, object, Elements, last, more, Members, last_m, more_m, value, elements, members, Text}
use Rattle.jsontext.proofs.Numbers.{Ending}
use Rattle.jsontext.proofs.SameNumbers.{Next, next_map, NoBlank, spaces_one}

-- ---- kinds of values, told by the first byte

pub data Kind : Type 0 where
  a_null a_yes a_no a_num a_str an_array an_object : Kind

abbrev pub kind_of : Value → Kind
kind_of null = a_null
kind_of truth = a_yes
kind_of falsity = a_no
kind_of (num n) = a_num
kind_of (str s) = a_str
kind_of (empty_array w) = an_array
kind_of (array w vs) = an_array
kind_of (empty_object w) = an_object
kind_of (object w ms) = an_object

-- what a value of this kind is made of
abbrev pub Of : Kind → Type 0
Of a_null = Unit {0}
Of a_yes = Unit {0}
Of a_no = Unit {0}
Of a_num = Number
Of a_str = Str
Of an_array = Space × Option Elements
Of an_object = Space × Option Members

abbrev pub array_of : Space → Option Elements → Value
array_of w none = empty_array w
array_of w (some vs) = array w vs

abbrev pub object_of : Space → Option Members → Value
object_of w none = empty_object w
object_of w (some ms) = object w ms

abbrev pub build : (k : Kind) → Of k → Value
build a_null x = null
build a_yes x = truth
build a_no x = falsity
build a_num n = num n
build a_str s = str s
build an_array x = array_of x.0 x.1
build an_object x = object_of x.0 x.1

pub parts : (v : Value) → (x : Of (kind_of v)) × (build (kind_of v) x ≡ v)
parts null = (tt, refl)
parts truth = (tt, refl)
parts falsity = (tt, refl)
parts (num n) = (n, refl)
parts (str s) = (s, refl)
parts (empty_array w) = ((w, none), refl)
parts (array w vs) = ((w, some vs), refl)
parts (empty_object w) = ((w, none), refl)
parts (object w ms) = ((w, some ms), refl)

pub byte_kind : ℕ → Kind
byte_kind b =
    cond (eqb b 0x6E) a_null (cond (eqb b 0x74) a_yes (cond (eqb b 0x66) a_no (cond (eqb b 0x22) a_str (cond (eqb b 0x5B) an_array (cond (eqb b 0x7B) an_object a_num)))))

abbrev pub head_kind : List ℕ → Kind
head_kind [] = a_num
head_kind (b ∷ bs) = byte_kind b

pub digit_kind : (d : Digit) → byte_kind (digit d) ≡ a_num
unfolding byte_kind
digit_kind d =
    let l : d.worth < 10 = d.small in
    rw (ne_eqb (digit d) 0x6E (λ e. omega arith), ne_eqb (digit d) 0x74 (λ e. omega arith), ne_eqb (digit d) 0x66 (λ e. omega arith), ne_eqb (digit d) 0x22 (λ e. omega arith), ne_eqb (digit d) 0x5B (λ e. omega arith), ne_eqb (digit d) 0x7B (λ e. omega arith))

pub number_kind : (m : Bool) (i : Whole) (xs : List ℕ) → head_kind (Rattle.jsontext.specs.Text.minus_if m (whole i xs)) ≡ a_num
unfolding byte_kind
number_kind true i xs = refl
number_kind false nought xs = refl
number_kind false (from d p ds) xs = digit_kind d

pub value_kind : (v : Value) (xs : List ℕ) → head_kind (value v xs) ≡ kind_of v
unfolding value byte_kind
value_kind null xs = refl
value_kind truth xs = refl
value_kind falsity xs = refl
value_kind (num n) xs = number_kind n.negative n.integer _
value_kind (str s) xs = refl
value_kind (empty_array w) xs = refl
value_kind (array w vs) xs = refl
value_kind (empty_object w) xs = refl
value_kind (object w ms) xs = refl

-- the other value is of the same kind
pub alike : (v u : Value) (xs ys : List ℕ) → value v xs ≡ value u ys
    → (x : Of (kind_of v)) × (build (kind_of v) x ≡ u) × (value v xs ≡ value (build (kind_of v) x) ys)
alike v u xs ys e =
    let k : kind_of u ≡ kind_of v = sym (value_kind u ys) ∙ ap head_kind (sym e) ∙ value_kind v xs in
    let p = subst (λ j. (x : Of j) × (build j x ≡ u)) k (parts u) in
    (p.0, p.1, e ∙ ap (λ w. value w ys) (sym p.1))

-- ---- the first byte of a value

abbrev pub First : ℕ → Type 0
First b = (0x20 < b) × (b ≡ 0x5D → ⊥)

pub number_first : (m : Bool) (i : Whole) (xs : List ℕ) → Next First (Rattle.jsontext.specs.Text.minus_if m (whole i xs))
number_first true i xs = omega arith
number_first false nought xs = omega arith
number_first false (from d p ds) xs = let l : d.worth < 10 = d.small in omega arith

pub value_first : (v : Value) (xs : List ℕ) → Next First (value v xs)
unfolding value
value_first null xs = omega arith
value_first truth xs = omega arith
value_first falsity xs = omega arith
value_first (num n) xs = number_first n.negative n.integer _
value_first (str s) xs = omega arith
value_first (empty_array w) xs = omega arith
value_first (array w vs) xs = omega arith
value_first (empty_object w) xs = omega arith
value_first (object w ms) xs = omega arith

pub value_no_blank : (v : Value) (xs : List ℕ) → Next NoBlank (value v xs)
value_no_blank v xs = next_map First NoBlank (λ b h. h.0) (value v xs) (value_first v xs)

pub elements_first : (vs : Elements) (xs : List ℕ) → Next First (elements vs xs)
unfolding value
elements_first (last v w) xs = value_first v (spaces w xs)
elements_first (more v w w' vs) xs = value_first v (spaces w (0x2C ∷ spaces w' (elements vs xs)))

pub elements_no_blank : (vs : Elements) (xs : List ℕ) → Next NoBlank (elements vs xs)
elements_no_blank vs xs = next_map First NoBlank (λ b h. h.0) (elements vs xs) (elements_first vs xs)

pub no_element : (vs : Elements) (xs ys : List ℕ) → 0x5D ∷ xs ≡ elements vs ys → ⊥
no_element vs xs ys e = let f : First 0x5D = subst (Next First) (sym e) (elements_first vs ys) in f.1 refl

pub members_no_blank : (ms : Members) (xs : List ℕ) → Next NoBlank (members ms xs)
unfolding value
members_no_blank (last_m s w w' v w'') xs = omega arith
members_no_blank (more_m s w w' v w'' w''' ms) xs = omega arith

pub no_member : (ms : Members) (xs ys : List ℕ) → 0x7D ∷ xs ≡ members ms ys → ⊥
unfolding value
no_member (last_m s w w' v w'') xs ys e = let f : ◌≡◌ {A = ℕ} 0x7D 0x22 = cc in omega arith
no_member (more_m s w w' v w'' w''' ms) xs ys e = let f : ◌≡◌ {A = ℕ} 0x7D 0x22 = cc in omega arith

pub spaces_ending : (w : Space) (xs : List ℕ) → Next Ending xs → Next Ending (spaces w xs)
unfolding spaces
spaces_ending [] xs n = n
spaces_ending (space ∷ w) xs n = inl (omega arith)
spaces_ending (tab ∷ w) xs n = inl (omega arith)
spaces_ending (feed ∷ w) xs n = inl (omega arith)
spaces_ending (return ∷ w) xs n = inl (omega arith)

-- white space and one byte
pub spaces_byte : (w w' : Space) (a b : ℕ) (xs ys : List ℕ) → 0x20 < a → 0x20 < b → spaces w (a ∷ xs) ≡ spaces w' (b ∷ ys)
    → (w ≡ w') × (a ≡ b) × (xs ≡ ys)
spaces_byte w w' a b xs ys l h e =
    let r = spaces_one w w' (a ∷ xs) (b ∷ ys) l h e in
    let p : a ∷ xs ≡ b ∷ ys = r.1 in
    let q : a ≡ b = cc in
    let s : xs ≡ ys = cc in
    (r.0, q, s)

pub tail_eq : {a b : ℕ} {xs ys : List ℕ} → a ∷ xs ≡ b ∷ ys → xs ≡ ys
tail_eq e = cc
