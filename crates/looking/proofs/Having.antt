-- What a value has, by its kind.
--     number_found, none_found, number_read             its number, if it is one
--     bytes_found, no_bytes, string_in, string_read     its bytes, if it is a string
--     members_found, no_members                         its members' rows, if it is an object
-- Assumes nothing.
use Rattle.std.specs.Prelude.{Option as Found, Some, None, is_some, IfSome}
use mathlib.Core.Bool.{Bool, true, false}
use mathlib.Core.List.{List}
use mathlib.Core.Option.{none, some}
use mathlib.Core.Path.{◌≡◌, refl, sym, ap}
use Prim.Native.Nat.{ℕ}
use native.Mathlib.Omega.{arith}
use lib.Dec.{eqb}
use lib.IntN.{ℤ}
use lib.ListN.{length}
use Rattle.decimal.specs.declared.Decimal.{Decimal}
use Rattle.decimal.specs.Value.{value, Plain}
use Rattle.text.specs.declared.Range.{Range}
use Rattle.text.specs.Part.{fits}
use Rattle.sheet.specs.Kinds.{kind_number}
use Rattle.sheet.specs.Doc.{Value, null, bool, number, string, array, object, value_kind, first_child, child_count}
use Rattle.sheet.specs.Record.{text_word, doc_of}
use Rattle.sheet.specs.Accepted.{NumberRead, StringRead}
use Rattle.meaning.specs.Lists.{range}
use Rattle.meaning.specs.Tests.{number?, bytes?, members?}
use Rattle.looking.specs.Read.{NumberFound, StringFound}

-- a value is of the kind that has this number
abbrev pub is_of : ℕ → Value → Bool
is_of kind v = eqb (kind_number (value_kind v)) kind

pub never : false ≡ true → ⊥
never e = let z : ◌≡◌ {A = ℕ} 0 1 = cc in omega arith

pub never_not : true ≡ false → ⊥
never_not e = never (sym e)

-- ---- numbers

module _ (d : Decimal) where
  pub number_found : (v : Value) → is_of 3 v ≡ true → ((z : ℤ) → v ≡ number z → value d ≡ z) → ((z : ℤ) → v ≡ number z → Plain d) → NumberFound v (Some d)
  unfolding number?
  number_found null t is fine = absurd (never t)
  number_found (bool true) t is fine = absurd (never t)
  number_found (bool false) t is fine = absurd (never t)
  number_found (number z) t is fine = record { number_is = ap some (sym (is z refl)); plain = fine z refl }
  number_found (string bytes) t is fine = absurd (never t)
  number_found (array first k) t is fine = absurd (never t)
  number_found (object first k) t is fine = absurd (never t)

pub none_found : (v : Value) → is_of 3 v ≡ false → NumberFound v None
unfolding number?
none_found null t = record { number_is = refl; plain = tt }
none_found (bool b) t = record { number_is = refl; plain = tt }
none_found (number z) t = absurd (never_not t)
none_found (string bytes) t = record { number_is = refl; plain = tt }
none_found (array first k) t = record { number_is = refl; plain = tt }
none_found (object first k) t = record { number_is = refl; plain = tt }

-- what was read only where the value is a number
pub number_read : {ws : List ℕ} {j : ℕ} {Made : Decimal → Type 0} (ts : List ℕ) (r : Found Decimal) → is_some r ≡ is_of 3 ((doc_of ws ts).value j) → IfSome r Made
    → ((d : Decimal) → Made d → NumberRead ws j d) → NumberFound ((doc_of ws ts).value j) r
number_read ts None is made read = none_found _ (sym is)
number_read ts (Some d) is made read = number_found d _ (sym is) ((read d made).number_is ts) ((read d made).number_plain ts)

-- ---- strings

pub bytes_found : (bs : List ℕ) (v : Value) → is_of 4 v ≡ true → ((bytes : List ℕ) → v ≡ string bytes → bs ≡ bytes) → bytes? v ≡ some bs
unfolding bytes?
bytes_found bs null t is = absurd (never t)
bytes_found bs (bool true) t is = absurd (never t)
bytes_found bs (bool false) t is = absurd (never t)
bytes_found bs (number z) t is = absurd (never t)
bytes_found bs (string bytes) t is = ap some (sym (is bytes refl))
bytes_found bs (array first k) t is = absurd (never t)
bytes_found bs (object first k) t is = absurd (never t)

pub no_bytes : (v : Value) → is_of 4 v ≡ false → bytes? v ≡ none
unfolding bytes?
no_bytes null t = refl
no_bytes (bool b) t = refl
no_bytes (number z) t = refl
no_bytes (string bytes) t = absurd (never_not t)
no_bytes (array first k) t = refl
no_bytes (object first k) t = refl

pub string_in : {ws : List ℕ} {j : ℕ} {r : Range} → StringRead ws j r → (ts : List ℕ) → is_of 4 ((doc_of ws ts).value j) ≡ true → fits (text_word ws) r ≡ true
string_in {ws} {j} {r} read ts t = within ((doc_of ws ts).value j) t (read.string_fits ts)
  where
    within : (v : Value) → is_of 4 v ≡ true → ((bytes : List ℕ) → v ≡ string bytes → fits (text_word ws) r ≡ true) → fits (text_word ws) r ≡ true
    within null t inside = absurd (never t)
    within (bool true) t inside = absurd (never t)
    within (bool false) t inside = absurd (never t)
    within (number z) t inside = absurd (never t)
    within (string bytes) t inside = inside bytes refl
    within (array first k) t inside = absurd (never t)
    within (object first k) t inside = absurd (never t)

-- what was read only where the value is a string
pub string_read : {ws : List ℕ} {j : ℕ} {Made : Range → Type 0} (ts : List ℕ) (r : Found Range) → length ts ≡ text_word ws → is_some r ≡ is_of 4 ((doc_of ws ts).value j)
    → IfSome r Made → ((own : Range) → Made own → StringRead ws j own) → StringFound ts ((doc_of ws ts).value j) r
string_read ts None long is made read = record { bytes_is = no_bytes _ (sym is); inside = tt }
string_read ts (Some own) long is made read = record { bytes_is = bytes_found _ _ (sym is) ((read own made).string_is ts); inside = rw long (string_in (read own made) ts (sym is)) }

-- ---- children

pub members_found : (v : Value) → is_of 6 v ≡ true → members? v ≡ some (range (first_child v) (child_count v))
unfolding members?
members_found null t = absurd (never t)
members_found (bool true) t = absurd (never t)
members_found (bool false) t = absurd (never t)
members_found (number z) t = absurd (never t)
members_found (string bytes) t = absurd (never t)
members_found (array first k) t = absurd (never t)
members_found (object first k) t = refl

pub no_members : (v : Value) → is_of 6 v ≡ false → members? v ≡ none
unfolding members?
no_members null t = refl
no_members (bool b) t = refl
no_members (number z) t = refl
no_members (string bytes) t = refl
no_members (array first k) t = refl
no_members (object first k) t = absurd (never_not t)
