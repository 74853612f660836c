-- Sizes, as they are found: what was read is the size.
--     string_inside                  the bytes that were found are bytes of the text
--     string_size                    the size of a string, and of what is none
--     elements_sized, members_sized  how many elements and members a value has, by its kind
-- Assumes nothing.
use Rattle.std.specs.Prelude.{Option as Found, Some, None, IsSomeAnd, MatchOption}
use mathlib.Core.Bool.{true, false}
use mathlib.Core.List.{List}
use mathlib.Core.Option.{some}
use mathlib.Core.Path.{◌≡◌, refl, ap, sym}
use Prim.Native.Nat.{ℕ}
use Rattle.text.specs.declared.Range.{Range}
use Rattle.text.specs.Part.{fits, part}
use Rattle.sheet.specs.Doc.{Value, null, bool, number, string, array, object}
use Rattle.meaning.specs.Tests.{bytes?, elements?, members?, length_of}
use Rattle.meaning.proofs.Members.{range_length}
use Rattle.looking.specs.Read.{FitsIn, StringFound, size_in, size_by, size_of, count_if}

pub string_inside : (n : ℕ) (s : Found Range) (r : Range) → s ≡ Some r → FitsIn n s → fits n r ≡ true
string_inside n s r e inside = rw e at inside

-- what was made of the bytes that were found is their length
pub string_size : {ts : List ℕ} {v : Value} {s : Found Range} {Made : Range → ℕ → Type 0} → StringFound ts v s → (size : Found ℕ)
    → MatchOption s (size ≡ None) (λ r. IsSomeAnd size (Made r)) → ((r : Range) (n : ℕ) → Made r n → n ≡ length_of (part ts r)) → size_in size ≡ size_by length_of (bytes? v)
string_size {s = None} found None made is = rw found.bytes_is
string_size {s = None} found (Some n) made is = absurd cc
string_size {s = Some r} found None made is = absurd made
string_size {s = Some r} found (Some n) made is = rw found.bytes_is (ap some (is r n made))

pub elements_sized : (v : Value) → count_if 5 v ≡ size_of (elements? v)
unfolding elements?
elements_sized null = refl
elements_sized (bool true) = refl
elements_sized (bool false) = refl
elements_sized (number z) = refl
elements_sized (string bytes) = refl
elements_sized (array first k) = ap some (sym (range_length first k))
elements_sized (object first k) = refl

pub members_sized : (v : Value) → count_if 6 v ≡ size_of (members? v)
unfolding members?
members_sized null = refl
members_sized (bool true) = refl
members_sized (bool false) = refl
members_sized (number z) = refl
members_sized (string bytes) = refl
members_sized (array first k) = refl
members_sized (object first k) = ap some (sym (range_length first k))
