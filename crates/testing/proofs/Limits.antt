-- Sizes, as they are limited.
--     characters_hold     a string of at least k characters, and what is none
--     bytes_hold          a string of at most k bytes, and what is none, has at most k characters
--     size_holds          what is asked of a size, by the size that was found
-- Assumes nothing.
use Rattle.std.specs.Prelude.{Option as Found, Some, None, IsTrue, MatchOption}
use mathlib.Core.Bool.{Bool, true}
use mathlib.Core.List.{List, [], ◌∷◌}
use mathlib.Core.Option.{Option, none, some}
use mathlib.Core.Path.{◌≡◌, ap, ◌∙◌}
use Prim.Native.Nat.{ℕ, zero, suc, ◌-◌, ◌≤◌}
use native.Mathlib.Omega.{arith}
use lib.Dec.{leb}
use lib.ListN.{length}
use borrow.Author.Tests.{le-leb}
use Rattle.text.specs.declared.Range.{Range}
use Rattle.text.specs.Part.{part}
use Rattle.text.proofs.Ranges.{part_length}
use Rattle.counting.specs.Counting.{lead_length, count_after, count}
use Rattle.sheet.specs.Doc.{Value}
use Rattle.meaning.specs.Tests.{bytes?, length_of, given, at_least, at_most}
use Rattle.looking.specs.Read.{StringFound, size_in, size_by}

-- a string has not more characters than bytes
few_after : (skip : ℕ) (bs : List ℕ) → count_after skip bs ≤ length bs
unfolding count_after
few_after zero [] = omega arith
few_after (suc skip) [] = omega arith
few_after zero (b ∷ bs) = omega (arith, few_after (lead_length b - 1) bs)
few_after (suc skip) (b ∷ bs) = omega (arith, few_after skip bs)

few : (bs : List ℕ) → length_of bs ≤ length bs
unfolding count
few bs = few_after 0 bs

-- at least k characters, by the bytes that were found
pub characters_hold : {ts : List ℕ} {v : Value} {r : Found Range} {Made : Range → Type 0} (k : ℕ) (ok : Bool) → MatchOption r (IsTrue ok) Made → StringFound ts v r
    → ((own : Range) → Made own → ok ≡ leb k (length_of (part ts own))) → ok ≡ at_least length_of k (bytes? v)
unfolding at_least given
characters_hold {r = Some own} k ok made found is = rw found.bytes_is (is own made)
characters_hold {r = None} k ok made found is = rw found.bytes_is made

-- at most k bytes
pub bytes_hold : {ts : List ℕ} {v : Value} {r : Found Range} {Made : Range → Type 0} (k : ℕ) → MatchOption r (IsTrue true) Made → StringFound ts v r
    → ((own : Range) → Made own → own.length ≤ k) → at_most length_of k (bytes? v) ≡ true
unfolding at_most given
bytes_hold {ts} {r = Some own} k made found is =
    rw found.bytes_is (le-leb (length_of (part ts own)) k (omega (arith, few (part ts own), part_length ts own found.inside, is own made)))
bytes_hold {r = None} k made found is = rw found.bytes_is

-- the limits of a size, by the size that was found
pub size_holds : (size : List ℕ → ℕ) (r : Found ℕ) {Made : ℕ → Type 0} (p : ℕ → Bool) (ok : Bool) → MatchOption r (IsTrue ok) Made → (xs : Option (List ℕ))
    → size_in r ≡ size_by size xs → ((n : ℕ) → Made n → ok ≡ p n) → ok ≡ given xs (λ ys. p (size ys))
unfolding given
size_holds size (Some n) p ok made (some ys) e is = let same : n ≡ size ys = cc in is n made ∙ ap p same
size_holds size (Some n) p ok made none e is = absurd cc
size_holds size None p ok made none e is = made
size_holds size None p ok made (some ys) e is = absurd cc
