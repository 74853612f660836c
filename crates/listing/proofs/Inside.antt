-- What a listing gives, and a record of it that lies inside.
--     few_records                  how many records a good listing has
--     words_inside, text_inside    both ranges of a record fit
--     none_outside                 where the search finds none every record lies inside
-- Assumes nothing.
use mathlib.Core.Bool.{Bool, true, false, not, ◌||◌}
use mathlib.Core.List.{List}
use mathlib.Core.Path.{◌≡◌, refl}
use Prim.Native.Nat.{ℕ, ◌%◌, ◌≤◌, ◌<◌}
use native.Mathlib.Omega.{arith}
use lib.Dec.{eqb, ltb}
use lib.ListN.{length}
use borrow.Author.Tests.{ltb-false, not-false}
use Rattle.text.specs.Part.{fits}
use Rattle.laws.specs.Lowest.{lowest}
use Rattle.laws.proofs.Searches.{clear_below}
use Rattle.laws.proofs.Tests.{neither}
use Rattle.listing.specs.Listing.{records_in, words_at, text_at, outside, bad_listing}

-- a listing that is not refused 30 has few records
pub few_records : (listing : List ℕ) → bad_listing listing ≡ false → records_in listing ≤ 512
few_records listing e = let h = ltb-false 2048 (length listing) (neither (not (eqb (length listing % 4) 0)) (ltb 2048 (length listing)) e).1 in omega arith

module _ (words bytes : ℕ) (listing : List ℕ) where
  both_inside : (i : ℕ) → outside words bytes listing i ≡ false → (fits words (words_at listing i) ≡ true) × (fits bytes (text_at listing i) ≡ true)
  unfolding outside
  both_inside i e =
      let a = fits words (words_at listing i) in
      let b = fits bytes (text_at listing i) in
      let n = neither (not a) (not b) e in
      (not-false a n.0, not-false b n.1)

  pub words_inside : (i : ℕ) → outside words bytes listing i ≡ false → fits words (words_at listing i) ≡ true
  words_inside i e = (both_inside i e).0

  pub text_inside : (i : ℕ) → outside words bytes listing i ≡ false → fits bytes (text_at listing i) ≡ true
  text_inside i e = (both_inside i e).1

  pub none_outside : (place : ℕ) → place ≡ lowest (outside words bytes listing) (records_in listing) → records_in listing ≤ place
      → (i : ℕ) → i < records_in listing → outside words bytes listing i ≡ false
  none_outside place e h i l = clear_below (outside words bytes listing) (records_in listing) 0 i (omega arith) (omega arith) (omega arith)
