-- A call on a record's own words and text (`called_listed`).
-- Assumes nothing.
use mathlib.Core.List.{List}
use mathlib.Core.Path.{◌≡◌}
use Prim.Native.Nat.{ℕ}
use Rattle.text.specs.declared.Range.{Range}
use Rattle.text.specs.Part.{part}
use Rattle.meaning.specs.Rules.{whole}
use Rattle.number.specs.Called.{Called}
use Rattle.listing.specs.Listing.{words_at, text_at}

module _ (ws bs listing : List ℕ) (i : ℕ) where
  pub called_listed : {rs us cs ls cells list words text : List ℕ} {r : ℕ} {p q : Range}
      → words ≡ part ws p → p ≡ words_at listing i → text ≡ part bs q → q ≡ text_at listing i
      → Called whole words text rs us cs ls cells list r → Called whole (part ws (words_at listing i)) (part bs (text_at listing i)) rs us cs ls cells list r
  called_listed e f g h c = rw (e, f, g, h) at c
