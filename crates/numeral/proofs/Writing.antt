-- What is written of a number are the words of its row.
--     written_wide_is      it is too wide exactly where the text's number is
--     written_words        and if not, the word of its digits and its scale are those of its value
-- Assumes nothing.
use mathlib.Core.Bool.{Bool, true, false, cond, not}
use mathlib.Core.Logic.{⊎_elim}
use mathlib.Core.Path.{◌≡◌, refl, sym, ap, ◌∙◌}
use Prim.Native.Nat.{ℕ, zero, suc, ◌+◌, ◌-◌, ◌*◌, ◌^◌, ◌%◌, ◌≤◌, ◌<◌}
use native.Mathlib.Nat.{one-le-pow, eq_of_mul-eq-mul_right}
use native.Mathlib.Omega.{arith}
use borrow.Author.Tests.{eq-eqb, ne_eqb}
use lib.Dec.{eqb, lit<}
use lib.IntN.{ℤ, pos, negsuc, nat_abs}
use Rattle.laws.specs.Lowest.{lowest_from}
use Rattle.laws.proofs.Tests.{le_or_lt}
use Rattle.decimal.specs.Value.{scale_max, with_sign}
use Rattle.sheet.specs.Kinds.{number_max}
use Rattle.jsontext.specs.Number.{Exact, trim, room_for, wide, billionths_of}
use Rattle.jsontext.proofs.Trimming.{trim_tight, by_zero}
use Rattle.jsontext.proofs.Widths as W
use Rattle.jsontext.proofs.Widths.{split_ten, fewer_tens}
use Rattle.breadth.specs.Number.{scale_of, size_of, digits_word}
use Rattle.breadth.proofs.Digits as B
use Rattle.breadth.proofs.Digits.{scale_small, size_back, smallest_scale}
use Rattle.numeral.specs.Numeral.{Writing, written_of, word_of}
use Rattle.numeral.proofs.Caps.{word_zero, word_below, word_above}

-- the word of a number's digits
word_is : (below : Bool) (n : ℕ) → word_of below (size_of (with_sign below n)) ≡ digits_word (with_sign below n)
unfolding digits_word size_of scale_of lowest_from
word_is false n = word_above false (size_of (pos n)) refl
word_is true zero = refl
word_is true (suc n) = word_below true (size_of (negsuc n)) refl (λ (z : size_of (negsuc n) ≡ 0). omega (arith, B.some_digits n))

module _ (e : Exact) where
  abbrev kept : ℕ
  kept = (trim e.digits).kept

  abbrev up : ℕ
  up = e.up + (trim e.digits).zeros

  abbrev z : ℤ
  z = billionths_of number_max e

  -- by whether there is room, and whether anything is kept
  abbrev answer : Bool → Bool → Writing
  answer r s =
      cond (not r) (record { wide = true; digits = 0; scale = 0 })
      (cond s (record { wide = false; digits = 0; scale = 0 }) (record { wide = false; digits = kept * 10 ^ (up - e.down); scale = e.down - up }))

  pub written_wide_is : (written_of kept up e.down).wide ≡ wide number_max e
  unfolding written_of wide
  written_wide_is = go (room_for number_max kept up e.down) (eqb kept 0)
    where
      go : (r s : Bool) → (answer r s).wide ≡ not r
      go false s = refl
      go true true = refl
      go true false = refl

  module _ (narrow : wide number_max e ≡ false) where
    written_narrow : written_of kept up e.down
        ≡ cond (eqb kept 0) (record { wide = false; digits = 0; scale = 0 }) (record { wide = false; digits = kept * 10 ^ (up - e.down); scale = e.down - up })
    unfolding written_of wide
    written_narrow = rw narrow

    module _ (some : kept ≡ 0 → ⊥) where
      room : W.Room number_max e narrow
      room = W.room_facts number_max e narrow some

      size_is : nat_abs z ≡ kept * 10 ^ (up - e.down) * 10 ^ (scale_max - (e.down - up))
      size_is =
          let low = room.low in
          W.size_is number_max e narrow ∙ W.some_digits number_max e narrow some
          ∙ split_ten kept (up - e.down) (scale_max - (e.down - up)) (up + scale_max - e.down) (omega arith)

      scale_is : scale_of z ≡ e.down - up
      scale_is =
          let low = room.low in
          let most = smallest_scale z (kept * 10 ^ (up - e.down)) (e.down - up) (omega arith) size_is in
          let few = scale_small z in
          ⊎_elim
          (λ (l : e.down - up ≤ scale_of z). omega arith)
          (λ (l : scale_of z < e.down - up).
          let none : up - e.down ≡ 0 = omega arith in
          let plain : kept * 10 ^ (up - e.down) ≡ kept = rw none (native.Mathlib.Nat.mul-one kept) in
          let same : size_of z * 10 ^ (scale_max - scale_of z) ≡ kept * 10 ^ (scale_max - (e.down - up)) =
          size_back z ∙ size_is ∙ ap (λ (x : ℕ). x * 10 ^ (scale_max - (e.down - up))) plain in
          let tens = fewer_tens (size_of z) (scale_max - scale_of z) kept (scale_max - (e.down - up)) last same in
          absurd (omega arith))
          (le_or_lt (e.down - up) (scale_of z))
        where
          last : kept % 10 ≡ 0 → ⊥
          last = ⊎_elim (λ (k : kept ≡ 0). absurd (some k)) (λ l. l) (trim_tight e.digits).last

      digits_are : size_of z ≡ kept * 10 ^ (up - e.down)
      digits_are =
          let p = one-le-pow (scale_max - (e.down - up)) 10 (lit< tt) in
          eq_of_mul-eq-mul_right (10 ^ (scale_max - (e.down - up))) p (size_of z) (kept * 10 ^ (up - e.down))
          (ap (λ (s : ℕ). size_of z * 10 ^ (scale_max - s)) (sym scale_is) ∙ size_back z ∙ size_is)

    -- what is written, where anything is kept and where nothing is
    some_written : (kept ≡ 0 → ⊥) → written_of kept up e.down ≡ record { wide = false; digits = kept * 10 ^ (up - e.down); scale = e.down - up }
    some_written k = written_narrow ∙ rw (ne_eqb kept 0 k)

    none_written : kept ≡ 0 → written_of kept up e.down ≡ record { wide = false; digits = 0; scale = 0 }
    none_written k = written_narrow ∙ rw (eq-eqb kept 0 k)

    signed : z ≡ with_sign e.below (nat_abs z)
    signed = (W.narrow_is number_max e narrow).sign

    none_value : kept ≡ 0 → z ≡ pos 0
    none_value k = signed ∙ ap (with_sign e.below) (W.size_is number_max e narrow ∙ W.no_digits number_max e narrow k) ∙ zero_sign e.below
      where
        zero_sign : (b : Bool) → with_sign b 0 ≡ pos 0
        zero_sign true = refl
        zero_sign false = refl

    pub record Words : Type 0 where
      pub word : word_of e.below (written_of kept up e.down).digits ≡ digits_word z
      pub scale : (written_of kept up e.down).scale ≡ scale_of z

    zero_scale : scale_of (pos 0) ≡ 0
    unfolding scale_of lowest_from
    zero_scale = refl

    zero_word : digits_word (pos 0) ≡ 0
    unfolding digits_word size_of scale_of lowest_from
    zero_word = refl

    pub written_words : Words
    written_words =
        ⊎_elim
        (λ (k : kept ≡ 0).
        let w = none_written k in
        let v = none_value k in
        record {
          word = ap (λ (x : Writing). word_of e.below x.digits) w ∙ word_zero e.below 0 refl ∙ sym (ap digits_word v ∙ zero_word);
          scale = ap (λ (x : Writing). x.scale) w ∙ sym (ap scale_of v ∙ zero_scale);
        })
        (λ (k : kept ≡ 0 → ⊥).
        let w = some_written k in
        record {
          word =
              ap (λ (x : Writing). word_of e.below x.digits) w ∙ ap (word_of e.below) (sym (digits_are k))
              ∙ ap (λ (x : ℤ). word_of e.below (size_of x)) signed ∙ word_is e.below (nat_abs z) ∙ ap digits_word (sym signed);
          scale = ap (λ (x : Writing). x.scale) w ∙ sym (scale_is k);
        })
        (by_zero kept)
