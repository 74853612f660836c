-- When a bundle is bad, and when it is good.
--     size_enough                 a bundle of a size that is allowed has a trailer
--     size_bad, lengths_bad       bad by its size, or by the lengths that it says
--     lengths_good                good
--     sizes, record_short, rules_short     how long a good bundle is, and that there is room for its words
-- Assumes nothing.
use mathlib.Core.Bool.{Bool, true, false, not, ◌||◌}
use mathlib.Core.List.{List}
use mathlib.Core.Logic.{⊎_elim}
use mathlib.Core.Path.{◌≡◌, refl, sym, ap}
use Prim.Native.Nat.{ℕ, ◌+◌, ◌-◌, ◌%◌, ◌≤◌}
use native.Mathlib.Nat.{min-le_right}
use native.Mathlib.Omega.{arith}
use lib.Dec.{eqb, ltb}
use lib.ListN.{length, take, drop, length-take, length-drop}
use borrow.Author.Tests.{ltb-false, eqb-true, not-false}
use Rattle.laws.proofs.Tests.{decide, neither}
use Rattle.parts.specs.declared.Lengths.{Lengths}
use Rattle.parts.specs.declared.Parts.{Parts}
use Rattle.std.specs.Prelude.{Some, None}
use Rattle.parts.specs.Bundle.{bundle_max, trailer_bytes, word_bytes, lengths_at, record_lengths, rule_lengths, missized, misfit, bad, parts, parts_of}

pub size_enough : (size : ℕ) → missized size ≡ false → trailer_bytes ≤ size
size_enough size e = ltb-false size trailer_bytes (neither (ltb bundle_max size) (ltb size trailer_bytes) e).1

module _ (bs : List ℕ) where
  pub size_bad : missized (length bs) ≡ true → None ≡ parts_of bs
  unfolding bad parts_of
  size_bad e = rw e

  module _ (a b : Lengths) (sized : missized (length bs) ≡ false)
      (of_record : a ≡ lengths_at bs (length bs - trailer_bytes)) (of_rules : b ≡ lengths_at bs (length bs - trailer_bytes + 8)) where
    record_is : record_lengths bs ≡ a
    unfolding record_lengths
    record_is = sym of_record

    rules_are : rule_lengths bs ≡ b
    unfolding rule_lengths
    rules_are = sym of_rules

    pub lengths_bad : misfit (length bs) a b ≡ true → None ≡ parts_of bs
    unfolding bad parts_of
    lengths_bad e = rw (sized, record_is, rules_are, e)

    pub lengths_good : misfit (length bs) a b ≡ false → Some (parts a b) ≡ parts_of bs
    unfolding bad parts_of
    lengths_good e = rw (sized, record_is, rules_are, e)

-- ---- a good bundle

-- where its parts start after the first, and where the last ends
abbrev pub text : Lengths → ℕ
text a = a.words

abbrev pub rules : Lengths → ℕ
rules a = text a + a.text

abbrev pub rule_text : Lengths → Lengths → ℕ
rule_text a b = rules a + b.words

abbrev pub end : Lengths → Lengths → ℕ
end a b = rule_text a b + b.text

module _ (bs : List ℕ) (a b : Lengths) (good : parts_of bs ≡ Some (parts a b)) where
  not_bad : bad bs ≡ false
  unfolding parts_of
  not_bad = ⊎_elim (λ (t : bad bs ≡ true). let z : None ≡ Some (parts a b) = rw t at good in cc) (λ t. t) (decide (bad bs))

  lengths_are : Some (parts (record_lengths bs) (rule_lengths bs)) ≡ Some (parts a b)
  unfolding parts_of
  lengths_are = rw not_bad at good

  both : (missized (length bs) ≡ false) × (misfit (length bs) (record_lengths bs) (rule_lengths bs) ≡ false)
  unfolding bad
  both = neither (missized (length bs)) (misfit (length bs) (record_lengths bs) (rule_lengths bs)) not_bad

  whole : end a b + trailer_bytes ≡ length bs
  whole =
      let same : parts (record_lengths bs) (rule_lengths bs) ≡ parts a b = (let z = lengths_are in cc) in
      let e = ap (λ (p : Parts). p.of_record) same in
      let f = ap (λ (p : Parts). p.of_rules) same in
      let t : misfit (length bs) a b ≡ false = rw (e, f) at both.1 in
      let sum = eqb (end a b + trailer_bytes) (length bs) in
      let four = eqb (a.words % word_bytes) 0 in
      let u = (neither (not sum || not four) (not (eqb (b.words % word_bytes) 0)) t).0 in
      eqb-true _ _ (not-false sum (neither (not sum) (not four) u).0)

  pub sizes : (end a b + trailer_bytes ≡ length bs) × (length bs ≤ bundle_max)
  sizes = (whole, ltb-false bundle_max (length bs) (neither (ltb bundle_max (length bs)) (ltb (length bs) trailer_bytes) both.0).0)

  part_short : (long start : ℕ) → length (take long (drop start bs)) ≤ bundle_max
  part_short long start = rw (length-take long (drop start bs), length-drop start bs) (omega (arith, sizes.1, min-le_right long (length bs - start)))

  pub record_short : length (take (text a) bs) ≤ bundle_max
  record_short = part_short (text a) 0

  pub rules_short : length (take (rule_text a b - rules a) (drop (rules a) bs)) ≤ bundle_max
  rules_short = part_short (rule_text a b - rules a) (rules a)
