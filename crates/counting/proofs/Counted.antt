-- The count by first bytes is how many characters there are.
-- Assumes nothing.
use mathlib.Core.List.{List, ◌++◌}
use mathlib.Core.Path.{◌≡◌, refl, sym, ap, ◌∙◌}
use Prim.Native.Nat.{ℕ, suc, ◌+◌, ◌/◌, ◌≤◌, ◌<◌}
use native.Mathlib.Omega.{arith}
use lib.ListN.{length}
use borrow.Author.Tests.{lt-ltb, le-ltb}
use Rattle.utf8.specs.Encoding.{Scalar, Scalars, none, one, encode, encode_all, Utf8, characters}
use Rattle.counting.specs.Counting.{lead_length, count_after, count}
use Rattle.utf8.proofs.Encoded.{by_size, encode_1, encode_2, encode_3, encode_4}

module _ (b : ℕ) where
  pub lead_1 : b < 192 → lead_length b ≡ 1
  unfolding lead_length
  lead_1 h = rw (lt-ltb b 192 h)

  lead_2 : 192 ≤ b → b < 224 → lead_length b ≡ 2
  unfolding lead_length
  lead_2 l h = rw (le-ltb b 192 l, lt-ltb b 224 h)

  lead_3 : 224 ≤ b → b < 240 → lead_length b ≡ 3
  unfolding lead_length
  lead_3 l h = rw (le-ltb b 192 (omega arith), le-ltb b 224 l, lt-ltb b 240 h)

  lead_4 : 240 ≤ b → b < 248 → lead_length b ≡ 4
  unfolding lead_length
  lead_4 l h = rw (le-ltb b 192 (omega arith), le-ltb b 224 (omega arith), le-ltb b 240 l, lt-ltb b 248 h)

module _ (c : ℕ) (s : Scalar c) (rest : List ℕ) where
  counts_1 : c < 0x80 → count (encode c ++ rest) ≡ suc (count rest)
  unfolding count count_after
  counts_1 h = rw (encode_1 c h, lead_1 c (omega arith))

  counts_2 : 0x80 ≤ c → c < 0x800 → count (encode c ++ rest) ≡ suc (count rest)
  unfolding count count_after
  counts_2 l h = rw (encode_2 c l h, lead_2 (0xC0 + c / 0x40) (omega arith) (omega arith))

  counts_3 : 0x800 ≤ c → c < 0x10000 → count (encode c ++ rest) ≡ suc (count rest)
  unfolding count count_after
  counts_3 l h = rw (encode_3 c l h, lead_3 (0xE0 + c / 0x1000) (omega arith) (omega arith))

  counts_4 : 0x10000 ≤ c → count (encode c ++ rest) ≡ suc (count rest)
  unfolding count count_after
  counts_4 l = let in_range = s.in_range in rw (encode_4 c l, lead_4 (0xF0 + c / 0x40000) (omega arith) (omega arith))

  counts : count (encode c ++ rest) ≡ suc (count rest)
  counts = by_size c counts_1 counts_2 counts_3 counts_4

counted : {cs : List ℕ} → Scalars cs → count (encode_all cs) ≡ length cs
unfolding encode_all count count_after
counted none = refl
counted (one {c = c} {cs = cs} s ss) = counts c s (encode_all cs) ∙ ap suc (counted ss)

pub count_is : {bytes : List ℕ} (u : Utf8 bytes) → count bytes ≡ characters u
count_is u = rw u.encoded at (counted u.scalars)

-- there is one number of characters only
pub one_number : {bytes : List ℕ} (u v : Utf8 bytes) → characters u ≡ characters v
one_number u v = sym (count_is u) ∙ count_is v
