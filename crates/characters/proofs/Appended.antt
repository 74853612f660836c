-- A character's bytes, put one by one.
-- Assumes nothing.
use mathlib.Core.List.{List, [], ◌∷◌}
use mathlib.Core.Path.{◌≡◌, refl, sym, ap, ◌∙◌}
use Prim.Native.Nat.{ℕ, suc, ◌+◌, ◌/◌, ◌%◌, ◌≤◌, ◌<◌}
use native.Mathlib.Numerals.{add-one}
use native.Mathlib.Omega.{arith}
use lib.ListN.{length, set}
use lib.Seq.{sets}
use Rattle.jsontext.specs.Utf8.{encode}
use Rattle.jsontext.proofs.Strings.{encode_1, encode_2, encode_3, encode_4}

module _ (area : List ℕ) (at c : ℕ) where
  abbrev Appended : ℕ → List ℕ → Type 0
  Appended to room = (to ≡ at + length (encode c [])) × (room ≡ sets area at (encode c []))

  pub appended_1 : {a : List ℕ} → c < 0x80 → a ≡ set area at c → Appended (at + 1) a
  appended_1 l e = rw (encode_1 c [] l) (omega arith, e)

  pub appended_2 : {a b : List ℕ} → 0x80 ≤ c → c < 0x800 → a ≡ set area at (0xC0 + c / 0x40) → b ≡ set a (at + 1) (0x80 + c % 0x40) → Appended (at + 2) b
  appended_2 {a} {b} l m e f =
      rw (encode_2 c [] l m) (omega arith, f ∙ rw (e, add-one at))

  pub appended_3 : {x y z : List ℕ} → 0x800 ≤ c → c < 0x10000
      → x ≡ set area at (0xE0 + c / 0x1000) → y ≡ set x (at + 1) (0x80 + c / 0x40 % 0x40) → z ≡ set y (at + 2) (0x80 + c % 0x40)
      → Appended (at + 3) z
  appended_3 {x} {y} {z} l m e f g =
      let two : at + 2 ≡ suc (suc at) = omega arith in
      rw (encode_3 c [] l m) (omega arith, g ∙ rw (f, e, two, add-one at))

  pub appended_4 : {x y z w : List ℕ} → 0x10000 ≤ c
      → x ≡ set area at (0xF0 + c / 0x40000) → y ≡ set x (at + 1) (0x80 + c / 0x1000 % 0x40)
      → z ≡ set y (at + 2) (0x80 + c / 0x40 % 0x40) → w ≡ set z (at + 3) (0x80 + c % 0x40)
      → Appended (at + 4) w
  appended_4 {x} {y} {z} {w} l e f g h =
      let two : at + 2 ≡ suc (suc at) = omega arith in
      let three : at + 3 ≡ suc (suc (suc at)) = omega arith in
      rw (encode_4 c [] l) (omega arith, h ∙ rw (g, f, e, three, two, add-one at))
