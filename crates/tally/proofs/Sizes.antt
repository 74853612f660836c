-- How many bytes a string takes, piece by piece.
--     str_size         as the first pass counts them
--     decoded_size     as many as the string is decoded to
-- Assumes nothing.
use mathlib.Core.Bool.{Bool, true, false, cond, ◌&&◌, and-false}
use mathlib.Core.List.{[], ◌∷◌}
use mathlib.Core.Path.{◌≡◌, refl, sym, ◌∙◌}
use Prim.Native.Nat.{ℕ, ◌+◌, ◌-◌, ◌*◌}
use native.Mathlib.Omega.{arith}
use borrow.Author.Tests.{eq-eqb, ne_eqb, leb-true, lt-leb}
use lib.Dec.{leb}
use lib.ListN.{length}
use Rattle.laws.proofs.Tests.{left, right}
use Rattle.jsontext.specs.Utf8.{encode}
use Rattle.jsontext.specs.Text as T
use Rattle.jsontext.specs.Text.{Short, quote, backslash, slash, backspace, form_feed, line_feed, carriage_return, tabulator, plain, Str}
use Rattle.jsontext.specs.Value.{short_code, unit_code, is_high, is_low, low_next, joined, decoded_after, decoded}
use Rattle.escapes.specs.Escapes.{encoded_size}
use Rattle.escapes.proofs.Escaped.{size_1, size_3, size_4, size_is}
use Rattle.tally.specs.Tallying.{unit_size}

unfoldable pub str_size : Bool → Str → ℕ
str_size high [] = 0
str_size high (plain c p ∷ ps) = encoded_size c + str_size false ps
str_size high (T.escape m ∷ ps) = 1 + str_size false ps
str_size high (T.unit h i j k ∷ ps) = unit_size high (unit_code h i j k) + str_size (is_high (unit_code h i j k)) ps

low_high : (c : ℕ) → is_high c ≡ true → is_low c ≡ false
low_high c e = rw (lt-leb 0xDC00 c (omega (arith, leb-true c 0xDBFF (right (leb 0xD800 c) (leb c 0xDBFF) e))))

high_size : (c : ℕ) → is_high c ≡ true → encoded_size c ≡ 3
high_size c e =
    size_3 c (omega (arith, leb-true 0xD800 c (left (leb 0xD800 c) (leb c 0xDBFF) e))) (omega (arith, leb-true c 0xDBFF (right (leb 0xD800 c) (leb c 0xDBFF) e)))

short_one : (m : Short) → encoded_size (short_code m) ≡ 1
short_one quote = size_1 0x22 (omega arith)
short_one backslash = size_1 0x5C (omega arith)
short_one slash = size_1 0x2F (omega arith)
short_one backspace = size_1 0x08 (omega arith)
short_one form_feed = size_1 0x0C (omega arith)
short_one line_feed = size_1 0x0A (omega arith)
short_one carriage_return = size_1 0x0D (omega arith)
short_one tabulator = size_1 0x09 (omega arith)

-- what waits: a high surrogate where the low one follows, or none
record Waiting (high low : Bool) (w : ℕ) : Type 0 where
  some_waits : (high && low) ≡ true → w ≡ 0 → ⊥
  none_waits : (high && low) ≡ false → w ≡ 0

-- three bytes that are counted ahead
abbrev ahead : Bool → ℕ
ahead b = cond b 3 0

unit_size_lem : (high : Bool) (c w : ℕ) → Waiting high (is_low c) w → unit_size high c + ahead (high && is_low c) ≡ encoded_size (joined w c)
unit_size_lem high c w h = go (high && is_low c) refl
  where
    go : (b : Bool) → (high && is_low c) ≡ b → cond b 1 (encoded_size c) + ahead b ≡ encoded_size (joined w c)
    go true e = rw (ne_eqb w 0 (h.some_waits e)) (sym (size_4 (0x10000 + (w - 0xD800) * 0x400 + (c - 0xDC00)) (omega arith)))
    go false e = rw (eq-eqb w 0 (h.none_waits e)) (omega arith)

never : {A : Type 0} → false ≡ true → A
never e = absurd (let z : ◌≡◌ {A = ℕ} 0 1 = cc in omega arith)

no_high : (low : Bool) → Waiting false low 0
no_high low = record { some_waits = λ e. never e; none_waits = λ e. refl }

module _ (c w : ℕ) (ps : Str) (high : Bool) (u : Waiting high (is_low c) w)
    (ih : (b : Bool) (v : ℕ) → Waiting b (low_next ps) v → str_size b ps + ahead (b && low_next ps) ≡ length (decoded_after v ps)) where
  paired : is_high c ≡ true → (is_high c && low_next ps) ≡ true → unit_size high c + str_size (is_high c) ps + ahead (high && is_low c) ≡ length (decoded_after c ps)
  paired e q =
      let not_low : (high && is_low c) ≡ false = rw (low_high c e) (and-false high) in
      let waits : Waiting (is_high c) (low_next ps) c =
      record {
        some_waits = λ x z. omega (arith, leb-true 0xD800 c (left (leb 0xD800 c) (leb c 0xDBFF) e));
        none_waits = λ x. never (sym x ∙ q);
      } in
      rw not_low (omega (arith, high_size c e, rw q at (ih (is_high c) c waits)))

  alone : (is_high c && low_next ps) ≡ false → unit_size high c + str_size (is_high c) ps + ahead (high && is_low c) ≡ length (encode (joined w c) (decoded_after 0 ps))
  alone q =
      let waits : Waiting (is_high c) (low_next ps) 0 = record { some_waits = λ x. never (sym q ∙ x); none_waits = λ x. refl } in
      omega (arith, unit_size_lem high c w u, size_is (joined w c) (decoded_after 0 ps), rw q at (ih (is_high c) 0 waits))

  unit_after : unit_size high c + str_size (is_high c) ps + ahead (high && is_low c) ≡ length (cond (is_high c && low_next ps) (decoded_after c ps) (encode (joined w c) (decoded_after 0 ps)))
  unit_after = go (is_high c && low_next ps) refl
    where
      go : (q : Bool) → (is_high c && low_next ps) ≡ q
          → unit_size high c + str_size (is_high c) ps + ahead (high && is_low c) ≡ length (cond q (decoded_after c ps) (encode (joined w c) (decoded_after 0 ps)))
      go true q = paired (left (is_high c) (low_next ps) q) q
      go false q = alone q

decoded_after_lem : (x : Str) (high : Bool) (w : ℕ) → Waiting high (low_next x) w → str_size high x + ahead (high && low_next x) ≡ length (decoded_after w x)
unfolding str_size decoded_after
decoded_after_lem [] high w h = rw (and-false high)
decoded_after_lem (plain c p ∷ ps) high w h =
    rw (and-false high) (omega (arith, size_is c (decoded_after 0 ps), decoded_after_lem ps false 0 (no_high (low_next ps))))
decoded_after_lem (T.escape m ∷ ps) high w h =
    rw (and-false high) (omega (arith, short_one m, size_is (short_code m) (decoded_after 0 ps), decoded_after_lem ps false 0 (no_high (low_next ps))))
decoded_after_lem (T.unit h i j k ∷ ps) high w u = unit_after (unit_code h i j k) w ps high u (λ b v y. decoded_after_lem ps b v y)

pub decoded_size : (x : Str) → str_size false x ≡ length (decoded x)
decoded_size x = omega (arith, decoded_after_lem x false 0 (no_high (low_next x)))
