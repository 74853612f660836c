-- The counters stay low, whatever the bytes are: four more with each byte, at most.
--     Bounded           after n bytes
--     bounded_counted   after one more
--     bounded_low       as low as the code asks, if the text is not too long
-- Assumes nothing.
use mathlib.Core.Bool.{Bool, true, false, cond, ◌&&◌}
use mathlib.Core.List.{List}
use mathlib.Core.Logic.{⊎_elim}
use mathlib.Core.Path.{◌≡◌, refl, sym}
use Prim.Native.Nat.{ℕ, zero, suc, ◌+◌, ◌*◌, ◌%◌, ◌≤◌, ◌<◌}
use native.Mathlib.Omega.{arith}
use borrow.Author.Tests.{eqb-true, eqb-false}
use lib.Dec.{eqb, ltb}
use lib.ListN.{length, get_or, set, replicate}
use lib.Seq.{set_out, get_or-set_same, get_or-set_other}
use Rattle.laws.proofs.Tests.{le_or_lt}
use Rattle.jsontext.specs.Value.{is_high, is_low}
use Rattle.jsontext.specs.Automaton.{Left, hex1, hex2, hex3, hex4, Place, ahead, first_element, after, name, first_name, colon, word, minus, nought, whole, point, part, letter, sign, power, text, escape, unit, char}
use Rattle.escapes.specs.Escapes.{hex_at, encoded_size}
use Rattle.tally.specs.Tallying.{Tally, no_tally, levels, add_at, value_more, name_more, bytes_more, with_code, unit_size, hex_counted, counting}
use Rattle.tally.specs.Bounds.{UpTo, most}

pub record Bounded (n : ℕ) (s : Tally) : Type 0 where
  pub values_low : UpTo (4 * n) s.values
  pub texts_low : UpTo (4 * n) s.texts

pub up_more : {a b : ℕ} {xs : List ℕ} → a ≤ b → UpTo a xs → UpTo b xs
up_more h u = record { each = λ k. omega (arith, u.each k) }

pub bounded_low : (n : ℕ) (s : Tally) → n ≤ 65_536 → Bounded n s → (UpTo most s.values) × (UpTo most s.texts)
bounded_low n s h b = (up_more (omega arith) b.values_low, up_more (omega arith) b.texts_low)

pub set_up : (m k v : ℕ) (xs : List ℕ) → v ≤ m → UpTo m xs → UpTo m (set xs k v)
set_up m k v xs h u = record { each = λ j. go j (eqb k j) refl }
  where
    go : (j : ℕ) (t : Bool) → eqb k j ≡ t → get_or (set xs k v) j 0 ≤ m
    go j true e =
        let same : k ≡ j = eqb-true k j e in
        ⊎_elim
        (λ (l : length xs ≤ k). rw (set_out xs k v l) (u.each j))
        (λ (l : k < length xs). rw (← same) (omega (arith, get_or-set_same xs k v 0 l)))
        (le_or_lt (length xs) k)
    go j false e = omega (arith, u.each j, get_or-set_other xs k j v 0 (λ x. eqb-false k j e (sym x)))

add_up : (m k n : ℕ) (xs : List ℕ) → n ≤ 4 → UpTo (4 * m) xs → UpTo (4 * suc m) (add_at k n xs)
unfolding add_at
add_up m k n xs h u = set_up (4 * suc m) k (get_or xs k 0 + n) xs (omega (arith, u.each k)) (up_more (omega arith) u)

pub size_low : (c : ℕ) → encoded_size c ≤ 4
unfolding encoded_size
size_low c = go (ltb c 0x80) (ltb c 0x800) (ltb c 0x10000)
  where
    go : (x y z : Bool) → cond x 1 (cond y 2 (cond z 3 4)) ≤ 4
    go true y z = omega arith
    go false true z = omega arith
    go false false true = omega arith
    go false false false = omega arith

pub unit_low : (high : Bool) (c : ℕ) → unit_size high c ≤ 4
unit_low high c = go (high && is_low c)
  where
    go : (t : Bool) → cond t 1 (encoded_size c) ≤ 4
    go true = omega arith
    go false = size_low c

pub noughts_up : (m : ℕ) → UpTo 0 (replicate m 0)
noughts_up m = record { each = go m }
  where
    go : (m j : ℕ) → get_or (replicate m 0) j 0 ≤ 0
    go zero j = omega arith
    go (suc m) zero = omega arith
    go (suc m) (suc j) = go m j

pub bounded_none : Bounded 0 no_tally
bounded_none = record { values_low = noughts_up levels; texts_low = noughts_up levels }

module _ (n b k : ℕ) where
  -- by a test
  either : (t : Bool) (x y : Tally) → Bounded (suc n) x → Bounded (suc n) y → Bounded (suc n) (cond t x y)
  either true x y p q = p
  either false x y p q = q

  module _ (s : Tally) (h : Bounded n s) where
    values_same : UpTo (4 * suc n) s.values
    values_same = up_more (omega arith) h.values_low

    texts_same : UpTo (4 * suc n) s.texts
    texts_same = up_more (omega arith) h.texts_low

    same : Bounded (suc n) s
    same = record { values_low = values_same; texts_low = texts_same }

    coded : (c : ℕ) → Bounded (suc n) (with_code c s)
    coded c = record { values_low = values_same; texts_low = texts_same }

    named : Bounded (suc n) (name_more s)
    named = record { values_low = values_same; texts_low = texts_same }

    valued : Bounded (suc n) (value_more k s)
    valued = record { values_low = add_up n k 1 s.values (omega arith) h.values_low; texts_low = texts_same }

    sized : (m : ℕ) (high : Bool) → m ≤ 4 → Bounded (suc n) (bytes_more k m high s)
    sized m high l = record { values_low = values_same; texts_low = add_up n k m s.texts l h.texts_low }

    hexes : (l : Left) → Bounded (suc n) (hex_counted l k b s)
    hexes hex4 = coded (s.code % 0x1000 * 16 + hex_at b)
    hexes hex3 = coded (s.code % 0x1000 * 16 + hex_at b)
    hexes hex2 = coded (s.code % 0x1000 * 16 + hex_at b)
    hexes hex1 = let c : ℕ = s.code % 0x1000 * 16 + hex_at b in sized (unit_size s.high c) (is_high c) (unit_low s.high c)

    one : Bounded (suc n) (bytes_more k 1 false s)
    one = sized 1 false (omega arith)

    opens : Bounded (suc n) (cond (ltb 0x20 b) (value_more k s) s)
    opens = either (ltb 0x20 b) (value_more k s) s valued same

    pub bounded_counted : (p : Place) → Bounded (suc n) (counting p k b s)
    bounded_counted ahead = opens
    bounded_counted first_element = either (eqb b 0x5D) s (cond (ltb 0x20 b) (value_more k s) s) same opens
    bounded_counted after = same
    bounded_counted name = either (ltb 0x20 b) (name_more s) s named same
    bounded_counted first_name = either (ltb 0x20 b) (cond (eqb b 0x7D) s (name_more s)) s (either (eqb b 0x7D) s (name_more s) same named) same
    bounded_counted colon = same
    bounded_counted (word w) = same
    bounded_counted minus = same
    bounded_counted nought = same
    bounded_counted whole = same
    bounded_counted point = same
    bounded_counted part = same
    bounded_counted letter = same
    bounded_counted sign = same
    bounded_counted power = same
    bounded_counted (text r) =
        either (eqb b 0x5C) (with_code 0 s) (cond (eqb b 0x22) s (bytes_more k 1 false s)) (coded 0) (either (eqb b 0x22) s (bytes_more k 1 false s) same one)
    bounded_counted (escape r) = either (eqb b 0x75) s (bytes_more k 1 false s) same one
    bounded_counted (unit l r) = hexes l
    bounded_counted (char c r) = sized 1 s.high (omega arith)
