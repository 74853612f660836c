-- Which numbers are too wide.
--     narrow_is, narrow_written    a number that is not is as many billionths as is computed, and can be written
--     wide_not                     one that is cannot be written
-- Assumes nothing.
use mathlib.Core.Bool.{Bool, true, false, not, ◌&&◌}
use mathlib.Core.Logic.{◌⊎◌, inl, inr, ⊎_elim}
use mathlib.Core.Path.{◌≡◌, refl, sym, ap, ◌∙◌}
use Prim.Native.Nat.{ℕ, ◌+◌, ◌-◌, ◌*◌, ◌%◌, ◌^◌, ◌≤◌, ◌<◌}
use native.Mathlib.Nat.{eq-zero-or-pos, mul_assoc, zero-mul, mul-one, eq_of_mul-eq-mul_right, one-le-pow, pow-le-pow_right, mul-le-mul_left, mul-le-mul_right}
use native.Mathlib.Omega.{arith}
use borrow.Author.Tests.{eq-eqb, ne_eqb, eqb-true, leb-true, le-leb}
use lib.Dec.{eqb, leb, lit<}
use lib.IntN.{ℤ, nat_abs}
use lib.Pow.{pow-add}
use Rattle.laws.proofs.Tests.{le_or_lt, left, right, either}
use Rattle.decimal.specs.Value.{scale_max, with_sign}
use Rattle.decimal.proofs.Sizes.{sign_off}
use Rattle.jsontext.specs.Number.{worth, Exact, Is, Written, Trimmed, trim, digits_room, room_for, moved_by, wide, billionths_of}
use Rattle.jsontext.proofs.Trimming.{trim_worth, trim_tight}

ten : (k : ℕ) → 0 < 10 ^ k
ten k = one-le-pow k 10 (lit< tt)

-- ten to a sum, before a factor
pub split_ten : (k a b c : ℕ) → c ≡ a + b → k * 10 ^ c ≡ k * 10 ^ a * 10 ^ b
split_ten k a b c e = rw (e, pow-add 10 a b) (sym (mul_assoc k (10 ^ a) (10 ^ b)))

module _ (most : ℕ) (e : Exact) where
  abbrev pub t : Trimmed
  t = trim e.digits

  abbrev pub kept : ℕ
  kept = t.kept

  abbrev pub up : ℕ
  up = e.up + t.zeros

  abbrev pub size : ℕ
  size = moved_by kept up e.down

  whole : worth e.digits * 10 ^ (scale_max + e.up) ≡ kept * 10 ^ (up + scale_max)
  whole = rw (← trim_worth e.digits) (sym (split_ten kept t.zeros (scale_max + e.up) (up + scale_max) (omega arith)))

  module _ (narrow : wide most e ≡ false) where
    room : room_for most kept up e.down ≡ true
    unfolding wide
    room = not_not (room_for most kept up e.down) narrow
      where
        not_not : (b : Bool) → not b ≡ false → b ≡ true
        not_not true h = refl
        not_not false h = sym h

    pub value_is : billionths_of most e ≡ with_sign e.below size
    unfolding billionths_of
    value_is = rw narrow

    pub size_is : nat_abs (billionths_of most e) ≡ size
    size_is = ap nat_abs value_is ∙ sign_off e.below size

    pub no_digits : kept ≡ 0 → size ≡ 0
    no_digits z = rw (eq-eqb kept 0 z)

    pub some_digits : (kept ≡ 0 → ⊥) → size ≡ kept * 10 ^ (up + scale_max - e.down)
    some_digits z = rw (ne_eqb kept 0 z)

    pub record Room : Type 0 where
      pub low : e.down ≤ up + scale_max
      pub fits : kept * 10 ^ (up - e.down) ≤ most

    pub room_facts : (kept ≡ 0 → ⊥) → Room
    room_facts z =
        let b1 = leb e.down (up + scale_max) in
        let b2 = leb up (e.down + digits_room) in
        let b3 = leb (kept * 10 ^ (up - e.down)) most in
        let all : (b1 && (b2 && b3)) ≡ true = ⊎_elim (λ (h : eqb kept 0 ≡ true). absurd (z (eqb-true kept 0 h))) (λ h. h) (either (eqb kept 0) (b1 && (b2 && b3)) room) in
        record {
          low = leb-true e.down (up + scale_max) (left b1 (b2 && b3) all);
          fits = leb-true (kept * 10 ^ (up - e.down)) most (right b2 b3 (right b1 (b2 && b3) all));
        }

    by_kept : {A : Type 0} → (kept ≡ 0 → A) → ((kept ≡ 0 → ⊥) → A) → A
    by_kept f g = ⊎_elim f (λ (p : 0 < kept). g (λ (z : kept ≡ 0). omega arith)) (eq-zero-or-pos kept)

    pub narrow_is : Is e (billionths_of most e)
    narrow_is =
        record {
          size = ap (λ (n : ℕ). n * 10 ^ e.down) size_is ∙ by_kept
              (λ (z : kept ≡ 0). rw (no_digits z, whole, z, zero-mul (10 ^ e.down), zero-mul (10 ^ (up + scale_max))))
              (λ (z : kept ≡ 0 → ⊥).
              let r = room_facts z in
              let low = r.low in
              rw (some_digits z, whole) (sym (split_ten kept (up + scale_max - e.down) e.down (up + scale_max) (omega arith))));
          sign = value_is ∙ ap (with_sign e.below) (sym size_is);
        }

    pub narrow_written : Written most (billionths_of most e)
    narrow_written =
        by_kept
        (λ (z : kept ≡ 0). record { digits = 0; scale = 0; few = omega arith; low = omega arith; same = size_is ∙ no_digits z ∙ sym (zero-mul (10 ^ scale_max)) })
        (λ (z : kept ≡ 0 → ⊥).
        let r = room_facts z in
        let low = r.low in
        let fits = r.fits in
        ⊎_elim
        (λ (l : e.down ≤ up).
        record {
          digits = kept * 10 ^ (up - e.down);
          scale = 0;
          few = fits;
          low = omega arith;
          same = size_is ∙ some_digits z ∙ split_ten kept (up - e.down) scale_max (up + scale_max - e.down) (omega arith);
        })
        (λ (l : up < e.down).
        let none : up - e.down ≡ 0 = omega arith in
        let whole_kept : kept * 10 ^ (up - e.down) ≡ kept = rw none (mul-one kept) in
        let k : scale_max - (e.down - up) ≡ up + scale_max - e.down = omega arith in
        record {
          digits = kept;
          scale = e.down - up;
          few = omega (arith, whole_kept);
          low = omega arith;
          same = size_is ∙ some_digits z ∙ ap (λ (x : ℕ). kept * 10 ^ x) (sym k);
        })
        (le_or_lt e.down up))

-- ---- a number that is too wide

-- of equal numbers with tens at their ends, the one that ends in no zero of its own has all the tens of the other
module _ (d a k b : ℕ) (last : k % 10 ≡ 0 → ⊥) (same : d * 10 ^ a ≡ k * 10 ^ b) where
  pub fewer_tens : a ≤ b
  fewer_tens =
      ⊎_elim
      (λ (l : a ≤ b). l)
      (λ (l : b < a).
      let e : d * 10 ^ a ≡ d * 10 ^ (a - b - 1) * 10 * 10 ^ b =
      split_ten d (a - b - 1 + 1) b a (omega arith) ∙ ap (λ (x : ℕ). x * 10 ^ b) (split_ten d (a - b - 1) 1 (a - b - 1 + 1) refl) in
      let z : d * 10 ^ (a - b - 1) * 10 ≡ k = eq_of_mul-eq-mul_right (10 ^ b) (ten b) (d * 10 ^ (a - b - 1) * 10) k (sym e ∙ same) in
      absurd (last (ends (d * 10 ^ (a - b - 1)) k z)))
      (le_or_lt a b)
    where
      ends : (x y : ℕ) → x * 10 ≡ y → y % 10 ≡ 0
      ends x y z = omega arith

  pub rest_of_tens : d ≡ k * 10 ^ (b - a)
  rest_of_tens =
      let l = fewer_tens in
      eq_of_mul-eq-mul_right (10 ^ a) (ten a) d (k * 10 ^ (b - a)) (same ∙ split_ten k (b - a) a b (omega arith))

module _ (most : ℕ) (e : Exact) (small : most < 10 ^ (digits_room + 1)) (too_wide : wide most e ≡ true) where
  no_room : room_for most (kept most e) (up most e) e.down ≡ false
  unfolding wide
  no_room = not_yes (room_for most (kept most e) (up most e) e.down) too_wide
    where
      not_yes : (b : Bool) → not b ≡ true → b ≡ false
      not_yes true h = sym h
      not_yes false h = refl

  pub wide_not : (z : ℤ) → Is e z → Written most z → ⊥
  wide_not z is w =
      let k : ℕ = kept most e in
      let u : ℕ = up most e in
      let n : ℕ = w.digits in
      let tight = trim_tight e.digits in
      ⊎_elim
      (λ (zero_kept : k ≡ 0). clash (some_room (inl zero_kept)))
      (λ (last : k % 10 ≡ 0 → ⊥).
      let a : ℕ = scale_max - w.scale + e.down in
      let b : ℕ = u + scale_max in
      let low = w.low in
      let few = w.few in
      let same : n * 10 ^ a ≡ k * 10 ^ b =
      split_ten n (scale_max - w.scale) e.down a refl ∙ ap (λ (x : ℕ). x * 10 ^ e.down) (sym w.same) ∙ is.size ∙ whole most e in
      let tens = fewer_tens n a k b last same in
      let rest = rest_of_tens n a k b last same in
      let grows : 10 ^ (u - e.down) ≤ 10 ^ (b - a) = pow-le-pow_right (lit< tt) (omega arith) in
      let more : k * 10 ^ (u - e.down) ≤ k * 10 ^ (b - a) = mul-le-mul_left k grows in
      clash (some_room (inr (omega arith, omega arith))))
      tight.last
    where
      clash : room_for most (kept most e) (up most e) e.down ≡ true → ⊥
      clash yes_room = let z : ◌≡◌ {A = ℕ} 0 1 = cc (no_room, yes_room) in omega arith

      -- the exponent has few digits where the number has
      short : e.down ≤ up most e + scale_max → kept most e * 10 ^ (up most e - e.down) ≤ most → (kept most e ≡ 0 → ⊥) → up most e ≤ e.down + digits_room
      short l h z =
          ⊎_elim
          (λ (g : up most e ≤ e.down + digits_room). g)
          (λ (g : e.down + digits_room < up most e).
          let longer : digits_room + 1 ≤ up most e - e.down = omega arith in
          let grows : 10 ^ (digits_room + 1) ≤ 10 ^ (up most e - e.down) = pow-le-pow_right (lit< tt) longer in
          let some : 1 ≤ kept most e = ⊎_elim (λ (y : kept most e ≡ 0). absurd (z y)) (λ (p : 0 < kept most e). p) (eq-zero-or-pos (kept most e)) in
          let one : 1 * 10 ^ (up most e - e.down) ≤ kept most e * 10 ^ (up most e - e.down) = mul-le-mul_right (10 ^ (up most e - e.down)) some in
          absurd (omega arith))
          (le_or_lt (up most e) (e.down + digits_room))

      some_room : (kept most e ≡ 0) ⊎ ((e.down ≤ up most e + scale_max) × (kept most e * 10 ^ (up most e - e.down) ≤ most)) → room_for most (kept most e) (up most e) e.down ≡ true
      some_room (inl z) = rw (eq-eqb (kept most e) 0 z)
      some_room (inr (l, h)) =
          ⊎_elim
          (λ (z : kept most e ≡ 0). rw (eq-eqb (kept most e) 0 z))
          (λ (p : 0 < kept most e).
          let z : kept most e ≡ 0 → ⊥ = λ y. omega arith in
          rw (ne_eqb (kept most e) 0 z, le-leb e.down (up most e + scale_max) l, le-leb (up most e) (e.down + digits_room) (short l h z), le-leb (kept most e * 10 ^ (up most e - e.down)) most h))
          (eq-zero-or-pos (kept most e))
