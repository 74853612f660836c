-- Digits without the zeros at their end.
--     trim_worth    with as many zeros they are the same number
--     trim_tight    and none is left, but of 0
-- Assumes nothing.
use mathlib.Core.List.{List, [], ◌∷◌}
use mathlib.Core.Logic.{◌⊎◌, inl, inr, ⊎_elim}
use mathlib.Core.Path.{◌≡◌, refl, sym, ap, ◌∙◌}
use Prim.Native.Nat.{ℕ, ◌+◌, ◌-◌, ◌*◌, ◌%◌, ◌^◌, ◌<◌}
use native.Mathlib.Nat.{eq-zero-or-pos, mul_assoc, zero-mul, mul-one}
use native.Mathlib.Omega.{arith}
use borrow.Author.Tests.{eq-eqb, ne_eqb}
use lib.Pow.{pow-add}
use Rattle.jsontext.specs.Text.{Digit}
use Rattle.jsontext.specs.Number.{worth_after, worth, Trimmed, trim_more, trim_after, trim}

-- the number that the digits so far are
abbrev sofar : Trimmed → ℕ
sofar t = t.kept * 10 ^ t.zeros

-- no zero is left at the end of what is kept
pub record Tight (t : Trimmed) : Type 0 where
  pub no_zeros : t.kept ≡ 0 → t.zeros ≡ 0
  pub last : (t.kept ≡ 0) ⊎ (t.kept % 10 ≡ 0 → ⊥)

ten_more : (k z : ℕ) → k * 10 ^ (z + 1) ≡ k * 10 ^ z * 10
ten_more k z = rw (pow-add 10 z 1) (sym (mul_assoc k (10 ^ z) 10))

pub by_zero : (n : ℕ) → (n ≡ 0) ⊎ (n ≡ 0 → ⊥)
by_zero n = ⊎_elim (λ (e : n ≡ 0). inl e) (λ (p : 0 < n). inr (λ (e : n ≡ 0). omega arith)) (eq-zero-or-pos n)

module _ (t : Trimmed) (d : ℕ) where
  pub more_zero : d ≡ 0 → t.kept ≡ 0 → trim_more t d ≡ record { kept = t.kept; zeros = 0 }
  unfolding trim_more
  more_zero e k = rw (eq-eqb (d) 0 e, eq-eqb t.kept 0 k)

  pub more_tail : d ≡ 0 → (t.kept ≡ 0 → ⊥) → trim_more t d ≡ record { kept = t.kept; zeros = t.zeros + 1 }
  unfolding trim_more
  more_tail e k = rw (eq-eqb (d) 0 e, ne_eqb t.kept 0 k)

  pub more_digit : (d ≡ 0 → ⊥) → trim_more t d ≡ record { kept = t.kept * 10 ^ (t.zeros + 1) + d; zeros = 0 }
  unfolding trim_more
  more_digit e = rw (ne_eqb (d) 0 e)

  step_worth : sofar (trim_more t d) ≡ sofar t * 10 + d
  step_worth =
      ⊎_elim
      (λ (e : d ≡ 0).
      ⊎_elim
      (λ (k : t.kept ≡ 0). rw (more_zero e k, k, zero-mul (10 ^ t.zeros)) (omega arith))
      (λ (k : t.kept ≡ 0 → ⊥). rw (more_tail e k) (omega (arith, ten_more t.kept t.zeros)))
      (by_zero t.kept))
      (λ (e : d ≡ 0 → ⊥). rw (more_digit e, mul-one (t.kept * 10 ^ (t.zeros + 1) + d)) (omega (arith, ten_more t.kept t.zeros)))
      (by_zero (d))

  step_tight : d < 10 → Tight t → Tight (trim_more t d)
  step_tight low h =
      ⊎_elim
      (λ (e : d ≡ 0).
      ⊎_elim
      (λ (k : t.kept ≡ 0). rw (more_zero e k) (record { no_zeros = λ z. refl; last = inl k }))
      (λ (k : t.kept ≡ 0 → ⊥). rw (more_tail e k) (record { no_zeros = λ z. absurd (k z); last = h.last }))
      (by_zero t.kept))
      (λ (e : d ≡ 0 → ⊥).
      let more = ten_more t.kept t.zeros in
      rw (more_digit e)
      (record {
        no_zeros = λ z. refl;
        last = inr (λ (z : (t.kept * 10 ^ (t.zeros + 1) + d) % 10 ≡ 0). e (ends (t.kept * 10 ^ t.zeros) (t.kept * 10 ^ (t.zeros + 1)) (d) more low z));
      }))
      (by_zero (d))
    where
      ends : (q p w : ℕ) → p ≡ q * 10 → w < 10 → (p + w) % 10 ≡ 0 → w ≡ 0
      ends q p w e l z = omega arith

worth_after_lem : (t : Trimmed) (ds : List Digit) → sofar (trim_after t ds) ≡ worth_after (sofar t) ds
unfolding trim_after worth_after
worth_after_lem t [] = refl
worth_after_lem t (d ∷ ds) = worth_after_lem (trim_more t d.worth) ds ∙ ap (λ (m : ℕ). worth_after m ds) (step_worth t d.worth)

tight_after : (t : Trimmed) (ds : List Digit) → Tight t → Tight (trim_after t ds)
unfolding trim_after
tight_after t [] h = h
tight_after t (d ∷ ds) h = tight_after (trim_more t d.worth) ds (step_tight t d.worth d.small h)

pub trim_worth : (ds : List Digit) → (trim ds).kept * 10 ^ (trim ds).zeros ≡ worth ds
trim_worth ds = worth_after_lem (record { kept = 0; zeros = 0 }) ds

pub trim_tight : (ds : List Digit) → Tight (trim ds)
trim_tight ds = tight_after (record { kept = 0; zeros = 0 }) ds (record { no_zeros = λ z. refl; last = inl refl })
