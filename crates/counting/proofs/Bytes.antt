-- A rule of every number below n, proved by one test that antt computes.
-- Assumes nothing.
use mathlib.Core.Path.{◌≡◌, subst, sym}
use mathlib.Core.Bool.{Bool, true, false, cond}
use Prim.Native.Nat.{ℕ, zero, suc, ◌-◌, ◌<◌}
use native.Mathlib.Nat.{le_of_suc-le-suc, not-suc-le-zero, eq-or-lt_of_le}
use mathlib.Core.Logic.{◌⊎◌, ⊎_elim}
use lib.Dec.{T, eqb, eqb→eq}
use lib.Count.{count_leading_zeros}
use Rattle.counting.specs.Counting.{lead_length}

abbrev pub both : Bool → Bool → Bool
both true b = b
both false b = false

both_left : (a b : Bool) → T (both a b) → T a
both_left true b t = tt
both_left false b t = t

both_right : (a b : Bool) → T (both a b) → T b
both_right true b t = t
both_right false b t = absurd t

split : (k n : ℕ) → k < suc n → (k ≡ n) ⊎ (k < n)
split k n h = eq-or-lt_of_le (le_of_suc-le-suc h)

-- the test f passes at each number below n
abbrev pub all_below : (ℕ → Bool) → ℕ → Bool
all_below f zero = true
all_below f (suc n) = both (f n) (all_below f n)

pub below : (f : ℕ → Bool) (n : ℕ) → T (all_below f n) → (k : ℕ) → k < n → T (f k)
below f zero t k h = absurd (not-suc-le-zero h)
below f (suc n) t k h =
    ⊎_elim
    (λ (e : k ≡ n). subst (λ (m : ℕ). T (f m)) (sym e) (both_left (f n) (all_below f n) t))
    (λ (l : k < n). below f n (both_right (f n) (all_below f n) t) k l)
    (split k n h)

-- what the code computes of a byte
abbrev pub coded : ℕ → ℕ
coded b = cond (eqb (count_leading_zeros 8 (255 - b)) 0) 1 (count_leading_zeros 8 (255 - b))

right : ℕ → Bool
right b = eqb (coded b) (lead_length b)

pub lead_law : (b : ℕ) → b < 256 → coded b ≡ lead_length b
unfolding right lead_length count_leading_zeros
lead_law b h = eqb→eq (coded b) (lead_length b) (below right 256 tt b h)
