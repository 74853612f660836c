-- Things that take other things in order, without gap: schemas their clauses, list clauses their entries.
-- Thing i takes the `count i` things from `first i` on, if its flag says that it takes any; it starts where those before it say that it does.
--     starts_rise     later things start later
--     taker_is        a thing in i's range is taken by i
--     taken_by_none   one past them all is taken by none
-- Assumes nothing.
use mathlib.Core.Bool.{Bool, true, false, cond, ◌&&◌}
use mathlib.Core.Logic.{⊎_elim}
use mathlib.Core.Path.{◌≡◌, sym, ◌∙◌}
use Prim.Native.Nat.{ℕ, zero, suc, ◌+◌, ◌≤◌, ◌<◌}
use native.Mathlib.Nat.{eq-or-lt_of_le}
use native.Mathlib.Omega.{arith}
use borrow.Author.Tests.{le-leb, lt-ltb, le-ltb}
use Rattle.laws.specs.Lowest.{lowest}
use Rattle.laws.proofs.Tests.{decide}
use Rattle.laws.proofs.Searches.{lowest_is}
use Rattle.sheet.specs.Faults.{in_range}

pub record Runs (n : ℕ) (flag : ℕ → Bool) (first count start : ℕ → ℕ) : Type 0 where
  pub step : (i : ℕ) → i < n → start (suc i) ≡ cond (flag i) (first i + count i) (start i)
  pub at_start : (i : ℕ) → i < n → flag i ≡ true → first i ≡ start i

module _ (n : ℕ) (flag : ℕ → Bool) (first count start : ℕ → ℕ) (r : Runs n flag first count start) where
  -- thing i takes x
  abbrev pub takes : ℕ → ℕ → Bool
  takes x i = flag i && in_range (first i) (count i) x

  ends : (i : ℕ) → i < n → flag i ≡ true → start (suc i) ≡ first i + count i
  ends i h t = r.step i h ∙ rw t

  goes_on : (i : ℕ) → i < n → flag i ≡ false → start (suc i) ≡ start i
  goes_on i h t = r.step i h ∙ rw t

  rise : (i : ℕ) → i < n → start i ≤ start (suc i)
  rise i h =
      ⊎_elim
      (λ (t : flag i ≡ true). omega (arith, ends i h t, r.at_start i h t))
      (λ (t : flag i ≡ false). omega (arith, goes_on i h t))
      (decide (flag i))

  pub starts_rise : (i j : ℕ) → i ≤ j → j ≤ n → start i ≤ start j
  starts_rise i zero h g = let e : i ≡ 0 = omega arith in rw e (omega arith)
  starts_rise i (suc j) h g =
      ⊎_elim
      (λ (e : i ≡ suc j). rw e (omega arith))
      (λ (l : i < suc j). omega (arith, starts_rise i j (omega arith) (omega arith), rise j (omega arith)))
      (eq-or-lt_of_le h)

  -- what i takes lies before where i + 1 starts
  not_taken : (x i : ℕ) → i < n → start (suc i) ≤ x → takes x i ≡ false
  not_taken x i h past =
      ⊎_elim
      (λ (t : flag i ≡ true).
      let e = ends i h t in
      let a = r.at_start i h t in
      rw (t, le-leb (first i) x (omega arith), le-ltb x (first i + count i) (omega arith)))
      (λ (t : flag i ≡ false). rw t)
      (decide (flag i))

  pub taker_is : (x i : ℕ) → i < n → flag i ≡ true → first i ≤ x → x < first i + count i → lowest (takes x) n ≡ i
  taker_is x i h t low high =
      sym (lowest_is (takes x) n i (omega arith)
      (λ j l. not_taken x j (omega arith) (omega (arith, starts_rise (suc j) i (omega arith) (omega arith), r.at_start i h t)))
      (λ l. rw (t, le-leb (first i) x low, lt-ltb x (first i + count i) high)))

  pub taken_by_none : (x : ℕ) → start n ≤ x → lowest (takes x) n ≡ n
  taken_by_none x past =
      sym (lowest_is (takes x) n n (omega arith)
      (λ j l. not_taken x j l (omega (arith, starts_rise (suc j) n (omega arith) (omega arith))))
      (λ (l : n < n). absurd (omega arith)))
