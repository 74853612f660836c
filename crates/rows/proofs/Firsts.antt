-- The first rows of many, by what was shown of each.
--     rows_none    of no rows, anything
--     rows_all     of all rows, what holds of any
--     rows_more    one row more
--     rows_so      what follows of each row
--     rows_both    fewer rows, of which more is known
-- Assumes nothing.
use Prim.Native.Nat.{ℕ, ◌+◌, ◌<◌}
use native.Mathlib.Omega.{arith}
use borrow.Author.Count.{below_none, below_more}
use Rattle.rows.specs.Firsts.{FirstRows}

module _ (So : ℕ → Type 0) (row n : ℕ) where
  pub rows_none : FirstRows row n 0 So
  rows_none = record { within = omega arith; each = below_none (λ (k : ℕ). So (row + k)) }

  pub rows_all : ((j : ℕ) → So j) → FirstRows row n n So
  rows_all so = record { within = omega arith; each = λ (k : ℕ) l. so (row + k) }

  pub rows_more : (k : ℕ) → FirstRows row n k So → k < n → So (row + k) → FirstRows row n (k + 1) So
  rows_more k firsts low here = record { within = omega arith; each = below_more (λ (i : ℕ). So (row + i)) k firsts.each here }

  pub rows_so : {Then : ℕ → Type 0} {r : ℕ} → FirstRows row n r So → ((j : ℕ) → So j → Then j) → FirstRows row n r Then
  rows_so firsts so = record { within = firsts.within; each = λ (k : ℕ) l. so (row + k) (firsts.each k l) }

  pub rows_both : {Also Then : ℕ → Type 0} {left r : ℕ} → FirstRows row n left So → FirstRows row left r Also → ((j : ℕ) → So j → Also j → Then j) → FirstRows row n r Then
  rows_both {left} {r} firsts fewer both =
      record {
        within = omega (arith, firsts.within, fewer.within);
        each = λ (k : ℕ) (l : k < r). both (row + k) (firsts.each k (omega (arith, fewer.within))) (fewer.each k l);
      }
