-- The levels of the rows: the equations that a reader expects of `level`, and the table that a loop fills with them from the front.
--     level_root, level_under    the root is at level 1, a row one level below an owner that stands before it
--     filled                     the table once n rows were passed
--     table_level, table_more    the next row's level, and the table with it
-- Assumes nothing.
use mathlib.Core.List.{List, [], ◌∷◌, ◌++◌, append_assoc}
use mathlib.Core.Logic.{⊎_elim}
use mathlib.Core.Path.{◌≡◌, refl, sym, ap, ◌∙◌}
use Prim.Native.Nat.{ℕ, zero, suc, ◌+◌, ◌-◌, ◌≤◌, ◌<◌}
use native.Mathlib.Nat.{eq-or-lt_of_le}
use native.Mathlib.Numerals.{add-one}
use native.Mathlib.Omega.{arith}
use lib.ListN.{length, get_or, set, replicate, length-append, get_or-replicate, get_or-append, get_or-eq_default}
use lib.Seq.{get_or_at, set_at, get_or-append-add}
use Rattle.laws.proofs.Tests.{le_or_lt}
use Rattle.sheet.specs.Doc.{levels, level}

module _ (owner : ℕ → ℕ) where
  pub levels_long : (n : ℕ) → length (levels owner n) ≡ n
  unfolding levels
  levels_long zero = refl
  levels_long (suc n) = simp (length-append, levels_long n) (add-one n)

  -- the level of row n, from those before it
  pub level_next : (n : ℕ) → level owner n ≡ get_or (levels owner n) (owner n) 0 + 1
  unfolding level levels
  level_next n = get_or_at (levels owner n) (get_or (levels owner n) (owner n) 0 + 1) [] 0 n (levels_long n)

  pub levels_at : (n j : ℕ) → j < n → get_or (levels owner n) j 0 ≡ level owner j
  unfolding levels
  levels_at zero j h = absurd (nothing h)
    where
      nothing : j < 0 → ⊥
      nothing l = omega arith
  levels_at (suc n) j h =
      ⊎_elim
      (λ (e : j ≡ n). rw e (get_or_at (levels owner n) (get_or (levels owner n) (owner n) 0 + 1) [] 0 n (levels_long n) ∙ sym (level_next n)))
      (λ (l : j < n). get_or-append (levels owner n) ((get_or (levels owner n) (owner n) 0 + 1) ∷ []) 0 j (rw (levels_long n) l) ∙ levels_at n j l)
      (eq-or-lt_of_le (less_or_same h))
    where
      less_or_same : j < suc n → j ≤ n
      less_or_same l = omega arith

  pub level_root : level owner 0 ≡ 1
  unfolding levels
  level_root = level_next 0

  pub level_under : (j : ℕ) → owner j < j → level owner j ≡ level owner (owner j) + 1
  level_under j h = level_next j ∙ ap (λ (l : ℕ). l + 1) (levels_at j (owner j) h)

  -- no level of the first n rows is above n
  pub levels_small : (n j : ℕ) → get_or (levels owner n) j 0 ≤ n
  unfolding levels
  levels_small zero j = omega arith
  levels_small (suc n) j =
      ⊎_elim
      (λ (g : n ≤ j).
      ⊎_elim
      (λ (e : n ≡ j). rw (← e) (rw (get_or_at (levels owner n) (get_or (levels owner n) (owner n) 0 + 1) [] 0 n (levels_long n)) (omega (arith, levels_small n (owner n)))))
      (λ (l : n < j). rw (get_or-eq_default (levels owner n ++ (get_or (levels owner n) (owner n) 0 + 1) ∷ []) 0 {n = j} (simp (length-append, levels_long n) (omega arith))) (omega arith))
      (eq-or-lt_of_le g))
      (λ (l : j < n). rw (get_or-append (levels owner n) ((get_or (levels owner n) (owner n) 0 + 1) ∷ []) 0 j (rw (levels_long n) l)) (omega (arith, levels_small n j)))
      (le_or_lt n j)

  -- the table of `size` places once n rows were passed
  abbrev pub filled : ℕ → ℕ → List ℕ
  filled size n = levels owner n ++ replicate (size - n) 0

  -- a place that was not passed holds 0, as if the list ended before it
  pub filled_at : (size n j : ℕ) → n ≤ size → j < size → get_or (filled size n) j 0 ≡ get_or (levels owner n) j 0
  filled_at size n j h g =
      ⊎_elim
      (λ (l : n ≤ j). past l)
      (λ (l : j < n). get_or-append (levels owner n) (replicate (size - n) 0) 0 j (rw (levels_long n) l))
      (le_or_lt n j)
    where
      past : n ≤ j → get_or (filled size n) j 0 ≡ get_or (levels owner n) j 0
      past l =
          let e : j ≡ length (levels owner n) + (j - n) = omega (arith, levels_long n) in
          let r : j - n < size - n = omega arith in
          ap (λ (k : ℕ). get_or (filled size n) k 0) e
          ∙ get_or-append-add (levels owner n) (replicate (size - n) 0) (j - n) 0
          ∙ get_or-replicate (size - n) (j - n) 0 0 r
          ∙ sym (get_or-eq_default (levels owner n) 0 {n = j} (rw (levels_long n) l))

  pub filled_more : (size n : ℕ) → n < size → set (filled size n) n (get_or (levels owner n) (owner n) 0 + 1) ≡ filled size (n + 1)
  unfolding levels
  filled_more size n h =
      let e : size - n ≡ suc (size - suc n) = omega arith in
      rw (add-one n, e)
      (set_at (levels owner n) 0 (replicate (size - suc n) 0) (get_or (levels owner n) (owner n) 0 + 1) n (levels_long n)
      ∙ sym (append_assoc (levels owner n) ((get_or (levels owner n) (owner n) 0 + 1) ∷ []) (replicate (size - suc n) 0)))

-- the next row's level, read from the table at its owner's place i, and the table with it at place k
module _ (owner : ℕ → ℕ) (size n i k : ℕ) (table : List ℕ) (full : table ≡ filled owner size n) (h : n < size) (o : owner n < size) (at_owner : i ≡ owner n) (at_row : k ≡ n) where
  here : get_or table i 0 ≡ get_or (levels owner n) (owner n) 0
  here = rw (full, at_owner) (filled_at owner size n (owner n) (omega arith) o)

  pub table_small : get_or table i 0 ≤ n
  table_small = rw here (levels_small owner n (owner n))

  pub table_level : get_or table i 0 + 1 ≡ level owner n
  table_level = ap (λ (l : ℕ). l + 1) here ∙ sym (level_next owner n)

  pub table_more : set table k (get_or table i 0 + 1) ≡ filled owner size (n + 1)
  table_more = rw (here, at_row, full) (filled_more owner size n h)
