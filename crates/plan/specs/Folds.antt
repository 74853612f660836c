-- A clause as a loop over its steps takes it: step i aims at a pair, and applies it or not. What the first n steps come to.
-- Assumes nothing.
use Rattle.std.specs.Prelude.{ℕ, zero, suc, Bool, true, not, ◌&&◌, ◌||◌, cond, List, [], ◌∷◌, ◌++◌, eqb}
use Rattle.meaning.specs.Rules.{Pair, Marks, Result, Way, whole, cut}
use Rattle.areas.specs.Cells.{plus}

-- the pairs that they apply, in order
unfoldable pub picked : (ℕ → Bool) → (ℕ → Pair) → ℕ → List Pair
picked go aim zero = []
picked go aim (suc i) = picked go aim i ++ cond (go i) (aim i ∷ []) []

-- what is carried from one to the next: a step that goes at what is carried moves it by the verdict of its pair
unfoldable pub tally_by : (Pair → Result) → (ℕ → ℕ → Bool) → (ℕ → Pair) → (ℕ → ℕ → Bool → ℕ) → ℕ → ℕ
tally_by sub go aim move zero = 0
tally_by sub go aim move (suc i) = let t = tally_by sub go aim move i in cond (go i t) (move i t (sub (aim i)).holds) t

-- of how many of them the pair holds or nothing is applied
unfoldable pub hits_by : (Pair → Result) → (ℕ → Bool) → (ℕ → Pair) → ℕ → ℕ
hits_by sub go aim zero = 0
hits_by sub go aim (suc i) = plus (hits_by sub go aim i) (not (go i) || (sub (aim i)).holds)

-- the marks that a pair q gives to a pair p that applies it: its own, if it is of the same row, or else its row
unfoldable pub gives : (Pair → Result) → Pair → Pair → Marks
gives sub p q k = cond (eqb q.row p.row) ((sub q).marks k) (eqb k q.row)

-- the marks after them, where κ were before; where it is not said to keep them all, a pair that fails gives none
unfoldable pub marks_by : (Pair → Result) → Pair → Bool → (ℕ → Bool) → (ℕ → Pair) → Marks → ℕ → Marks
marks_by sub p keeps go aim κ zero = κ
marks_by sub p keeps go aim κ (suc i) = λ k. marks_by sub p keeps go aim κ i k || (go i && ((keeps || (sub (aim i)).holds) && gives sub p (aim i) k))

-- the pairs settled after them, where `done` were before
unfoldable pub done_by : (Pair → List Pair → List Pair) → (ℕ → Bool) → (ℕ → Pair) → List Pair → ℕ → List Pair
done_by settle go aim done zero = done
done_by settle go aim done (suc i) = cond (go i) (settle (aim i) (done_by settle go aim done i)) (done_by settle go aim done i)
