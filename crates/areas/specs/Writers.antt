-- The two writers of cells (paper 01, 'Rules of judgement', the last paragraph): one settles a pair, the other writes marks. What they ask,
-- and what they leave.
-- Assumes nothing.
use Rattle.std.specs.Prelude.{Bool, ◌||◌, List, ◌≡◌, ℕ, ◌+◌, ◌≤◌, ◌<◌, length, get_or, set}
use Rattle.meaning.specs.Rules.{Marks}
use Rattle.areas.specs.Cells.{cell_of, verd, settled_as, column}

-- ---- the verdict

-- before: the pair of cell k is not settled
pub record Open (cells : List ℕ) (count k : ℕ) : Type 0 where
  pub in_cells : k < length cells
  pub unsettled : verd (get_or cells k 0) ≡ 0
  pub narrow : k < 4294967296
  pub few : count < 4294967296

-- after: its cell has the verdict, its word is the list's next if the list has a place for it, and all else is as it was
pub record Shut (cells₀ list₀ : List ℕ) (count k : ℕ) (ok : Bool) (cells list : List ℕ) (r : ℕ) : Type 0 where
  pub cell : cells ≡ set cells₀ k (get_or cells₀ k 0 + settled_as ok)
  pub entry : list ≡ set list₀ count k
  pub one_more : r ≡ count + 1

-- ---- the marks

-- before: the `many` rows from `first` on have cells, in column s and in the column that marks are taken from
pub record Writes (m first many s from : ℕ) (cells : List ℕ) : Type 0 where
  pub rule_in : s < m
  pub from_in : from < m
  pub rows_in : (k : ℕ) → first ≤ k → k < first + many → cell_of m k m ≤ length cells

-- after: of these rows those of `to` are marked in column s. No verdict has changed, and no other mark
pub record Marked (m first many s : ℕ) (to : Marks) (cells₀ cells : List ℕ) : Type 0 where
  pub len : length cells ≡ length cells₀
  pub verdicts : (i : ℕ) → verd (get_or cells i 0) ≡ verd (get_or cells₀ i 0)
  pub small : ((i : ℕ) → get_or cells₀ i 0 < 8) → (i : ℕ) → get_or cells i 0 < 8
  pub here : (k : ℕ) → first ≤ k → k < first + many → column m cells s k ≡ to k
  pub there : (k t : ℕ) → t < m → (t ≡ s → first ≤ k → k < first + many → ⊥) → get_or cells (cell_of m k t) 0 ≡ get_or cells₀ (cell_of m k t) 0

-- the marks of two columns together
unfoldable pub merged : ℕ → List ℕ → ℕ → ℕ → Marks
merged m cells s from k = column m cells s k || column m cells from k
