-- The cells, one byte for each pair of a row and a schema (paper 01, 'What is left in the areas'). A cell is 0 while its pair is not settled,
-- then 1 if it held and 2 if it failed; and 4 is added if the row is marked in the schema's column. While a pair is judged, its marks so far
-- stand in its schema's column, in the cells of the children of its row.
-- Assumes nothing.
use Rattle.std.specs.Prelude.{Bool, cond, List, ◌≡◌, ℕ, ◌+◌, ◌*◌, ◌%◌, ltb, length, get_or}
use Rattle.sheet.specs.declared.record.Pair as Declared
use Rattle.meaning.specs.Lists.{range, keep}
use Rattle.meaning.specs.Rules.{Pair, Marks}

-- the number of a pair's cell, among m schemas
abbrev pub cell_of : ℕ → ℕ → ℕ → ℕ
cell_of m row rule = row * m + rule

-- the pair that is meant
abbrev pub pair_is : Declared.Pair → Pair
pair_is p = record { row = p.row.0; rule = p.rule.0 }

-- the cell of a pair, which is also its word in the list
abbrev pub cell_at : ℕ → Pair → ℕ
cell_at m p = cell_of m p.row p.rule

-- ---- one cell

-- its verdict: 0 not settled, 1 held, 2 failed
unfoldable pub verd : ℕ → ℕ
verd x = x % 4

-- the cells show the pair unsettled
unfoldable pub Unsettled : ℕ → Pair → List ℕ → Type 0
Unsettled m p cells = verd (get_or cells (cell_at m p) 0) ≡ 0

-- whether it is marked
unfoldable pub bit : ℕ → Bool
bit x = ltb 3 x

-- what a mark adds to a verdict
unfoldable pub four : Bool → ℕ
four marked = cond marked 4 0

-- the verdict of a pair that is settled
unfoldable pub settled_as : Bool → ℕ
settled_as holds = cond holds 1 2

-- ---- all of them

-- the rows that are marked in column s
abbrev pub column : ℕ → List ℕ → ℕ → Marks
column m cells s k = bit (get_or cells (cell_of m k s) 0)

-- how many of the `many` rows from `first` on are marked in column 0
unfoldable pub marked_by : ℕ → List ℕ → ℕ → ℕ → ℕ
marked_by m cells first many = length (keep (column m cells 0) (range first many))

-- every cell is 0; past the last there is nothing but zeros either
pub record Cleared (cells₀ cells : List ℕ) : Type 0 where
  pub len : length cells ≡ length cells₀
  pub blank : (i : ℕ) → get_or cells i 0 ≡ 0

-- n, and one more if b
unfoldable pub plus : ℕ → Bool → ℕ
plus n b = cond b (n + 1) n
