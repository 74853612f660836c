-- Breadth first: by level, and on a level by the place in the text.
-- Assumes nothing.
use Rattle.std.specs.Prelude.{cond, List, [], ◌∷◌, ◌++◌, ℕ, zero, suc, max, eqb}
use Rattle.breadth.specs.Forest.{Label, Head, Forest, empty, node, trees}

-- what a row is made from: a value without its children, and how many those are
pub record Entry : Type 0 where
  pub label : Label
  pub head : Head
  pub count : ℕ

-- a value starts in the text, at a level (the root's is 0)
pub record Event : Type 0 where
  pub level : ℕ
  pub entry : Entry

abbrev pub entry_of : Label → Head → Forest → Entry
entry_of l h c = record { label = l; head = h; count = trees c }

abbrev pub event : ℕ → Entry → Event
event k e = record { level = k; entry = e }

-- the values in the order of the text
unfoldable pub walk : ℕ → Forest → List Event
walk k empty = []
walk k (node l h c s) = event k (entry_of l h c) ∷ (walk (suc k) c ++ walk k s)

abbrev pub depth : Forest → ℕ
depth empty = 0
depth (node l h c s) = max (suc (depth c)) (depth s)

abbrev pub hit : ℕ → Event → List Entry
hit k x = cond (eqb x.level k) (x.entry ∷ []) []

-- those on level k, in the order of the text
unfoldable pub on : ℕ → List Event → List Entry
on k [] = []
on k (x ∷ w) = hit k x ++ on k w

-- those on the levels above level k, level by level
unfoldable pub above : ℕ → List Event → List Entry
above zero w = []
above (suc k) w = above k w ++ on k w

-- all the values, breadth first
unfoldable pub breadth : Forest → List Entry
breadth f = above (depth f) (walk 0 f)

-- ---- the same by levels: level k + 1 is the children of level k in order

abbrev pub join : Forest → Forest → Forest
join empty g = g
join (node l h c s) g = node l h c (join s g)

-- the children of a forest's trees
abbrev pub down : Forest → Forest
down empty = empty
down (node l h c s) = join c (down s)

-- the forest's trees, each without its children
abbrev pub roots : Forest → List Entry
roots empty = []
roots (node l h c s) = entry_of l h c ∷ roots s

-- the values on level k
unfoldable pub level : ℕ → Forest → List Entry
level zero f = roots f
level (suc k) f = level k (down f)

-- level by level
unfoldable pub levelwise : ℕ → Forest → List Entry
levelwise zero f = []
levelwise (suc d) f = roots f ++ levelwise d (down f)

-- ---- the same by a queue: take the first tree, and put its children behind the last

unfoldable pub queue : ℕ → Forest → List Entry
queue zero f = []
queue (suc n) empty = []
queue (suc n) (node l h c s) = entry_of l h c ∷ queue n (join s c)
