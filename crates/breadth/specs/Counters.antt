-- Two passes through the values in the order of the text, with a counter for each level: the first counts, the second writes each row
-- and each value's bytes at their place. Assumes nothing.
use Rattle.std.specs.Prelude.{cond, List, [], ◌∷◌, ℕ, zero, suc, ◌+◌, ◌-◌, eqb, length, set}
use Rattle.std.proofs.lemmas.List.Edits.{sets}
use Rattle.breadth.specs.Breadth.{Entry, Event}
use Rattle.breadth.specs.Sheet.{KindRow, row_for, bytes_of}

-- what a value adds to its level's counter: a row; its bytes
abbrev pub one : Entry → ℕ
one e = 1

abbrev pub size : Entry → ℕ
size e = length (bytes_of e)

unfoldable pub bump : (Entry → ℕ) → (ℕ → ℕ) → Event → ℕ → ℕ
bump w next x k = next k + cond (eqb x.level k) (w x.entry) 0

-- the counters after some values
unfoldable pub after : (Entry → ℕ) → (ℕ → ℕ) → List Event → ℕ → ℕ
after w next [] = next
after w next (x ∷ es) = after w (bump w next x) es

-- the first pass: each level's counter
unfoldable pub counted : (Entry → ℕ) → List Event → ℕ → ℕ
counted w es = after w (λ k. 0) es

-- where each level starts: the counters of the levels above, added up
unfoldable pub starts : (Entry → ℕ) → List Event → ℕ → ℕ
starts w es zero = 0
starts w es (suc k) = starts w es k + counted w es k

-- the owner is the row that was taken last one level higher
unfoldable pub owner_by : ℕ → (ℕ → ℕ) → ℕ
owner_by zero next = 0
owner_by (suc k) next = next k - 1

-- the row of a value that starts when the counters of rows and of bytes stand there
abbrev pub row_by : (ℕ → ℕ) → (ℕ → ℕ) → Event → KindRow
row_by next bytes x = row_for x.entry (next (suc x.level)) (owner_by x.level next) (bytes x.level)

-- the second pass, over the rows
unfoldable pub write_rows : (ℕ → ℕ) → (ℕ → ℕ) → List Event → List KindRow → List KindRow
write_rows next bytes [] area = area
write_rows next bytes (x ∷ es) area = write_rows (bump one next x) (bump size bytes x) es (set area (next x.level) (row_by next bytes x))

-- and over the text
unfoldable pub write_text : (ℕ → ℕ) → List Event → List ℕ → List ℕ
write_text bytes [] area = area
write_text bytes (x ∷ es) area = write_text (bump size bytes x) es (sets area (bytes x.level) (bytes_of x.entry))
