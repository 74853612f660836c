-- Names that lie among a sheet's words, seen as one value: for the contracts of the crates above.
-- Assumes nothing.
use Rattle.std.specs.Prelude.{List, ℕ, Bool}
use Rattle.names.specs.Names.{name_at, repeats_at}
use Rattle.names.specs.declared.Lain.{Lain}

-- name i's bytes
abbrev pub name_in : Lain → ℕ → List ℕ
name_in l = name_at l.words.now l.text.now l.names

-- an earlier name is the same as name i
abbrev pub repeats_in : Lain → ℕ → Bool
repeats_in l = repeats_at l.words.now l.text.now l.names
