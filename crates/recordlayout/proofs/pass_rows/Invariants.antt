-- `pass_rows` meets its contract. Where j rows were passed, none of them is at fault, the table holds their levels and zeros after them, and
-- `deep` is the lowest of them that is too deep. Assumes nothing.
use mathlib.Core.Path.{◌≡◌}
use Rattle.laws.specs.Lowest.{lowest}
use Rattle.sheet.specs.Record.{rows_max, owner_at}
use Rattle.sheet.specs.Faults.{at_fault, too_deep}
use Rattle.laws.proofs.Searches.{left, Seen}
use Rattle.sheet.proofs.Levels.{filled}
use Rattle.recordlayout.proofs.pass_rows.Given as goal

abbrev pub invariant-loop-j : goal.invariant-loop-j
invariant-loop-j l = (lowest (at_fault l.words) l.n ≡ left (at_fault l.words) l.n l.j) × (l.levels ≡ filled (owner_at l.words) rows_max l.j) × Seen (too_deep l.words) l.n l.j l.deep
