-- `owns_ok` meets its contract: what is left of the search gives what the whole gives. Assumes nothing.
use mathlib.Core.Path.{◌≡◌}
use Prim.Native.Nat.{◌+◌}
use mathlib.Core.Bool.{not}
use lib.Dec.{eqb}
use Rattle.sheet.specs.Record.{owner_at}
use Rattle.sheet.specs.Faults.{stranger}
use Rattle.laws.proofs.Searches.{left}
use Rattle.recordlayout.proofs.owns_ok.Given as goal

abbrev pub invariant-loop-k : goal.invariant-loop-k
invariant-loop-k l = stranger l.rows.words.now l.j l.fn.row.first l.fn.row.count ≡ left (λ i. not (eqb (owner_at l.rows.words.now i) l.j)) (l.fn.row.first + l.fn.row.count) l.k
