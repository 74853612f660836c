-- `skip` meets its contract: what is left of the white space gives what the whole gives. Assumes nothing.
use mathlib.Core.Path.{◌≡◌}
use Prim.Native.Nat.{◌+◌}
use lib.ListN.{drop}
use Rattle.writing.specs.Reading.{blanks_of}
use Rattle.writing.proofs.skip.Given as goal

abbrev pub invariant-loop-i : goal.invariant-loop-i
invariant-loop-i l = l.i + blanks_of (drop l.i l.json) ≡ l.start + blanks_of (drop l.start l.json)
