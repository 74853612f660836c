-- `told` meets its contract. Assumes nothing.
use mathlib.Core.Bool.{true}
use mathlib.Core.Path.{◌≡◌}
use Prim.Native.Nat.{ℕ, ◌<◌}
use Rattle.rulesheet.specs.Faults.{schema_start, schema_fine}
use Rattle.rulepass.specs.Pass.{Come}
use Rattle.rulepass.proofs.told.Given as goal

abbrev pub invariant-loop-s : goal.invariant-loop-s
invariant-loop-s l =
    (l.k ≡ schema_start l.words l.s) × ((u : ℕ) → u < l.s → schema_fine l.words u ≡ true) × Come l.words l.text l.s l.k l.pass.start l.pass.steps
