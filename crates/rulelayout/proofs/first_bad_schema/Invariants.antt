-- `first_bad_schema` meets its contract: `start` is where the schemas passed say that the next one starts. Assumes nothing.
use mathlib.Core.Path.{◌≡◌}
use Rattle.laws.specs.Lowest.{lowest}
use Rattle.laws.proofs.Searches.{left}
use Rattle.rulesheet.specs.Faults.{schema_start, schema_fault}
use Rattle.rulelayout.proofs.first_bad_schema.Given as goal

abbrev pub invariant-loop-s : goal.invariant-loop-s
invariant-loop-s l = (lowest (schema_fault l.words) l.form.m ≡ left (schema_fault l.words) l.form.m l.s) × (l.start ≡ schema_start l.words l.s)
