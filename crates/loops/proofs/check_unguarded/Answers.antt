-- `check_unguarded` meets its contract: where no chain of 33 schemas starts, no schema is on a loop. Assumes nothing.
use native.Mathlib.Omega.{arith}
use mathlib.Core.Path.{sym, ◌∙◌}
use Rattle.rulesheet.specs.Sheet.{schemas_word, next_of}
use Rattle.unguarded.proofs.Steps.{schema_count}
use Rattle.unguarded.proofs.Grounds.{none_looped}
use Rattle.loops.proofs.check_unguarded.Goals as goal

pub returns-then-long-m : goal.returns-then-long-m
returns-then-long-m c =
    let e = sym c.if-long-m.true ∙ c.long_place-long.ensures in record { looped_is = schema_count c.args.words.now c.args.form c.requires ∙ none_looped (next_of c.args.words.now) (schemas_word c.args.words.now) (omega (arith, e, schema_count c.args.words.now c.args.form c.requires)); long_is = e }
