-- `long_place` meets its contract: where no clause has a step there is no chain, and tables of zeros tell nothing yet. Assumes nothing.
use native.Mathlib.Omega.{arith}
use mathlib.Core.Path.{◌∙◌}
use Rattle.unguarded.proofs.Steps.{schema_count, clause_count, few_schemas}
use Rattle.unguarded.proofs.Passes.{quiet_sheet}
use Rattle.chains.proofs.long_place.Goals as goal

pub last_step-last-requires : goal.last_step-last-requires
last_step-last-requires c =
    (c.requires, omega (arith, clause_count c.args.words.now c.args.form c.requires))

pub returns-then-last-eq0 : goal.returns-then-last-eq0
returns-then-last-eq0 c =
    schema_count c.args.words.now c.args.form c.requires ∙ quiet_sheet c.args.words.now c.args.form c.requires (omega arith) (rw (clause_count c.args.words.now c.args.form c.requires) at c.last_step-last.ensures)

pub long_within-requires : goal.long_within-requires
long_within-requires c =
    (c.requires, rw (clause_count c.args.words.now c.args.form c.requires) at c.last_step-last.ensures, omega (arith, c.wide.ensures), omega arith)

pub long_within-requires-2 : goal.long_within-requires-2
long_within-requires-2 c =
    (c.requires, rw (clause_count c.args.words.now c.args.form c.requires) at c.last_step-last.ensures, omega (arith, schema_count c.args.words.now c.args.form c.requires, few_schemas c.args.words.now c.args.form c.requires), omega arith)
