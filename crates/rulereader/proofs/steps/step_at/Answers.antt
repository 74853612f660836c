-- `step_at` meets its contract: of a list the schema of the entry, of another clause its own. Assumes nothing.
use native.Mathlib.Omega.{arith}
use mathlib.Core.Path.{ap, ◌∙◌}
use Rattle.rulesheet.specs.declared.form.EntryRow.{EntryRow}
use Rattle.rulesheet.proofs.Trailers.{facts, form_e}
use Rattle.rulereader.proofs.Stepping.{entry_step, only_step, member_step}
use Rattle.rulereader.proofs.steps.step_at.Goals as goal
use Rattle.rulereader.proofs.steps.step_at.Goals.{in_default-via-then-clause-lt33, in_default-via-else-clause-lt33+else-clause-lt35}

pub overflow_add-clause : goal.overflow_add-clause
overflow_add-clause c =
    omega (arith, (member_step c.args.words.now c.args.k c.clause_at-clause.result c.clause_at-clause.ensures (c.requires.0.clauses_fine c.args.k c.requires.1) c.args.i c.requires.2 c.in-37.is).0.inside, form_e c.args.words.now c.args.form c.requires.0.schemas_laid.formed, (facts c.args.words.now c.args.form c.requires.0.schemas_laid.formed).few_entries)

pub entry_at-requires : goal.entry_at-requires
entry_at-requires c =
    (c.requires.0.schemas_laid.formed, omega (arith, (member_step c.args.words.now c.args.k c.clause_at-clause.result c.clause_at-clause.ensures (c.requires.0.clauses_fine c.args.k c.requires.1) c.args.i c.requires.2 c.in-37.is).0.inside, form_e c.args.words.now c.args.form c.requires.0.schemas_laid.formed, (facts c.args.words.now c.args.form c.requires.0.schemas_laid.formed).few_entries))

pub returns-in-37 : goal.returns-in-37
returns-in-37 c =
    ap (λ (x : EntryRow). x.third) c.entry_at.ensures ∙ (member_step c.args.words.now c.args.k c.clause_at-clause.result c.clause_at-clause.ensures (c.requires.0.clauses_fine c.args.k c.requires.1) c.args.i c.requires.2 c.in-37.is).1

pub returns-in-33 : goal.returns-in-33
returns-in-33 c =
    only_step c.args.words.now c.args.k c.clause_at-clause.result c.clause_at-clause.ensures (c.requires.0.clauses_fine c.args.k c.requires.1) c.args.i c.requires.2 (omega arith) (omega arith)

pub overflow_add-clause-in_default : goal.overflow_add-clause-in_default
overflow_add-clause-in_default c =
    omega (arith, (entry_step c.args.words.now c.args.k c.clause_at-clause.result c.clause_at-clause.ensures (c.requires.0.clauses_fine c.args.k c.requires.1) c.args.i c.requires.2 (λ e. elim c.in_default.branch [ in_default-via-then-clause-lt33 w ↦ omega arith | in_default-via-else-clause-lt33+else-clause-lt35 w ↦ omega arith ]) (λ e. elim c.in_default.branch [ in_default-via-then-clause-lt33 w ↦ omega arith | in_default-via-else-clause-lt33+else-clause-lt35 w ↦ omega arith ]) (λ e. elim c.in_default.branch [ in_default-via-then-clause-lt33 w ↦ omega arith | in_default-via-else-clause-lt33+else-clause-lt35 w ↦ omega arith ])).0.inside, form_e c.args.words.now c.args.form c.requires.0.schemas_laid.formed, (facts c.args.words.now c.args.form c.requires.0.schemas_laid.formed).few_entries)

pub entry_at-requires-in_default : goal.entry_at-requires-in_default
entry_at-requires-in_default c =
    (c.requires.0.schemas_laid.formed, omega (arith, (entry_step c.args.words.now c.args.k c.clause_at-clause.result c.clause_at-clause.ensures (c.requires.0.clauses_fine c.args.k c.requires.1) c.args.i c.requires.2 (λ e. elim c.in_default.branch [ in_default-via-then-clause-lt33 w ↦ omega arith | in_default-via-else-clause-lt33+else-clause-lt35 w ↦ omega arith ]) (λ e. elim c.in_default.branch [ in_default-via-then-clause-lt33 w ↦ omega arith | in_default-via-else-clause-lt33+else-clause-lt35 w ↦ omega arith ]) (λ e. elim c.in_default.branch [ in_default-via-then-clause-lt33 w ↦ omega arith | in_default-via-else-clause-lt33+else-clause-lt35 w ↦ omega arith ])).0.inside, form_e c.args.words.now c.args.form c.requires.0.schemas_laid.formed, (facts c.args.words.now c.args.form c.requires.0.schemas_laid.formed).few_entries))

pub returns-in_default : goal.returns-in_default
returns-in_default c =
    ap (λ (x : EntryRow). x.first) c.entry_at-in_default.ensures ∙ (entry_step c.args.words.now c.args.k c.clause_at-clause.result c.clause_at-clause.ensures (c.requires.0.clauses_fine c.args.k c.requires.1) c.args.i c.requires.2 (λ e. elim c.in_default.branch [ in_default-via-then-clause-lt33 w ↦ omega arith | in_default-via-else-clause-lt33+else-clause-lt35 w ↦ omega arith ]) (λ e. elim c.in_default.branch [ in_default-via-then-clause-lt33 w ↦ omega arith | in_default-via-else-clause-lt33+else-clause-lt35 w ↦ omega arith ]) (λ e. elim c.in_default.branch [ in_default-via-then-clause-lt33 w ↦ omega arith | in_default-via-else-clause-lt33+else-clause-lt35 w ↦ omega arith ])).1
