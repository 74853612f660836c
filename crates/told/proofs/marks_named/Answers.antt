-- `marks_named` meets its contract, for a test and for a clause that applies schemas. Assumes nothing.
use mathlib.Core.Path.{sym, ◌∙◌}
use Rattle.rulesheet.specs.Sheet.{clause_of}
use Rattle.told.proofs.Earlier.{test_marks, applied_marks}
use Rattle.told.proofs.marks_named.Goals as goal

pub returns-then-applies : goal.returns-then-applies
returns-then-applies c =
    λ us.
    let applied = c.applies.ensures c.args.rules.now us c.args.k (c.requires.0.clauses_laid.clauses_fine _ c.requires.1) c.clause_at.ensures in
    applied_marks (clause_of c.args.rules.now us c.args.k) _ (sym applied ∙ c.if-applies.true) (c.telling_of.ensures.means_telling us) (c.has_names.ensures c.args.rules.now us)

pub returns : goal.returns
returns c =
    λ us.
    let applied = c.applies.ensures c.args.rules.now us c.args.k (c.requires.0.clauses_laid.clauses_fine _ c.requires.1) c.clause_at.ensures in
    test_marks (clause_of c.args.rules.now us c.args.k) (sym applied ∙ c.if-applies.false)
