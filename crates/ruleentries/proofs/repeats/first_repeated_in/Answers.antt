-- `first_repeated_in` meets its contract: the clause's names lie among the words. Assumes nothing.
use mathlib.Core.Path.{refl, ap, ◌∙◌}
use native.Mathlib.Omega.{arith}
use Rattle.rulesheet.specs.declared.form.ClauseRow.{ClauseRow}
use Rattle.rulesheet.specs.Sheet.{clause_at}
use Rattle.ruleentries.proofs.Naming.{names_end, names_lie, found_within, found_named}
use Rattle.ruleentries.proofs.repeats.first_repeated_in.Goals as goal

pub clause_at-clause-requires : goal.clause_at-clause-requires
clause_at-clause-requires c = (c.requires.rules_laid.0.clauses_laid.schemas_laid.formed, c.requires.clause_named.0)

pub overflow_add-lying : goal.overflow_add-lying
overflow_add-lying c =
    let clause = c.clause_at-clause in
    let first = c.wide in
    omega (arith, names_end c.args.words.now c.args.text.now c.args.form c.requires.rules_laid.0 c.args.k c.requires.clause_named.0 c.requires.clause_named.1 first.result (clause_at c.args.words.now c.args.k).count (first.ensures ∙ ap (λ (x : ClauseRow). x.first) clause.ensures) refl)

pub first_repeated-requires : goal.first_repeated-requires
first_repeated-requires c =
    let clause = c.clause_at-clause in
    let first = c.wide in
    let count = c.wide-2 in
    names_lie c.args.words.now c.args.text.now c.args.form c.requires.rules_laid.0 c.args.k c.requires.clause_named.0 c.requires.clause_named.1 first.result count.result (first.ensures ∙ ap (λ (x : ClauseRow). x.first) clause.ensures) (count.ensures ∙ ap (λ (x : ClauseRow). x.count) clause.ensures) c.requires.rules_laid.1

pub overflow_cast-result : goal.overflow_cast-result
overflow_cast-result c =
    let clause = c.clause_at-clause in
    let first = c.wide in
    let count = c.wide-2 in
    omega (arith, found_within c.args.words.now c.args.text.now c.args.form c.requires.rules_laid.0 c.args.k c.requires.clause_named.0 c.requires.clause_named.1 first.result count.result (first.ensures ∙ ap (λ (x : ClauseRow). x.first) clause.ensures) (count.ensures ∙ ap (λ (x : ClauseRow). x.count) clause.ensures) c.first_repeated.result c.first_repeated.ensures)

pub overflow_add-result : goal.overflow_add-result
overflow_add-result c =
    let clause = c.clause_at-clause in
    let first = c.wide in
    let count = c.wide-2 in
    let found = c.first_repeated in
    omega (arith, found_within c.args.words.now c.args.text.now c.args.form c.requires.rules_laid.0 c.args.k c.requires.clause_named.0 c.requires.clause_named.1 first.result count.result (first.ensures ∙ ap (λ (x : ClauseRow). x.first) clause.ensures) (count.ensures ∙ ap (λ (x : ClauseRow). x.count) clause.ensures) found.result found.ensures)

pub returns : goal.returns
returns c =
    let clause = c.clause_at-clause in
    let first = c.wide in
    let count = c.wide-2 in
    let found = c.first_repeated in
    rw (← first.ensures) (found_named c.args.words.now c.args.text.now c.args.form c.requires.rules_laid.0 c.args.k c.requires.clause_named.0 c.requires.clause_named.1 first.result count.result (first.ensures ∙ ap (λ (x : ClauseRow). x.first) clause.ensures) (count.ensures ∙ ap (λ (x : ClauseRow). x.count) clause.ensures) found.result found.ensures)
