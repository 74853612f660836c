use mathlib.Core.Path.{◌≡◌, sym, ap, ◌∙◌}
use mathlib.Core.Bool.{not}
use Prim.Native.Nat.{◌+◌}
use native.Mathlib.Omega.{arith}
use Rattle.rulesheet.specs.declared.form.ClauseRow.{ClauseRow}
use Rattle.rulesheet.specs.Sheet.{clause_at}
use Rattle.rulesheet.proofs.Trailers.{facts, form_e}
use Rattle.rulesheet.proofs.Walking.{fields_read, list_inside}
use Rattle.ruletexts.proofs.Readable.{search_begins, search_stops, search_on, search_ends, read_as, entry_within, entry_is}
use Rattle.ruletexts.proofs.first_in.Goals as goal

pub clause_at-clause-requires : goal.clause_at-clause-requires
clause_at-clause-requires c = (c.requires.rules_laid.0.clauses_laid.schemas_laid.formed, c.requires.clause_listed.0)

pub overflow_add-end : goal.overflow_add-end
overflow_add-end c = omega (arith, list_inside c.args.words.now c.args.form c.requires.rules_laid.0.clauses_laid c.requires.clause_listed.0 c.clause_at-clause.result c.clause_at-clause.ensures c.requires.clause_listed.1, form_e c.args.words.now c.args.form c.requires.rules_laid.0.clauses_laid.schemas_laid.formed, (facts c.args.words.now c.args.form c.requires.rules_laid.0.clauses_laid.schemas_laid.formed).few_entries)

pub loop-x-init : goal.loop-x-init
loop-x-init c = (search_begins c.args.words.now c.args.text.now c.args.k c.clause_at-clause.result c.clause_at-clause.ensures)

pub entry_at-requires : goal.entry_at-requires
entry_at-requires c = (c.requires.rules_laid.0.clauses_laid.schemas_laid.formed, omega (arith, list_inside c.args.words.now c.args.form c.requires.rules_laid.0.clauses_laid c.requires.clause_listed.0 c.clause_at-clause.result c.clause_at-clause.ensures c.requires.clause_listed.1))

pub settles-requires : goal.settles-requires
settles-requires c = (c.requires.rules_laid.2, entry_within c.args.words.now c.args.text.now c.args.form c.requires.rules_laid.0 c.requires.rules_laid.1 c.args.k c.requires.clause_listed.0 c.requires.clause_listed.1 c.loop-x.x c.loop-x.invariant.low (omega (arith, ap (λ (r : ClauseRow). r.first) c.clause_at-clause.ensures, ap (λ (r : ClauseRow). r.count) c.clause_at-clause.ensures)) c.text_range-range.result (read_as (fields_read c.args.words.now c.args.k c.clause_at-clause.ensures c.shape_of-shape.ensures) c.entry_at.ensures c.text_range-range.ensures))

pub returns-then-not-settles : goal.returns-then-not-settles
returns-then-not-settles c = (omega (arith, ap (λ (r : ClauseRow). r.first) c.clause_at-clause.ensures, ap (λ (r : ClauseRow). r.count) c.clause_at-clause.ensures), search_stops c.args.words.now c.args.text.now c.args.k c.loop-x.invariant (omega (arith, ap (λ (r : ClauseRow). r.first) c.clause_at-clause.ensures, ap (λ (r : ClauseRow). r.count) c.clause_at-clause.ensures)) (entry_is c.args.words.now c.args.text.now c.args.form c.requires.rules_laid.0 c.requires.rules_laid.1 c.args.k c.requires.clause_listed.0 c.requires.clause_listed.1 c.loop-x.x c.loop-x.invariant.low (omega (arith, ap (λ (r : ClauseRow). r.first) c.clause_at-clause.ensures, ap (λ (r : ClauseRow). r.count) c.clause_at-clause.ensures)) c.text_range-range.result (read_as (fields_read c.args.words.now c.args.k c.clause_at-clause.ensures c.shape_of-shape.ensures) c.entry_at.ensures c.text_range-range.ensures) ∙ ap not (sym c.settles.ensures) ∙ c.if-not-settles.true-raw))

pub loop-x-preserved : goal.loop-x-preserved
loop-x-preserved c = (search_on c.args.words.now c.args.text.now c.args.k c.loop-x.invariant (omega (arith, ap (λ (r : ClauseRow). r.first) c.clause_at-clause.ensures, ap (λ (r : ClauseRow). r.count) c.clause_at-clause.ensures)) (entry_is c.args.words.now c.args.text.now c.args.form c.requires.rules_laid.0 c.requires.rules_laid.1 c.args.k c.requires.clause_listed.0 c.requires.clause_listed.1 c.loop-x.x c.loop-x.invariant.low (omega (arith, ap (λ (r : ClauseRow). r.first) c.clause_at-clause.ensures, ap (λ (r : ClauseRow). r.count) c.clause_at-clause.ensures)) c.text_range-range.result (read_as (fields_read c.args.words.now c.args.k c.clause_at-clause.ensures c.shape_of-shape.ensures) c.entry_at.ensures c.text_range-range.ensures) ∙ ap not (sym c.settles.ensures) ∙ c.if-not-settles.false-raw))

pub returns : goal.returns
returns c = let there : (clause_at c.args.words.now c.args.k).first + (clause_at c.args.words.now c.args.k).count ≡ c.loop-x.x = omega (arith, ap (λ (r : ClauseRow). r.first) c.clause_at-clause.ensures, ap (λ (r : ClauseRow). r.count) c.clause_at-clause.ensures) in there ∙ search_ends c.args.words.now c.args.text.now c.args.k c.loop-x.invariant (omega (arith, ap (λ (r : ClauseRow). r.first) c.clause_at-clause.ensures, ap (λ (r : ClauseRow). r.count) c.clause_at-clause.ensures))
