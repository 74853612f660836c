use native.Mathlib.Omega.{arith}
use borrow.Author.Tests.{not-true, not-false}
use Rattle.rulesheet.proofs.Trailers.{facts, form_c}
use Rattle.ruleclauses.proofs.Passes.{ends_inside, going_begins, going_falls, going_stops, going_on, going_ends}
use Rattle.ruleclauses.proofs.pass_clauses.Goals as goal

pub schema_at-row-requires : goal.schema_at-row-requires
schema_at-row-requires c = (c.requires.0.formed, c.requires.1)

pub overflow_add-end : goal.overflow_add-end
overflow_add-end c =
    let row = c.schema_at-row in
    let ends = ends_inside c.args.words.now c.args.form c.requires.0 c.args.schema.0 c.requires.1 row.result row.ensures in
    omega (arith, form_c c.args.words.now c.args.form c.requires.0.formed, (facts c.args.words.now c.args.form c.requires.0.formed).few_clauses)

pub loop-k-init : goal.loop-k-init
loop-k-init c =
    let row = c.schema_at-row in
    going_begins c.args.words.now c.args.form c.requires.0 c.args.schema.0 c.requires.1 row.result row.ensures 0 c.requires.2

pub clause_at-clause-requires : goal.clause_at-clause-requires
clause_at-clause-requires c =
    let row = c.schema_at-row in
    (c.requires.0.formed, omega (arith, ends_inside c.args.words.now c.args.form c.requires.0 c.args.schema.0 c.requires.1 row.result row.ensures))

pub returns-then-not-k-first : goal.returns-then-not-k-first
returns-then-not-k-first c =
    let row = c.schema_at-row in
    let clause = c.clause_at-clause in
    going_falls c.args.words.now c.args.form c.requires.0 c.args.schema.0 c.requires.1 row.result row.ensures c.loop-k.invariant (omega arith) clause.result clause.ensures (not-true _ c.if-not-k-first.true-raw)

pub pass_clause-requires : goal.pass_clause-requires
pass_clause-requires c = c.requires.0.formed

pub returns-in_default : goal.returns-in_default
returns-in_default c =
    let row = c.schema_at-row in
    let clause = c.clause_at-clause in
    going_stops c.args.words.now c.args.form c.requires.0 c.args.schema.0 c.requires.1 row.result row.ensures c.loop-k.invariant (omega arith) clause.result clause.ensures c.pass_clause.ensures c.in_default.is

pub loop-k-preserved : goal.loop-k-preserved
loop-k-preserved c =
    let row = c.schema_at-row in
    let clause = c.clause_at-clause in
    going_on c.args.words.now c.args.form c.requires.0 c.args.schema.0 c.requires.1 row.result row.ensures c.loop-k.invariant (omega arith) clause.result clause.ensures (not-false _ c.if-not-k-first.false-raw) c.pass_clause.ensures c.in-Some.is

pub returns : goal.returns
returns c =
    let row = c.schema_at-row in
    going_ends c.args.words.now c.args.form c.requires.0 c.args.schema.0 c.requires.1 row.result row.ensures c.loop-k.invariant (omega arith)
