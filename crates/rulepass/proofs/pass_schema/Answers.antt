use native.Mathlib.Omega.{arith}
use mathlib.Core.Bool.{or-true}
use mathlib.Core.Path.{ap}
use Prim.Native.Nat.{◌+◌}
use borrow.Author.Tests.{lt-ltb}
use Rattle.rulesheet.specs.declared.form.SchemaRow.{SchemaRow}
use Rattle.rulesheet.proofs.Trailers.{facts, form_c}
use Rattle.rulepass.proofs.Going.{gone_begins, gone_on, gone_ends}
use Rattle.rulepass.proofs.pass_schema.Goals as goal

pub loop-k-init : goal.loop-k-init
loop-k-init c =
    let read = c.requires.schema_read in
    gone_begins c.args.words.now c.args.text.now c.args.s.0 c.args.row.first (c.args.row.first + c.args.row.count) c.args.from.steps (ap (λ (x : SchemaRow). x.first) read.0) c.args.from.start read.2 (omega arith)

pub overflow_add-k-end : goal.overflow_add-k-end
overflow_add-k-end c = omega (arith, c.requires.schema_read.1, (facts c.args.words.now c.args.form c.requires.rules_formed.0).few_clauses, form_c c.args.words.now c.args.form c.requires.rules_formed.0)

pub clause_at-clause-requires : goal.clause_at-clause-requires
clause_at-clause-requires c = (c.requires.rules_formed.0, omega (arith, c.requires.schema_read.1))

pub pass_clause-requires : goal.pass_clause-requires
pass_clause-requires c = c.requires.rules_formed

pub loop-k-preserved : goal.loop-k-preserved
loop-k-preserved c =
    gone_on c.args.words.now c.args.text.now c.args.s.0 c.args.row.first (c.args.row.first + c.args.row.count) c.args.from.steps (ap (λ (x : SchemaRow). x.first) c.requires.schema_read.0) c.loop-k.invariant (omega arith) c.clause_at-clause.result c.clause_at-clause.ensures (rw (lt-ltb c.loop-k.last c.clause_at-clause.result.code (omega arith), or-true)) c.in_ok-pass.pass c.in_ok-pass.ensures

pub returns : goal.returns
returns c =
    gone_ends c.args.words.now c.args.text.now c.args.s.0 c.args.row.first (c.args.row.first + c.args.row.count) c.args.from.steps (ap (λ (x : SchemaRow). x.first) c.requires.schema_read.0) c.loop-k.invariant (ap (λ (x : SchemaRow). c.args.row.first + x.count) c.requires.schema_read.0) (omega arith)
