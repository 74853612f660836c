use native.Mathlib.Omega.{arith}
use mathlib.Core.Path.{◌≡◌}
use Rattle.rulesheet.specs.Sheet.{targets_of}
use Rattle.unguarded.proofs.Steps.{joined, joined_more, next_read, schema_count, few_clauses, clause_read}
use Rattle.unguarded.proofs.Worklists.{visited_none, visited_more}
use Rattle.loops.proofs.Worklist.visit_next.Goals as goal

pub schema_at-row-requires : goal.schema_at-row-requires
schema_at-row-requires c = (c.requires.0.clauses_laid.schemas_laid.formed, omega (arith, schema_count c.args.words.now c.args.form c.requires.0))

pub loop-j-init : goal.loop-j-init
unfolding joined
loop-j-init c = visited_none _ _ _ c.requires.2

pub overflow_add-row : goal.overflow_add-row
overflow_add-row c = omega (arith, clause_read c.args.words.now c.args.form c.requires.0 c.args.s.0 c.loop-j.j c.schema_at-row.result c.schema_at-row.ensures c.requires.1 (omega arith), few_clauses c.args.words.now c.args.form c.requires.0)

pub visit_clause-requires : goal.visit_clause-requires
visit_clause-requires c = (c.requires.0, clause_read c.args.words.now c.args.form c.requires.0 c.args.s.0 c.loop-j.j c.schema_at-row.result c.schema_at-row.ensures c.requires.1 (omega arith), c.loop-j.invariant.tidy)

pub loop-j-preserved : goal.loop-j-preserved
loop-j-preserved c = (rw (joined_more (targets_of c.args.words.now) c.schema_at-row.result.first c.loop-j.j) (visited_more c.loop-j.invariant c.visit_clause.ensures))

pub returns : goal.returns
returns c = let e : c.loop-j.j ≡ c.schema_at-row.result.count = omega arith in rw (next_read c.args.words.now c.args.s.0 c.requires.1 c.schema_at-row.result c.schema_at-row.ensures, ← e) c.loop-j.invariant
