use native.Mathlib.Omega.{arith}
use Rattle.rulesheet.specs.Sheet.{targets_of}
use Rattle.unguarded.proofs.Steps.{clause_count, few_schemas}
use lib.Seq.{take_all}
use Rattle.unguarded.proofs.Lists.{take_more}
use Rattle.unguarded.proofs.Targets.{target_at}
use Rattle.unguarded.proofs.Worklists.{visited_none, visited_more}
use Rattle.loops.proofs.Worklist.visit_clause.Goals as goal

pub steps_of-i-end-requires : goal.steps_of-i-end-requires
steps_of-i-end-requires c = (c.requires.0.clauses_laid.schemas_laid.formed, omega (arith, clause_count c.args.words.now c.args.form c.requires.0))

pub loop-i-init : goal.loop-i-init
loop-i-init c = visited_none _ _ _ c.requires.2

pub step_at-requires : goal.step_at-requires
step_at-requires c = (c.requires.0.clauses_laid, omega (arith, clause_count c.args.words.now c.args.form c.requires.0), omega (arith, c.steps_of-i-end.ensures))

pub visit-requires : goal.visit-requires
visit-requires c = (c.loop-i.invariant.tidy, omega (arith, few_schemas c.args.words.now c.args.form c.requires.0, c.step_at.ensures, target_at c.args.words.now c.args.form c.requires.0 c.args.k c.requires.1 c.loop-i.i (omega (arith, c.steps_of-i-end.ensures))))

pub loop-i-preserved : goal.loop-i-preserved
loop-i-preserved c = (rw (take_more (targets_of c.args.words.now c.args.k) c.loop-i.i (omega (arith, c.steps_of-i-end.ensures))) (visited_more c.loop-i.invariant (rw (← c.step_at.ensures) c.visit.ensures)))

pub returns : goal.returns
returns c = rw (take_all c.loop-i.i (targets_of c.args.words.now c.args.k) (omega (arith, c.steps_of-i-end.ensures))) at c.loop-i.invariant
