use native.Mathlib.Omega.{arith}
use mathlib.Core.Path.{refl, ◌∙◌}
use lib.Seq.{take_all}
use Rattle.rulesheet.specs.Sheet.{targets_of}
use Rattle.unguarded.proofs.Lists.{take_more}
use Rattle.unguarded.proofs.Targets.{target_at}
use Rattle.unguarded.proofs.Steps.{clause_count}
use Rattle.unguarded.proofs.Lengths.{raised_none, raised_more, noted_none, noted_more}
use Rattle.chains.proofs.clause_length.Goals as goal

pub steps_of-i-end-requires : goal.steps_of-i-end-requires
steps_of-i-end-requires c =
    (c.requires.0.clauses_laid.schemas_laid.formed, omega (arith, clause_count c.args.words.now c.args.form c.requires.0))

pub loop-i-init : goal.loop-i-init
loop-i-init c =
    (raised_none _ _ c.requires.4, noted_none _ _, refl)

pub step_at-t-requires : goal.step_at-t-requires
step_at-t-requires c =
    (c.requires.0.clauses_laid, omega (arith, clause_count c.args.words.now c.args.form c.requires.0), omega (arith, c.steps_of-i-end.ensures))

pub bounds-table-at : goal.bounds-table-at
bounds-table-at c =
    omega (arith, c.wide-at.ensures, c.step_at-t.ensures, target_at c.args.words.now c.args.form c.requires.0 c.args.k c.requires.1 c.loop-i.i (omega (arith, c.steps_of-i-end.ensures)), c.requires.2)

pub longer-long-requires : goal.longer-long-requires
longer-long-requires c =
    c.loop-i.invariant.0.full

pub mark_late-requires : goal.mark_late-requires
mark_late-requires c =
    omega (arith, c.step_at-t.ensures, target_at c.args.words.now c.args.form c.requires.0 c.args.k c.requires.1 c.loop-i.i (omega (arith, c.steps_of-i-end.ensures)), c.requires.3, c.loop-i.invariant.2)

pub loop-i-preserved : goal.loop-i-preserved
loop-i-preserved c =
    (rw (take_more (targets_of c.args.words.now c.args.k) c.loop-i.i (omega (arith, c.steps_of-i-end.ensures)), ← c.step_at-t.ensures) (raised_more _ c.loop-i.invariant.0 (rw c.wide-at.ensures at c.longer-long.ensures)), rw (take_more (targets_of c.args.words.now c.args.k) c.loop-i.i (omega (arith, c.steps_of-i-end.ensures)), ← c.step_at-t.ensures) (noted_more c.loop-i.invariant.1 c.mark_late.ensures), c.late-1.given ∙ c.loop-i.invariant.2)

pub shape_of-late : goal.shape_of-late
shape_of-late c =
    c.loop-i.invariant.2

pub returns : goal.returns
returns c =
    (rw (take_all c.loop-i.i (targets_of c.args.words.now c.args.k) (omega (arith, c.steps_of-i-end.ensures))) at c.loop-i.invariant.0, rw (take_all c.loop-i.i (targets_of c.args.words.now c.args.k) (omega (arith, c.steps_of-i-end.ensures))) at c.loop-i.invariant.1)
