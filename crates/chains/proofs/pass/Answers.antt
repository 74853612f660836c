use native.Mathlib.Omega.{arith}
use mathlib.Core.Path.{refl, ◌∙◌}
use lib.ListN.{length-set}
use Rattle.rulesheet.proofs.Trailers.{facts}
use Rattle.unguarded.proofs.Steps.{schema_count}
use Rattle.unguarded.proofs.Passes.{begin, quiet_on, clause_raised, clause_kept, pass_done}
use Rattle.chains.proofs.pass.Goals.{then-most-long, else-most-long}
use Rattle.chains.proofs.pass.Goals as goal

pub overflow_sub-last_schema : goal.overflow_sub-last_schema
overflow_sub-last_schema c =
    omega (arith, schema_count c.args.words.now c.args.form c.requires.laid, (facts c.args.words.now c.args.form c.requires.laid.clauses_laid.schemas_laid.formed).some)

pub loop-k-init : goal.loop-k-init
loop-k-init c =
    (rw (schema_count c.args.words.now c.args.form c.requires.laid) (begin c.args.words.now c.args.form c.requires.laid _ _ (facts c.args.words.now c.args.form c.requires.laid.clauses_laid.schemas_laid.formed).some c.requires.quiet c.requires.told), refl, refl)

pub taker-s-requires : goal.taker-s-requires
taker-s-requires c =
    (c.requires.laid, c.loop-k.invariant.0.inside, omega (arith, c.loop-k.invariant.0.within), c.loop-k.invariant.0.after _ (omega arith))

pub bounds-table-at : goal.bounds-table-at
bounds-table-at c =
    omega (arith, c.loop-k.invariant.0.told.room, c.taker-s.ensures.inside, c.wide-at.ensures)

pub clause_length-long-requires : goal.clause_length-long-requires
clause_length-long-requires c =
    (c.requires.laid, omega (arith, c.loop-k.invariant.0.within), c.loop-k.invariant.0.told.room, omega (arith, c.requires.room, c.loop-k.invariant.2), c.loop-k.invariant.0.told.low _)

pub bounds-table-at-then-most-long : goal.bounds-table-at-then-most-long
bounds-table-at-then-most-long c =
    omega (arith, c.loop-k.invariant.0.told.room, c.taker-s.ensures.inside, c.wide-at.ensures)

pub bounds-late-at : goal.bounds-late-at
bounds-late-at c =
    omega (arith, c.requires.room, c.loop-k.invariant.2, c.taker-s.ensures.inside, c.wide-at.ensures, c.late-1.given)

pub last_step-k-requires : goal.last_step-k-requires
last_step-k-requires c =
    (c.requires.laid, omega (arith, c.loop-k.invariant.0.within))

pub loop-k-smaller : goal.loop-k-smaller
loop-k-smaller c =
    omega (arith, c.last_step-k.ensures.low)

pub loop-k-preserved : goal.loop-k-preserved
loop-k-preserved c =
    (quiet_on c.args.words.now (elim c.if-most-long.branch [ then-most-long w ↦ rw (w.table-is, w.again-is, c.wide-at.ensures) (clause_raised c.args.words.now c.args.form c.requires.laid c.taker-s.result.0 c.loop-k.invariant.0 (omega arith) c.taker-s.ensures (rw c.wide-at.ensures at c.clause_length-long.ensures.0) c.clause_length-long.ensures.1) | else-most-long w ↦ rw (w.table-is, w.again-is) (clause_kept c.args.words.now c.args.form c.requires.laid c.taker-s.result.0 c.loop-k.invariant.0 (omega arith) c.taker-s.ensures (rw c.wide-at.ensures at c.clause_length-long.ensures.0) c.clause_length-long.ensures.1 (rw c.wide-at.ensures at w.if-most-long.false)) ]) c.last_step-k.ensures, elim c.if-most-long.branch [ then-most-long w ↦ rw w.table-is (simp length-set c.loop-k.invariant.1) | else-most-long w ↦ rw w.table-is c.loop-k.invariant.1 ], c.late-1.given ∙ c.loop-k.invariant.2)

pub shape_of-table : goal.shape_of-table
shape_of-table c =
    c.loop-k.invariant.1

pub shape_of-late : goal.shape_of-late
shape_of-late c =
    c.loop-k.invariant.2

pub returns : goal.returns
returns c =
    pass_done c.args.words.now c.args.form c.requires.laid c.loop-k-test.false c.loop-k.invariant.0
