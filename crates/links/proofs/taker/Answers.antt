use native.Mathlib.Omega.{arith}
use mathlib.Core.Path.{◌≡◌, ap}
use Rattle.rulesheet.specs.declared.form.SchemaRow.{SchemaRow}
use Rattle.unguarded.proofs.Steps.{schema_count}
use Rattle.unguarded.proofs.Takers.{taker_here, first_low, after_more}
use Rattle.links.proofs.taker.Goals as goal

pub loop-s-init : goal.loop-s-init
loop-s-init c =
    (c.requires.1, c.requires.3)

pub schema_at-requires : goal.schema_at-requires
schema_at-requires c =
    (c.requires.0.clauses_laid.schemas_laid.formed, omega (arith, c.loop-s.invariant.0, schema_count c.args.words.now c.args.form c.requires.0))

pub returns-then-schema_at-k : goal.returns-then-schema_at-k
returns-then-schema_at-k c =
    taker_here c.args.words.now c.args.form c.requires.0 c.loop-s.s c.args.k c.loop-s.invariant.0 c.requires.2 c.loop-s.invariant.1 (omega (arith, c.if-schema_at-k.true, ap (λ (r : SchemaRow). r.first) c.schema_at.ensures))

pub loop-s-preserved : goal.loop-s-preserved
loop-s-preserved c =
    (omega (arith, c.loop-s.invariant.0), after_more c.args.words.now c.loop-s.s c.args.k c.loop-s.invariant.1 (omega (arith, c.if-schema_at-k.false, ap (λ (r : SchemaRow). r.first) c.schema_at.ensures)))

pub returns : goal.returns
returns c =
    let e : c.loop-s.s ≡ 0 = omega arith in rw e at (taker_here c.args.words.now c.args.form c.requires.0 c.loop-s.s c.args.k c.loop-s.invariant.0 c.requires.2 c.loop-s.invariant.1 (first_low c.args.words.now c.args.form c.requires.0 c.loop-s.s c.args.k c.loop-s.invariant.0 (omega arith)))
