use native.Mathlib.Omega.{arith}
use mathlib.Core.Path.{◌≡◌, sym, ◌∙◌}
use Rattle.laws.proofs.Passing.{begin, here, further, nowhere}
use Rattle.unguarded.proofs.Steps.{schema_count}
use Rattle.loops.proofs.first_loop.Goals as goal

pub loop-s-init : goal.loop-s-init
loop-s-init c = begin _ _

pub on_loop-requires : goal.on_loop-requires
on_loop-requires c = (c.requires, (omega (arith, schema_count c.args.words.now c.args.form c.requires)))

pub returns-then-on_loop : goal.returns-then-on_loop
returns-then-on_loop c =
    here c.loop-s.invariant (omega (arith, schema_count c.args.words.now c.args.form c.requires)) (sym c.on_loop.ensures ∙ c.if-on_loop.true)

pub loop-s-preserved : goal.loop-s-preserved
loop-s-preserved c =
    further c.loop-s.invariant (omega (arith, schema_count c.args.words.now c.args.form c.requires)) (sym c.on_loop.ensures ∙ c.if-on_loop.false)

pub returns : goal.returns
returns c = let there : c.args.form.m ≡ c.loop-s.s = omega arith in there ∙ nowhere c.loop-s.invariant (omega (arith, schema_count c.args.words.now c.args.form c.requires))
