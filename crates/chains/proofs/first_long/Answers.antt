use native.Mathlib.Omega.{arith}
use mathlib.Core.Path.{◌≡◌, sym, ◌∙◌}
use borrow.Author.Tests.{le-leb, lt-leb}
use Rattle.laws.proofs.Passing.{begin, here, further, nowhere}
use Rattle.unguarded.proofs.Steps.{schema_count}
use Rattle.chains.proofs.first_long.Goals as goal

pub loop-s-init : goal.loop-s-init
loop-s-init c =
    begin _ _

pub bounds-table-at : goal.bounds-table-at
bounds-table-at c =
    omega (arith, c.requires.1.room, schema_count c.args.words.now c.args.form c.requires.0, c.wide-at.ensures)

pub returns-then-table-at-ge-CHAIN_STEPS : goal.returns-then-table-at-ge-CHAIN_STEPS
returns-then-table-at-ge-CHAIN_STEPS c =
    here c.loop-s.invariant (omega (arith, schema_count c.args.words.now c.args.form c.requires.0)) (sym (c.requires.1.right c.loop-s.s) ∙ rw (← c.wide-at.ensures) (le-leb _ _ c.if-table-at-ge-CHAIN_STEPS.true))

pub loop-s-preserved : goal.loop-s-preserved
loop-s-preserved c =
    further c.loop-s.invariant (omega (arith, schema_count c.args.words.now c.args.form c.requires.0)) (sym (c.requires.1.right c.loop-s.s) ∙ rw (← c.wide-at.ensures) (lt-leb _ _ c.if-table-at-ge-CHAIN_STEPS.false))

pub returns : goal.returns
returns c =
    let there : c.args.form.m ≡ c.loop-s.s = omega arith in there ∙ nowhere c.loop-s.invariant (omega (arith, schema_count c.args.words.now c.args.form c.requires.0))
