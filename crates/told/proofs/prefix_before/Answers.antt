use mathlib.Core.List.{List}
use mathlib.Core.Path.{refl, ap, ◌∙◌}
use native.Mathlib.Omega.{arith}
use lib.ListN.{length}
use Rattle.rulesheet.specs.Ruleset.{Clause}
use Rattle.rulesheet.specs.Sheet.{run}
use Rattle.meaning.specs.Lists.{concat_map}
use Rattle.meaning.specs.Rules.{prefix_of}
use Rattle.told.proofs.Earlier.{prefix_more, before_is, clauses_few, entries_few}
use Rattle.told.proofs.prefix_before.Goals as goal

pub loop-k-init : goal.loop-k-init
unfolding concat_map run
loop-k-init c = (omega arith, λ us. refl)

pub overflow_add-first : goal.overflow_add-first
overflow_add-first c =
    omega (arith, clauses_few _ _ _ c.requires)

pub telling_of-requires : goal.telling_of-requires
telling_of-requires c =
    (c.requires.0.clauses_laid.schemas_laid.formed, omega (arith, clauses_few _ _ _ c.requires))

pub overflow_add-elements : goal.overflow_add-elements
overflow_add-elements c =
    omega (arith, clauses_few _ _ _ c.requires, entries_few c.requires.0, c.prefix_of-elements.ensures.upper_bound c.args.form (c.telling_of.ensures.tested.bounded c.requires.0.clauses_laid))

pub loop-k-preserved : goal.loop-k-preserved
loop-k-preserved c =
    let small = c.prefix_of-elements.ensures.upper_bound c.args.form (c.telling_of.ensures.tested.bounded c.requires.0.clauses_laid) in
    (omega (arith, entries_few c.requires.0), λ us. prefix_more c.args.rules.now us c.args.first c.loop-k.k _ (c.telling_of.ensures.means_telling us) _ _ (c.loop-k.invariant.1 us) (c.prefix_of-elements.ensures.by_index c.args.rules.now us))

pub returns-clause-by_index : goal.returns-clause-by_index
returns-clause-by_index c = λ us. c.loop-k.invariant.1 us ∙ ap (λ (cs : List Clause). length (concat_map prefix_of cs)) (before_is _ _ _ c.requires us c.loop-k.k (omega arith))

pub returns-clause-upper_bound : goal.returns-clause-upper_bound
returns-clause-upper_bound c = omega (arith, clauses_few _ _ _ c.requires)
