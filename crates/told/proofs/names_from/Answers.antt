use mathlib.Core.Path.{◌≡◌, refl, sym, ap, ◌∙◌}
use native.Mathlib.Omega.{arith}
use Rattle.rulesheet.specs.Sheet.{run}
use Rattle.meaning.specs.Lists.{concat_map}
use Rattle.meaning.specs.Rules.{names_of}
use Rattle.told.proofs.Earlier.{unnaming, names_more, before_part, clauses_few}
use Rattle.told.proofs.names_from.Goals as goal

pub loop-k-init : goal.loop-k-init
unfolding concat_map run
loop-k-init c = λ us. refl

pub overflow_add-first : goal.overflow_add-first
overflow_add-first c = omega (arith, clauses_few _ _ _ c.requires)

pub telling_of-requires : goal.telling_of-requires
telling_of-requires c = (c.requires.0.clauses_laid.schemas_laid.formed, omega (arith, clauses_few _ _ _ c.requires))

pub returns-then-has_names-clause-by_index : goal.returns-then-has_names-clause-by_index
returns-then-has_names-clause-by_index c = λ us. ap (concat_map names_of) (before_part _ _ _ c.requires us c.loop-k.k (omega arith)) ∙ c.loop-k.invariant us

pub loop-k-preserved : goal.loop-k-preserved
loop-k-preserved c =
    λ us. names_more c.args.rules.now us c.args.first c.loop-k.k _ (c.telling_of.ensures.means_telling us) (c.loop-k.invariant us) (unnaming _ (sym (c.has_names.ensures c.args.rules.now us) ∙ c.if-has_names.false))

pub returns : goal.returns
returns c =
    let end : c.loop-k.k ≡ c.args.i = omega arith in
    record {
      by_index = λ us. ap (concat_map names_of) (before_part _ _ _ c.requires us c.args.i (omega arith)) ∙ (rw end at (c.loop-k.invariant us));
      upper_bound = omega arith;
    }
