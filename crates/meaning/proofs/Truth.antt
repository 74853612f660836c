-- Demand 2, for a record and rules that fit: every pair has exactly one derivation, and it is what the function computes.
--     truth_derived      the rules derive `truth` of every pair
--     truth_only         and nothing else
--     truth_is           `truth` is its own rule, with no depth in it
--     applies_fall, applies_inside     what `applies` gives falls in rank and stays inside
-- Assumes nothing.
use mathlib.Core.List.{List}
use mathlib.Core.Path.{◌≡◌}
use Prim.Native.Nat.{ℕ, zero, suc, ◌<◌}
use native.Mathlib.Nat.{not-suc-le-zero}
use native.Mathlib.Omega.{arith}
use Rattle.sheet.specs.Doc.{Doc}
use Rattle.rulesheet.specs.Ruleset.{Ruleset}
use Rattle.meaning.specs.Rules.{Pair, Result, Way, whole, answer, applied, depth, judgement, derive, truth, applies}
use Rattle.meaning.specs.Fit.{Fit, Inside, rank}
use Rattle.meaning.specs.Derivation.{Schema}
use Rattle.meaning.proofs.Lists.{Every, every_map}
use Rattle.meaning.proofs.Judgements.{same_answer}
use Rattle.meaning.proofs.Steps.{steps, falls, stays_inside, deep}
use Rattle.meaning.proofs.Derivations.{derived, one_result}

module _ (D : Doc) (R : Ruleset) (n m : ℕ) (fit : Fit D R n m) where
  pub all_fall : (w : Way) (sub : Pair → Result) (p : Pair) → Every (λ q. rank D R q < rank D R p) (applied sub (judgement D R w p))
  all_fall w sub p = every_map (λ q s. falls D R n m fit p q s) (steps D R sub w p)

  -- any depth above the rank gives the same
  enough : (f g : ℕ) (p : Pair) → rank D R p < f → rank D R p < g → derive D R f p ≡ derive D R g p
  unfolding derive
  enough zero g p hf hg = absurd (not-suc-le-zero hf)
  enough (suc f) zero p hf hg = absurd (not-suc-le-zero hg)
  enough (suc f) (suc g) p hf hg =
      same_answer (λ q. derive D R f q) (λ q. derive D R g q) (judgement D R whole p)
      (every_map (λ q (l : rank D R q < rank D R p). enough f g q (omega arith) (omega arith)) (all_fall whole (λ q. derive D R f q) p))

  pub truth_is : (p : Pair) → truth D R p ≡ answer (truth D R) (judgement D R whole p)
  unfolding truth derive
  truth_is p = enough depth (suc depth) p (deep D R n m fit p) (omega (arith, deep D R n m fit p))

  pub truth_derived : (p : Pair) → Schema D R p (truth D R p)
  unfolding truth
  truth_derived p = derived D R (rank D R) (all_fall whole) depth p (deep D R n m fit p)

  pub truth_only : (p : Pair) (r : Result) → Schema D R p r → r ≡ truth D R p
  truth_only p r d = one_result D R d (truth_derived p)

  pub applies_fall : (w : Way) (p : Pair) → Every (λ q. rank D R q < rank D R p) (applies D R w p)
  unfolding applies
  applies_fall w p = all_fall w (truth D R) p

  pub applies_inside : (w : Way) (p : Pair) → Inside n m p → Every (Inside n m) (applies D R w p)
  unfolding applies
  applies_inside w p h = every_map (λ q s. stays_inside D R n m fit p q h s) (steps D R (truth D R) w p)
