-- What a judgement's answer and its applied pairs come to.
--     up_to, answer_upto, applied_upto      of `each`: the pairs up to where it stops
--     answer_each, applied_each            where it is whole
--     answer_then, applied_then            of `and_then`
--     same_answer, same_applied        a judgement depends on the results of the pairs that it applies, and on nothing else
-- Assumes nothing.
use mathlib.Core.Bool.{Bool, true, false, cond}
use mathlib.Core.List.{List, [], ◌∷◌, ◌++◌, map}
use mathlib.Core.Path.{◌≡◌, refl, ap, ◌∙◌}
use Rattle.meaning.specs.Rules.{Pair, Result, Judgement, found, apply, answer, applied, and_then, Way, whole, stops, each}
use Rattle.meaning.proofs.Lists.{Every, every_nil, every_cons}

-- the pairs that are applied of a list: when cut, up to the first that fails
unfoldable pub up_to : (Pair → Result) → Way → List Pair → List Pair
up_to sub w [] = []
up_to sub w (p ∷ ps) = p ∷ cond (stops w (sub p)) [] (up_to sub w ps)

module _ (sub : Pair → Result) where
  pub answer_upto : (w : Way) (ps : List Pair) (k : List Result → Judgement) → answer sub (each w ps k) ≡ answer sub (k (map sub (up_to sub w ps)))
  unfolding answer each up_to
  answer_upto w [] k = refl
  answer_upto w (p ∷ ps) k = by (stops w (sub p)) (answer_upto w ps (λ rs. k (sub p ∷ rs)))
    where
      by : (b : Bool) → answer sub (each w ps (λ rs. k (sub p ∷ rs))) ≡ answer sub (k (sub p ∷ map sub (up_to sub w ps)))
          → answer sub (cond b (k (sub p ∷ [])) (each w ps (λ rs. k (sub p ∷ rs)))) ≡ answer sub (k (sub p ∷ map sub (cond b [] (up_to sub w ps))))
      by true e = refl
      by false e = e

  pub applied_upto : (w : Way) (ps : List Pair) (k : List Result → Judgement) → applied sub (each w ps k) ≡ up_to sub w ps ++ applied sub (k (map sub (up_to sub w ps)))
  unfolding applied each up_to
  applied_upto w [] k = refl
  applied_upto w (p ∷ ps) k = ap (λ l. p ∷ l) (by (stops w (sub p)) (applied_upto w ps (λ rs. k (sub p ∷ rs))))
    where
      by : (b : Bool) → applied sub (each w ps (λ rs. k (sub p ∷ rs))) ≡ up_to sub w ps ++ applied sub (k (sub p ∷ map sub (up_to sub w ps)))
          → applied sub (cond b (k (sub p ∷ [])) (each w ps (λ rs. k (sub p ∷ rs))))
          ≡ cond b [] (up_to sub w ps) ++ applied sub (k (sub p ∷ map sub (cond b [] (up_to sub w ps))))
      by true e = refl
      by false e = e

  pub answer_each : (ps : List Pair) (k : List Result → Judgement) → answer sub (each whole ps k) ≡ answer sub (k (map sub ps))
  unfolding answer each stops
  answer_each [] k = refl
  answer_each (p ∷ ps) k = answer_each ps (λ rs. k (sub p ∷ rs))

  pub applied_each : (ps : List Pair) (k : List Result → Judgement) → applied sub (each whole ps k) ≡ ps ++ applied sub (k (map sub ps))
  unfolding applied each stops
  applied_each [] k = refl
  applied_each (p ∷ ps) k = ap (λ l. p ∷ l) (applied_each ps (λ rs. k (sub p ∷ rs)))

  pub answer_then : (J : Judgement) (f : Result → Judgement) → answer sub (and_then J f) ≡ answer sub (f (answer sub J))
  unfolding answer and_then
  answer_then (found r) f = refl
  answer_then (apply p k) f = answer_then (k (sub p)) f

  pub applied_then : (J : Judgement) (f : Result → Judgement) → applied sub (and_then J f) ≡ applied sub J ++ applied sub (f (answer sub J))
  unfolding answer applied and_then
  applied_then (found r) f = refl
  applied_then (apply p k) f = ap (λ l. p ∷ l) (applied_then (k (sub p)) f)

pub same_answer : (a b : Pair → Result) (J : Judgement) → Every (λ q. a q ≡ b q) (applied a J) → answer a J ≡ answer b J
unfolding answer applied
same_answer a b (found r) h = refl
same_answer a b (apply p k) (every_cons e h) = same_answer a b (k (a p)) h ∙ ap (λ r. answer b (k r)) e

pub same_applied : (a b : Pair → Result) (J : Judgement) → Every (λ q. a q ≡ b q) (applied a J) → applied a J ≡ applied b J
unfolding applied
same_applied a b (found r) h = refl
same_applied a b (apply p k) (every_cons e h) = ap (λ l. p ∷ l) (same_applied a b (k (a p)) h ∙ ap (λ r. applied b (k r)) e)
