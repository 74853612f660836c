-- Demand 3: what is said of the settling list of a full call, over the derivations of demand 2. It speaks of the full call only (02, #105); in its place
-- stands, for a call that is cut, what is said of the pairs that cut judgements reach.
-- Assumes nothing.
use mathlib.Core.List.{List, [], ◌∷◌, ◌++◌, Memᴰ as In}
use Rattle.std.specs.Prelude.{◌≡◌, ℕ, ◌*◌, ◌≤◌, length}
use Rattle.sheet.specs.Doc.{Doc}
use Rattle.rulesheet.specs.Ruleset.{Ruleset}
use Rattle.meaning.specs.Rules.{Pair, Result, cut}
use Rattle.meaning.specs.Derivation.{Schema, schema_applies, schema_pairs}
use Rattle.meaning.specs.Settling.{root, Reached}

-- nothing stands twice
abbrev pub Distinct : {A : Type 0} → List A → Type 0
Distinct [] = Unit {0}
Distinct (x ∷ xs) = (In x xs → ⊥) × Distinct xs

-- each pair stands after all those that its derivation applies
abbrev pub Ordered : Doc → Ruleset → List Pair → Type 0
Ordered D R l =
    (before after : List Pair) (p q : Pair) (r : Result) (d : Schema D R p r) → l ≡ before ++ p ∷ after → In q (schema_applies D R d) → In q before

-- each pair of every derivation of the root once and no other, each after all those that it applies, and at most n × m
pub record Once (D : Doc) (R : Ruleset) (n m : ℕ) (l : List Pair) : Type 0 where
  pub none_twice : Distinct l
  pub each_applied : (r : Result) (d : Schema D R root r) (q : Pair) → In q (schema_pairs D R d) → In q l
  pub no_other : (r : Result) (d : Schema D R root r) (q : Pair) → In q l → In q (schema_pairs D R d)
  pub after_applied : Ordered D R l
  pub at_most : length l ≤ n * m

-- each pair that cut judgements reach from the root once and no other; all are among those of every derivation of the root, and at most n × m
pub record Cut (D : Doc) (R : Ruleset) (n m : ℕ) (l : List Pair) : Type 0 where
  pub none_twice : Distinct l
  pub each_reached : (q : Pair) → Reached D R cut q root → In q l
  pub no_other : (q : Pair) → In q l → Reached D R cut q root
  pub among : (r : Result) (d : Schema D R root r) (q : Pair) → In q l → In q (schema_pairs D R d)
  pub at_most : length l ≤ n * m
