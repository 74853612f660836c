-- A clause that asserts something has no steps (`no_steps`).
-- Assumes nothing.
use mathlib.Core.List.{List, [], ◌∷◌}
use mathlib.Core.Path.{◌≡◌, refl}
use Prim.Native.Nat.{ℕ}
use types.Run.{OneOf, miss}
use denote.Enum.Declared.{tag_of}
use Rattle.sheet.specs.Doc.{Doc}
use Rattle.rulesheet.specs.contracts.clause.Clause.{the_type}
use Rattle.rulesheet.specs.declared.clause.Clause.{Clause}
use Rattle.rulesheet.specs.declared.clause.Clause.TheVariants.{Never, Types, Enum, Minimum, Maximum, ExclusiveMinimum, ExclusiveMaximum, MultipleOf}
use Rattle.rulesheet.specs.declared.clause.Clause.TheVariants.{MinLength, MaxLength, MinItems, MaxItems, MinProperties, MaxProperties, Required}
use Rattle.rulesheet.specs.declared.clause.Clause.TheVariants.{AllOf, AnyOf, OneOf as Exactly, Not, Ref, IfThenElse, DependentSchemas, Properties, AdditionalProperties, PrefixItems, Items, Contains, UnevaluatedProperties, UnevaluatedItems}
use Rattle.rulesheet.specs.Ruleset as R
use Rattle.rulesheet.specs.Ruleset.{Test, asserts}
use Rattle.rulesheet.specs.Clauses.{clause_means}
use Rattle.meaning.specs.Rules.{Pair}
use Rattle.plan.specs.Plan.{steps_of}

-- the positions of the variants that assert
abbrev pub asserters : List ℕ
asserters = 0 ∷ 1 ∷ 2 ∷ 3 ∷ 4 ∷ 5 ∷ 6 ∷ 7 ∷ 8 ∷ 9 ∷ 10 ∷ 11 ∷ 12 ∷ 13 ∷ 14 ∷ []

-- a clause that asserts something
record Asserts (c : R.Clause) : Type 0 where
  test : Test
  means : c ≡ asserts test

asserting : (rs us : List ℕ) (clause : Clause) → OneOf asserters (tag_of the_type clause) → Asserts (clause_means rs us clause)
asserting rs us Never k = record { test = _; means = refl }
asserting rs us (Types mask) k = record { test = _; means = refl }
asserting rs us (Enum es) k = record { test = _; means = refl }
asserting rs us (Minimum d) k = record { test = _; means = refl }
asserting rs us (Maximum d) k = record { test = _; means = refl }
asserting rs us (ExclusiveMinimum d) k = record { test = _; means = refl }
asserting rs us (ExclusiveMaximum d) k = record { test = _; means = refl }
asserting rs us (MultipleOf d) k = record { test = _; means = refl }
asserting rs us (MinLength n) k = record { test = _; means = refl }
asserting rs us (MaxLength n) k = record { test = _; means = refl }
asserting rs us (MinItems n) k = record { test = _; means = refl }
asserting rs us (MaxItems n) k = record { test = _; means = refl }
asserting rs us (MinProperties n) k = record { test = _; means = refl }
asserting rs us (MaxProperties n) k = record { test = _; means = refl }
asserting rs us (Required es) k = record { test = _; means = refl }
asserting rs us (AllOf es) k = absurd (miss asserters 15 tt k)
asserting rs us (AnyOf es) k = absurd (miss asserters 16 tt k)
asserting rs us (Exactly es) k = absurd (miss asserters 17 tt k)
asserting rs us (Not row) k = absurd (miss asserters 18 tt k)
asserting rs us (Ref row) k = absurd (miss asserters 19 tt k)
asserting rs us (IfThenElse es) k = absurd (miss asserters 20 tt k)
asserting rs us (DependentSchemas es) k = absurd (miss asserters 21 tt k)
asserting rs us (Properties es) k = absurd (miss asserters 22 tt k)
asserting rs us (AdditionalProperties row) k = absurd (miss asserters 23 tt k)
asserting rs us (PrefixItems es) k = absurd (miss asserters 24 tt k)
asserting rs us (Items row) k = absurd (miss asserters 25 tt k)
asserting rs us (Contains es) k = absurd (miss asserters 26 tt k)
asserting rs us (UnevaluatedProperties row) k = absurd (miss asserters 27 tt k)
asserting rs us (UnevaluatedItems row) k = absurd (miss asserters 28 tt k)

pub no_steps : (d : Doc) (p : Pair) (before : List R.Clause) (rs us : List ℕ) (clause : Clause) → OneOf asserters (tag_of the_type clause) → steps_of d p before (clause_means rs us clause) ≡ 0
unfolding steps_of
no_steps d p before rs us clause k = let a = asserting rs us clause k in rw a.means
