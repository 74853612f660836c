-- What a clause asserts, by the variant that was read.
--     tried, answered     an answer to the test of the variant answers the clause, whatever test it is
--     bounds, list_read   what is known of the number or the list that the variant holds
--     no_test             the variants that apply schemas have no test
-- Assumes nothing.
use mathlib.Core.Bool.{Bool}
use mathlib.Core.List.{List, [], ◌∷◌}
use mathlib.Core.Path.{◌≡◌, sym, ap, ◌∙◌}
use Prim.Native.Nat.{ℕ}
use native.Mathlib.Omega.{arith}
use types.Run.{OneOf, miss}
use denote.Enum.Declared.{tag_of}
use Rattle.sheet.specs.Doc.{Doc}
use Rattle.rulesheet.specs.contracts.clause.Clause.{the_type}
use Rattle.rulesheet.specs.declared.code.Fields.{Fields}
use Rattle.rulesheet.specs.declared.form.RuleForm.{RuleForm}
use Rattle.rulesheet.specs.declared.clause.Entries.{Entries}
use Rattle.rulesheet.specs.declared.clause.Clause.{Clause}
use Rattle.rulesheet.specs.declared.clause.Clause.TheVariants.{Never, Types, Enum, Minimum, Maximum, ExclusiveMinimum, ExclusiveMaximum, MultipleOf}
use Rattle.rulesheet.specs.declared.clause.Clause.TheVariants.{MinLength, MaxLength, MinItems, MaxItems, MinProperties, MaxProperties, Required}
use Rattle.rulesheet.specs.declared.clause.Clause.TheVariants.{AllOf, AnyOf, OneOf as Exactly, Not, Ref, IfThenElse, DependentSchemas, Properties, AdditionalProperties, PrefixItems, Items, Contains, UnevaluatedProperties, UnevaluatedItems}
use Rattle.rulesheet.specs.Ruleset.{Test, asserts}
use Rattle.rulesheet.specs.Clauses.{clause_means, list, held, Bounded, Listed, Sized, Tested}
use Rattle.meaning.specs.Rules.{passes}
use Rattle.clause.specs.Read.{RulesRead, ListRead, Tries}

-- the positions of the variants that apply schemas
abbrev appliers : List ℕ
appliers = 15 ∷ 16 ∷ 17 ∷ 18 ∷ 19 ∷ 20 ∷ 21 ∷ 22 ∷ 23 ∷ 24 ∷ 25 ∷ 26 ∷ 27 ∷ 28 ∷ []

module _ (ws ts : List ℕ) where
  pub tried : (d : Doc) (j : ℕ) (clause variant : Clause) (s : Test) (ok : Bool) → clause ≡ variant → clause_means ws ts variant ≡ asserts s → ok ≡ passes d j s
      → Tries d j (clause_means ws ts clause) ok
  tried d j clause variant s ok e means is = (s, ap (clause_means ws ts) e ∙ means, is)

  pub answered : (d : Doc) (j : ℕ) (clause variant : Clause) (s : Test) (ok : Bool) → clause ≡ variant → clause_means ws ts variant ≡ asserts s → ok ≡ passes d j s
      → (t : Test) → clause_means ws ts clause ≡ asserts t → ok ≡ passes d j t
  answered d j clause variant s ok e means is t h =
      let twice : asserts s ≡ asserts t = sym means ∙ sym (ap (clause_means ws ts) e) ∙ h in
      let same : s ≡ t = cc in
      is ∙ ap (passes d j) same

  pub no_test : (clause : Clause) → OneOf appliers (tag_of the_type clause) → (t : Test) → clause_means ws ts clause ≡ asserts t → ⊥
  no_test Never k t e = absurd (miss appliers 0 tt k)
  no_test (Types mask) k t e = absurd (miss appliers 1 tt k)
  no_test (Enum es) k t e = absurd (miss appliers 2 tt k)
  no_test (Minimum d) k t e = absurd (miss appliers 3 tt k)
  no_test (Maximum d) k t e = absurd (miss appliers 4 tt k)
  no_test (ExclusiveMinimum d) k t e = absurd (miss appliers 5 tt k)
  no_test (ExclusiveMaximum d) k t e = absurd (miss appliers 6 tt k)
  no_test (MultipleOf d) k t e = absurd (miss appliers 7 tt k)
  no_test (MinLength n) k t e = absurd (miss appliers 8 tt k)
  no_test (MaxLength n) k t e = absurd (miss appliers 9 tt k)
  no_test (MinItems n) k t e = absurd (miss appliers 10 tt k)
  no_test (MaxItems n) k t e = absurd (miss appliers 11 tt k)
  no_test (MinProperties n) k t e = absurd (miss appliers 12 tt k)
  no_test (MaxProperties n) k t e = absurd (miss appliers 13 tt k)
  no_test (Required es) k t e = absurd (miss appliers 14 tt k)
  no_test (AllOf es) k t e = let z : ◌≡◌ {A = ℕ} 0 1 = cc in omega arith
  no_test (AnyOf es) k t e = let z : ◌≡◌ {A = ℕ} 0 1 = cc in omega arith
  no_test (Exactly es) k t e = let z : ◌≡◌ {A = ℕ} 0 1 = cc in omega arith
  no_test (Not row) k t e = let z : ◌≡◌ {A = ℕ} 0 1 = cc in omega arith
  no_test (Ref row) k t e = let z : ◌≡◌ {A = ℕ} 0 1 = cc in omega arith
  no_test (IfThenElse es) k t e = let z : ◌≡◌ {A = ℕ} 0 1 = cc in omega arith
  no_test (DependentSchemas es) k t e = let z : ◌≡◌ {A = ℕ} 0 1 = cc in omega arith
  no_test (Properties es) k t e = let z : ◌≡◌ {A = ℕ} 0 1 = cc in omega arith
  no_test (AdditionalProperties row) k t e = let z : ◌≡◌ {A = ℕ} 0 1 = cc in omega arith
  no_test (PrefixItems es) k t e = let z : ◌≡◌ {A = ℕ} 0 1 = cc in omega arith
  no_test (Items row) k t e = let z : ◌≡◌ {A = ℕ} 0 1 = cc in omega arith
  no_test (Contains es) k t e = let z : ◌≡◌ {A = ℕ} 0 1 = cc in omega arith
  no_test (UnevaluatedProperties row) k t e = let z : ◌≡◌ {A = ℕ} 0 1 = cc in omega arith
  no_test (UnevaluatedItems row) k t e = let z : ◌≡◌ {A = ℕ} 0 1 = cc in omega arith

module _ {ws ts : List ℕ} {form : RuleForm} {clause : Clause} (tested : Tested ws form clause) (rules : RulesRead ws ts form) (variant : Clause) (e : clause ≡ variant) where
  pub bounds : Bounded form (held variant)
  bounds = rw e at (tested.bounded rules.laid.clauses_laid)

  pub sizes : Sized (held variant)
  sizes = rw e at (tested.sized rules.laid.clauses_laid)

  pub list_read : (fields : Fields) (es : Entries) → held variant ≡ list fields es → ListRead ws form fields es
  list_read fields es h =
      let b : Bounded form (held variant) = bounds in
      let l : Listed ws (held variant) = rw e at (tested.listed rules.laid) in
      record { within = rw h at b; listed = rw h at l }
