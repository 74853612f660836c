-- What the codes that some of a sheet's readers ask for are decoded to.
--     types_decoded, minimum_decoded, maximum_decoded, above_decoded, below_decoded, min_length_decoded, max_length_decoded, min_items_decoded, max_items_decoded, min_properties_decoded, max_properties_decoded
--                       each code whose test a row's own words mostly tell
--     all_of_decoded, any_of_decoded, one_of_decoded, not_of_decoded, ref_of_decoded, if_decoded, dependent_decoded, members_decoded, additional_decoded, prefix_decoded, items_decoded, contains_decoded, fresh_members_decoded, fresh_items_decoded
--                       each code that applies schemas
-- Assumes nothing.
use mathlib.Core.Logic.{inl}
use mathlib.Core.Path.{refl, ap}
use Prim.Native.Nat.{ℕ}
use Rattle.decimal.specs.declared.Decimal.{Decimal}
use Rattle.decimal.specs.Value.{OfWord}
use Rattle.sheet.specs.declared.record.RuleRow.{RuleRow}
use Rattle.rulesheet.specs.declared.clause.Entries.{Entries}
use Rattle.rulesheet.specs.declared.clause.Clause.TheVariants.{Types, Minimum, Maximum, ExclusiveMinimum, ExclusiveMaximum, MinLength, MaxLength, MinItems, MaxItems, MinProperties, MaxProperties}
use Rattle.rulesheet.specs.declared.clause.Clause.TheVariants.{AllOf, AnyOf, OneOf, Not, Ref, IfThenElse, DependentSchemas, Properties, AdditionalProperties, PrefixItems, Items, Contains, UnevaluatedProperties, UnevaluatedItems}
use Rattle.rulesheet.specs.Ruleset.{asserts, minimum, maximum, exclusive_minimum, exclusive_maximum}
use Rattle.rulesheet.specs.Codes.{line_in}
use Rattle.rulesheet.specs.Clauses.{Decoded}

module _ (first count : ℕ) where
  abbrev entries : Entries
  entries = record { first = first; count = count }

  abbrev schema : RuleRow
  schema = record { 0 = first }

  pub types_decoded : Decoded 2 first count (Types first)
  unfolding line_in
  types_decoded = record { means = λ ws ts. refl; holds = tt }

  module _ {d : Decimal} (o : OfWord first count d) where
    pub minimum_decoded : Decoded 10 first count (Minimum d)
    unfolding line_in
    minimum_decoded = record { means = λ ws ts. ap (λ z. asserts (minimum z)) o.means; holds = (o, inl refl) }

    pub maximum_decoded : Decoded 11 first count (Maximum d)
    unfolding line_in
    maximum_decoded = record { means = λ ws ts. ap (λ z. asserts (maximum z)) o.means; holds = (o, inl refl) }

    pub above_decoded : Decoded 12 first count (ExclusiveMinimum d)
    unfolding line_in
    above_decoded = record { means = λ ws ts. ap (λ z. asserts (exclusive_minimum z)) o.means; holds = (o, inl refl) }

    pub below_decoded : Decoded 13 first count (ExclusiveMaximum d)
    unfolding line_in
    below_decoded = record { means = λ ws ts. ap (λ z. asserts (exclusive_maximum z)) o.means; holds = (o, inl refl) }

  pub min_length_decoded : Decoded 20 first count (MinLength first)
  unfolding line_in
  min_length_decoded = record { means = λ ws ts. refl; holds = tt }

  pub max_length_decoded : Decoded 21 first count (MaxLength first)
  unfolding line_in
  max_length_decoded = record { means = λ ws ts. refl; holds = tt }

  pub min_items_decoded : Decoded 22 first count (MinItems first)
  unfolding line_in
  min_items_decoded = record { means = λ ws ts. refl; holds = tt }

  pub max_items_decoded : Decoded 23 first count (MaxItems first)
  unfolding line_in
  max_items_decoded = record { means = λ ws ts. refl; holds = tt }

  pub min_properties_decoded : Decoded 24 first count (MinProperties first)
  unfolding line_in
  min_properties_decoded = record { means = λ ws ts. refl; holds = tt }

  pub max_properties_decoded : Decoded 25 first count (MaxProperties first)
  unfolding line_in
  max_properties_decoded = record { means = λ ws ts. refl; holds = tt }

  pub all_of_decoded : Decoded 30 first count (AllOf entries)
  unfolding line_in
  all_of_decoded = record { means = λ ws ts. refl; holds = (refl, refl, refl, refl) }

  pub any_of_decoded : Decoded 31 first count (AnyOf entries)
  unfolding line_in
  any_of_decoded = record { means = λ ws ts. refl; holds = (refl, refl, refl, refl) }

  pub one_of_decoded : Decoded 32 first count (OneOf entries)
  unfolding line_in
  one_of_decoded = record { means = λ ws ts. refl; holds = (refl, refl, refl, refl) }

  pub not_of_decoded : Decoded 33 first count (Not schema)
  unfolding line_in
  not_of_decoded = record { means = λ ws ts. refl; holds = (refl, refl) }

  pub ref_of_decoded : Decoded 34 first count (Ref schema)
  unfolding line_in
  ref_of_decoded = record { means = λ ws ts. refl; holds = (refl, refl) }

  pub if_decoded : Decoded 36 first count (IfThenElse entries)
  unfolding line_in
  if_decoded = record { means = λ ws ts. refl; holds = (refl, refl, refl, refl) }

  pub dependent_decoded : Decoded 37 first count (DependentSchemas entries)
  unfolding line_in
  dependent_decoded = record { means = λ ws ts. refl; holds = (refl, refl, refl, refl) }

  pub members_decoded : Decoded 40 first count (Properties entries)
  unfolding line_in
  members_decoded = record { means = λ ws ts. refl; holds = (refl, refl, refl, refl) }

  pub additional_decoded : Decoded 42 first count (AdditionalProperties schema)
  unfolding line_in
  additional_decoded = record { means = λ ws ts. refl; holds = (refl, refl) }

  pub prefix_decoded : Decoded 43 first count (PrefixItems entries)
  unfolding line_in
  prefix_decoded = record { means = λ ws ts. refl; holds = (refl, refl, refl, refl) }

  pub items_decoded : Decoded 44 first count (Items schema)
  unfolding line_in
  items_decoded = record { means = λ ws ts. refl; holds = (refl, refl) }

  pub contains_decoded : Decoded 45 first count (Contains entries)
  unfolding line_in
  contains_decoded = record { means = λ ws ts. refl; holds = (refl, refl, refl, refl) }

  pub fresh_members_decoded : Decoded 60 first count (UnevaluatedProperties schema)
  unfolding line_in
  fresh_members_decoded = record { means = λ ws ts. refl; holds = (refl, refl) }

  pub fresh_items_decoded : Decoded 61 first count (UnevaluatedItems schema)
  unfolding line_in
  fresh_items_decoded = record { means = λ ws ts. refl; holds = (refl, refl) }
