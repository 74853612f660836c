-- What a clause says in the end is what its plan says.
--     any_ends, one_ends, not_ends, if_ends, contains_ends, all_ends     what a clause says in the end, by the variant that was read and what is carried
--     spared_ends, ends_finish     and by what is read of it
--     all_after, next_after, applied_after       where a failure leads a clause, by the variant that was read and by what is read of it
--     enough_held     of elements, by how many there are
-- Assumes nothing.
use Rattle.std.specs.Prelude.{Option as Found, Some, None, IsTrue, MatchOption}
use mathlib.Core.Bool.{Bool, true, ◌&&◌}
use mathlib.Core.Option.{some, none}
use mathlib.Core.List.{List, [], ◌∷◌}
use mathlib.Core.Path.{◌≡◌, refl, sym, ap, ◌∙◌}
use Prim.Native.Nat.{ℕ, ◌+◌, ◌-◌}
use lib.Dec.{eqb, leb, ltb}
use types.Run.{OneOf, miss}
use denote.Enum.Declared.{tag_of}
use Rattle.sheet.specs.Doc.{Value, null, bool, number, string, array, object, Doc}
use Rattle.sheet.specs.declared.record.RuleRow.{RuleRow}
use Rattle.rulesheet.specs.contracts.clause.Clause.{the_type}
use Rattle.rulesheet.specs.declared.form.EntryRow.{EntryRow}
use Rattle.rulesheet.specs.declared.clause.Entries.{Entries}
use Rattle.rulesheet.specs.declared.clause.Clause.{Clause}
use Rattle.rulesheet.specs.declared.clause.Clause.TheVariants.{Never, Types, Enum, Minimum, Maximum, ExclusiveMinimum, ExclusiveMaximum, MultipleOf}
use Rattle.rulesheet.specs.declared.clause.Clause.TheVariants.{MinLength, MaxLength, MinItems, MaxItems, MinProperties, MaxProperties, Required}
use Rattle.rulesheet.specs.declared.clause.Clause.TheVariants.{AllOf, AnyOf, OneOf as Exactly, Not, Ref, IfThenElse, DependentSchemas, Properties, AdditionalProperties, PrefixItems, Items, Contains, UnevaluatedProperties, UnevaluatedItems}
use Rattle.rulesheet.specs.Ruleset as R
use Rattle.rulesheet.specs.Ruleset.{Test, all_of, any_of, one_of, not_of, ref, asserts, in_place, if_then_else, dependent_schemas, contains, takes}
use Rattle.rulesheet.specs.Clauses.{entry_in, clause_means}
use Rattle.few.specs.Asked.{applying, sparing}
use Rattle.rulesheet.proofs.Items.{schemas_long}
use Rattle.meaning.specs.Tests.{elements?, given}
use Rattle.meaning.specs.Rules.{Pair, within, contained}
use Rattle.looking.specs.Read.{size_in, size_of}
use Rattle.plan.specs.Plan.{ends_by, after_miss, finish_of}

-- ---- what a clause says in the end, by what is carried

-- the positions of the variants that need every step to hold, and those that assert
abbrev pub others : List ℕ
others = 0 ∷ 1 ∷ 2 ∷ 3 ∷ 4 ∷ 5 ∷ 6 ∷ 7 ∷ 8 ∷ 9 ∷ 10 ∷ 11 ∷ 12 ∷ 13 ∷ 14 ∷ 15 ∷ 19 ∷ 21 ∷ 22 ∷ 23 ∷ 24 ∷ 25 ∷ 27 ∷ 28 ∷ []

module _ (d : Doc) (p : Pair) (misses : ℕ) (rs us : List ℕ) where
  -- what the clause says
  abbrev pub Ends : Clause → Bool → Type 0
  Ends clause r = r ≡ ends_by d p (clause_means rs us clause) misses

  pub any_ends : (es : Entries) → Ends (AnyOf es) (ltb misses es.count)
  unfolding ends_by
  any_ends es = ap (ltb misses) (sym (schemas_long rs es))

  pub one_ends : (es : Entries) → Ends (Exactly es) (eqb (es.count - misses) 1)
  unfolding ends_by
  one_ends es = ap (λ (n : ℕ). eqb (n - misses) 1) (sym (schemas_long rs es))

  pub not_ends : (row : RuleRow) → Ends (Not row) (eqb misses 1)
  unfolding ends_by
  not_ends row = refl

  pub if_ends : (es : Entries) → Ends (IfThenElse es) (ltb misses 2)
  unfolding ends_by
  if_ends es = refl

  pub contains_ends : (es : Entries) (entry : EntryRow) (r : Bool) → entry ≡ entry_in rs es 0 → r ≡ contained d p.row entry.second entry.third misses → Ends (Contains es) r
  unfolding ends_by
  contains_ends es entry r e f = f ∙ ap (λ (x : EntryRow). contained d p.row x.second x.third misses) e

  pub all_ends : (clause : Clause) → OneOf others (tag_of the_type clause) → Ends clause (eqb misses 0)
  unfolding ends_by
  all_ends Never k = refl
  all_ends (Types mask) k = refl
  all_ends (Enum es) k = refl
  all_ends (Minimum z) k = refl
  all_ends (Maximum z) k = refl
  all_ends (ExclusiveMinimum z) k = refl
  all_ends (ExclusiveMaximum z) k = refl
  all_ends (MultipleOf z) k = refl
  all_ends (MinLength n) k = refl
  all_ends (MaxLength n) k = refl
  all_ends (MinItems n) k = refl
  all_ends (MaxItems n) k = refl
  all_ends (MinProperties n) k = refl
  all_ends (MaxProperties n) k = refl
  all_ends (Required es) k = refl
  all_ends (AllOf es) k = refl
  all_ends (AnyOf es) k = absurd (miss others 16 tt k)
  all_ends (Exactly es) k = absurd (miss others 17 tt k)
  all_ends (Not row) k = absurd (miss others 18 tt k)
  all_ends (Ref row) k = refl
  all_ends (IfThenElse es) k = absurd (miss others 20 tt k)
  all_ends (DependentSchemas es) k = refl
  all_ends (Properties es) k = refl
  all_ends (AdditionalProperties row) k = refl
  all_ends (PrefixItems es) k = refl
  all_ends (Items row) k = refl
  all_ends (Contains es) k = absurd (miss others 26 tt k)
  all_ends (UnevaluatedProperties row) k = refl
  all_ends (UnevaluatedItems row) k = refl

-- what is asked in the end is asked of few clauses
pub spared_ends : (d : Doc) (p : Pair) (c : R.Clause) (tally : ℕ) → ends_by d p (sparing c) tally ≡ ends_by d p c tally
unfolding ends_by sparing
spared_ends d p (asserts t) tally = refl
spared_ends d p (in_place all_of ss) tally = refl
spared_ends d p (in_place any_of ss) tally = refl
spared_ends d p (in_place one_of ss) tally = refl
spared_ends d p (in_place not_of ss) tally = refl
spared_ends d p (in_place ref ss) tally = refl
spared_ends d p (if_then_else i t e) tally = refl
spared_ends d p (dependent_schemas es) tally = refl
spared_ends d p (contains s least most) tally = refl
spared_ends d p (takes c) tally = refl

-- the positions of all variants but all_of
abbrev pub uncut : List ℕ
uncut = 0 ∷ 1 ∷ 2 ∷ 3 ∷ 4 ∷ 5 ∷ 6 ∷ 7 ∷ 8 ∷ 9 ∷ 10 ∷ 11 ∷ 12 ∷ 13 ∷ 14 ∷ 16 ∷ 17 ∷ 18 ∷ 19 ∷ 20 ∷ 21 ∷ 22 ∷ 23 ∷ 24 ∷ 25 ∷ 26 ∷ 27 ∷ 28 ∷ []

module _ (step : ℕ) (rs us : List ℕ) where
  -- the step after a failure
  abbrev pub After : Clause → ℕ → Type 0
  After clause r = r ≡ after_miss (clause_means rs us clause) step

  pub all_after : (es : Entries) → After (AllOf es) es.count
  unfolding after_miss
  all_after es = sym (schemas_long rs es)

  pub next_after : (clause : Clause) → OneOf uncut (tag_of the_type clause) → After clause (step + 1)
  unfolding after_miss
  next_after Never k = refl
  next_after (Types mask) k = refl
  next_after (Enum es) k = refl
  next_after (Minimum z) k = refl
  next_after (Maximum z) k = refl
  next_after (ExclusiveMinimum z) k = refl
  next_after (ExclusiveMaximum z) k = refl
  next_after (MultipleOf z) k = refl
  next_after (MinLength n) k = refl
  next_after (MaxLength n) k = refl
  next_after (MinItems n) k = refl
  next_after (MaxItems n) k = refl
  next_after (MinProperties n) k = refl
  next_after (MaxProperties n) k = refl
  next_after (Required es) k = refl
  next_after (AllOf es) k = absurd (miss uncut 15 tt k)
  next_after (AnyOf es) k = refl
  next_after (Exactly es) k = refl
  next_after (Not row) k = refl
  next_after (Ref row) k = refl
  next_after (IfThenElse es) k = refl
  next_after (DependentSchemas es) k = refl
  next_after (Properties es) k = refl
  next_after (AdditionalProperties row) k = refl
  next_after (PrefixItems es) k = refl
  next_after (Items row) k = refl
  next_after (Contains es) k = refl
  next_after (UnevaluatedProperties row) k = refl
  next_after (UnevaluatedItems row) k = refl

pub applied_after : (c : R.Clause) (step : ℕ) → after_miss (applying c) step ≡ after_miss c step
unfolding after_miss applying
applied_after (asserts t) step = refl
applied_after (in_place m ss) step = refl
applied_after (if_then_else i t e) step = refl
applied_after (dependent_schemas es) step = refl
applied_after (contains s least most) step = refl
applied_after (takes c) step = refl

-- a clause that applies schemas says in the end what any clause says
pub ends_finish : (d : Doc) (p : Pair) (c : R.Clause) (tally : ℕ) → ((t : Test) → c ≡ asserts t → ⊥) → ends_by d p c tally ≡ finish_of d p c tally
unfolding finish_of
ends_finish d p (asserts t) tally applies = absurd (applies t refl)
ends_finish d p (in_place m ss) tally applies = refl
ends_finish d p (if_then_else i t e) tally applies = refl
ends_finish d p (dependent_schemas es) tally applies = refl
ends_finish d p (contains s least most) tally applies = refl
ends_finish d p (takes c) tally applies = refl

-- ---- how many elements are enough

enough_size : (v : Value) (least most tally n : ℕ) → some n ≡ size_of (elements? v) → (leb least tally && leb tally most) ≡ given (elements? v) (λ ks. within least most tally)
unfolding elements? given within
enough_size null least most tally n e = cc
enough_size (bool b) least most tally n e = cc
enough_size (number z) least most tally n e = cc
enough_size (string bytes) least most tally n e = cc
enough_size (array first k) least most tally n e = refl
enough_size (object first k) least most tally n e = cc

enough_none : (v : Value) (least most tally : ℕ) → none ≡ size_of (elements? v) → true ≡ given (elements? v) (λ ks. within least most tally)
unfolding elements? given
enough_none null least most tally e = refl
enough_none (bool b) least most tally e = refl
enough_none (number z) least most tally e = refl
enough_none (string bytes) least most tally e = refl
enough_none (array first k) least most tally e = cc
enough_none (object first k) least most tally e = refl

pub enough_held : (v : Value) (least most tally : ℕ) (r : Found ℕ) {Made : ℕ → Type 0} (ok : Bool) → MatchOption r (IsTrue ok) Made → size_in r ≡ size_of (elements? v)
    → ((n : ℕ) → Made n → ok ≡ (leb least tally && leb tally most)) → ok ≡ given (elements? v) (λ ks. within least most tally)
enough_held v least most tally (Some n) ok made e is = is n made ∙ enough_size v least most tally n e
enough_held v least most tally None ok made e is = made ∙ enough_none v least most tally e
