-- What the code's clauses stand for: each variant the clause of the rules that its keyword names, over the sheet's words and text; and what the tests
-- of the sheet say of it.
-- Assumes nothing.
use Rattle.std.specs.Prelude.{true, List, [], ◌∷◌, map, ◌⊎◌, ◌≡◌, ℕ, ◌+◌, ◌≤◌, ◌<◌, get_or}
use Rattle.decimal.specs.declared.Decimal.{Decimal}
use Rattle.decimal.specs.Value.{value, Plain, OfWord}
use Rattle.text.specs.declared.Range.{Range}
use Rattle.text.specs.Part.{fits, part}
use Rattle.sheet.specs.declared.record.RuleRow.{RuleRow}
use Rattle.sheet.specs.Doc.{Value}
use Rattle.rulesheet.specs.declared.code.Fields.{Fields}
use Rattle.rulesheet.specs.declared.code.Fields.TheVariants.{Unknown, Bare, Types as TypesOf, Number, Positive, Limit, Schema, Values, Names, Schemas, Members, Branches, Counted}
use Rattle.rulesheet.specs.declared.form.RuleForm.{RuleForm}
use Rattle.rulesheet.specs.declared.form.EntryRow.{EntryRow}
use Rattle.rulesheet.specs.declared.clause.Entries.{Entries}
use Rattle.rulesheet.specs.declared.clause.Clause.{Clause}
use Rattle.rulesheet.specs.declared.clause.Clause.TheVariants.{Never, Types, Enum, Minimum, Maximum, ExclusiveMinimum, ExclusiveMaximum, MultipleOf}
use Rattle.rulesheet.specs.declared.clause.Clause.TheVariants.{MinLength, MaxLength, MinItems, MaxItems, MinProperties, MaxProperties, Required}
use Rattle.rulesheet.specs.declared.clause.Clause.TheVariants.{AllOf, AnyOf, OneOf, Not, Ref, IfThenElse, DependentSchemas, Properties, AdditionalProperties, PrefixItems, Items, Contains}
use Rattle.rulesheet.specs.declared.clause.Clause.TheVariants.{UnevaluatedProperties, UnevaluatedItems}
use Rattle.rulesheet.specs.Ruleset as R
use Rattle.rulesheet.specs.Codes.{no_entry, entry_value, entry_name, entry_member, shape_of, means_of}
use Rattle.rulesheet.specs.Sheet.{schemas_word, text_word, entry_at, run, parts_of}
use Rattle.rulesheet.specs.Faults.{is_list, entry_ok, is_named}
use Rattle.rulesheet.specs.Read.{ClausesLaid, RulesLaid}

-- the entries of a list, read from the words
abbrev pub entries_of : List ℕ → Entries → List EntryRow
entries_of ws es = map (entry_at ws) (run es.count es.first)

-- entry i of them
abbrev pub entry_in : List ℕ → Entries → ℕ → EntryRow
entry_in ws es i = get_or (entries_of ws es) i no_entry

-- the lists that they stand for: schemas, values, names, names with schemas
abbrev pub schemas_in : List ℕ → Entries → List ℕ
schemas_in ws es = map (λ (e : EntryRow). e.first) (entries_of ws es)

abbrev pub values_in : List ℕ → List ℕ → Entries → List Value
values_in ws ts es = map (entry_value ts) (entries_of ws es)

abbrev pub names_in : List ℕ → List ℕ → Entries → List (List ℕ)
names_in ws ts es = map (entry_name ts) (entries_of ws es)

abbrev pub members_in : List ℕ → List ℕ → Entries → List (List ℕ × ℕ)
members_in ws ts es = map (entry_member ts) (entries_of ws es)

abbrev pub clause_means : List ℕ → List ℕ → Clause → R.Clause
clause_means ws ts Never = R.asserts R.never
clause_means ws ts (Types mask) = R.asserts (R.type mask)
clause_means ws ts (Enum es) = R.asserts (R.enum (values_in ws ts es))
clause_means ws ts (Minimum d) = R.asserts (R.minimum (value d))
clause_means ws ts (Maximum d) = R.asserts (R.maximum (value d))
clause_means ws ts (ExclusiveMinimum d) = R.asserts (R.exclusive_minimum (value d))
clause_means ws ts (ExclusiveMaximum d) = R.asserts (R.exclusive_maximum (value d))
clause_means ws ts (MultipleOf d) = R.asserts (R.multiple_of (value d))
clause_means ws ts (MinLength n) = R.asserts (R.min_length n)
clause_means ws ts (MaxLength n) = R.asserts (R.max_length n)
clause_means ws ts (MinItems n) = R.asserts (R.min_items n)
clause_means ws ts (MaxItems n) = R.asserts (R.max_items n)
clause_means ws ts (MinProperties n) = R.asserts (R.min_properties n)
clause_means ws ts (MaxProperties n) = R.asserts (R.max_properties n)
clause_means ws ts (Required es) = R.asserts (R.required (names_in ws ts es))
clause_means ws ts (AllOf es) = R.in_place R.all_of (schemas_in ws es)
clause_means ws ts (AnyOf es) = R.in_place R.any_of (schemas_in ws es)
clause_means ws ts (OneOf es) = R.in_place R.one_of (schemas_in ws es)
clause_means ws ts (Not row) = R.in_place R.not_of (row.0 ∷ [])
clause_means ws ts (Ref row) = R.in_place R.ref (row.0 ∷ [])
clause_means ws ts (IfThenElse es) = R.if_then_else (entry_in ws es 0).first (entry_in ws es 1).first (entry_in ws es 2).first
clause_means ws ts (DependentSchemas es) = R.dependent_schemas (members_in ws ts es)
clause_means ws ts (Properties es) = R.takes (R.properties (members_in ws ts es))
clause_means ws ts (AdditionalProperties row) = R.takes (R.additional_properties row.0)
clause_means ws ts (PrefixItems es) = R.takes (R.prefix_items (schemas_in ws es))
clause_means ws ts (Items row) = R.takes (R.items row.0)
clause_means ws ts (Contains es) = R.contains (entry_in ws es 0).first (entry_in ws es 0).second (entry_in ws es 0).third
clause_means ws ts (UnevaluatedProperties row) = R.takes (R.unevaluated_properties row.0)
clause_means ws ts (UnevaluatedItems row) = R.takes (R.unevaluated_items row.0)

-- ---- what the tests of the sheet say of a clause

-- what a clause holds: a number, a schema, a list whose entries have these fields, or nothing that has bounds
pub data Held : Type 0 where
  bare : Held
  number : Decimal → Held
  schema : RuleRow → Held
  list : Fields → Entries → Held

abbrev pub held : Clause → Held
held Never = bare
held (Types mask) = bare
held (Enum es) = list Values es
held (Minimum d) = number d
held (Maximum d) = number d
held (ExclusiveMinimum d) = number d
held (ExclusiveMaximum d) = number d
held (MultipleOf d) = number d
held (MinLength n) = bare
held (MaxLength n) = bare
held (MinItems n) = bare
held (MaxItems n) = bare
held (MinProperties n) = bare
held (MaxProperties n) = bare
held (Required es) = list Names es
held (AllOf es) = list Schemas es
held (AnyOf es) = list Schemas es
held (OneOf es) = list Schemas es
held (Not row) = schema row
held (Ref row) = schema row
held (IfThenElse es) = list Branches es
held (DependentSchemas es) = list Members es
held (Properties es) = list Members es
held (AdditionalProperties row) = schema row
held (PrefixItems es) = list Schemas es
held (Items row) = schema row
held (Contains es) = list Counted es
held (UnevaluatedProperties row) = schema row
held (UnevaluatedItems row) = schema row

-- a number is within the limits of exact arithmetic, a schema is one of the sheet, a list ends within the entries
abbrev pub Bounded : RuleForm → Held → Type 0
Bounded form bare = Unit
Bounded form (number d) = Plain d
Bounded form (schema row) = row.0 < form.m
Bounded form (list fields es) = es.first + es.count ≤ form.e

-- every entry of a list has what its fields ask
abbrev pub Listed : List ℕ → Held → Type 0
Listed ws bare = Unit
Listed ws (number d) = Unit
Listed ws (schema row) = Unit
Listed ws (list fields es) = (i : ℕ) → i < es.count → entry_ok fields (text_word ws) (schemas_word ws) (entry_at ws (es.first + i)) ≡ true

-- how many entries lists of these fields have, where that is fixed
abbrev pub SizedBy : Fields → ℕ → Type 0
SizedBy Unknown count = Unit
SizedBy Bare count = Unit
SizedBy TypesOf count = Unit
SizedBy Number count = Unit
SizedBy Positive count = Unit
SizedBy Limit count = Unit
SizedBy Schema count = Unit
SizedBy Values count = Unit
SizedBy Names count = Unit
SizedBy Schemas count = Unit
SizedBy Members count = Unit
SizedBy Branches count = count ≡ 3
SizedBy Counted count = count ≡ 1

abbrev pub Sized : Held → Type 0
Sized bare = Unit
Sized (number d) = Unit
Sized (schema row) = Unit
Sized (list fields es) = SizedBy fields es.count

-- what is known of a clause if no clause breaks the layout, and if no entry does either
pub record Tested (ws : List ℕ) (form : RuleForm) (clause : Clause) : Type 0 where
  pub bounded : ClausesLaid ws form → Bounded form (held clause)
  pub sized : ClausesLaid ws form → Sized (held clause)
  pub listed : RulesLaid ws form → Listed ws (held clause)

-- ---- a clause that was decoded from its three words

-- what it holds is what its first and count are, by the fields of its code
abbrev pub Holds : Fields → ℕ → ℕ → Held → Type 0
Holds fields first count bare = Unit
Holds fields first count (number d) = OfWord first count d × ((fields ≡ Number) ⊎ (fields ≡ Positive))
Holds fields first count (schema row) = (row.0 ≡ first) × (fields ≡ Schema)
Holds fields first count (list named es) = (es.first ≡ first) × (es.count ≡ count) × (named ≡ fields) × (is_list fields ≡ true)

-- and it means what its code's line makes of them, whatever the entries and the text
pub record Decoded (code first count : ℕ) (clause : Clause) : Type 0 where
  pub means : (ws ts : List ℕ) → clause_means ws ts clause ≡ means_of code (parts_of ws ts first count)
  pub holds : Holds (shape_of code).fields first count (held clause)

-- ---- what is read of a list

-- the range that is read as the name of item i of a list: its bytes, and that a list of names has them within the text
pub record EntryNameRead (ws : List ℕ) (es : Entries) (i : ℕ) (r : Range) : Type 0 where
  pub name_is : (ts : List ℕ) → part ts r ≡ get_or (names_in ws ts es) i []
  pub member_is : (ts : List ℕ) → part ts r ≡ (get_or (members_in ws ts es) i ([], 0)).0
  pub name_fits : (fields : Fields) → is_named fields ≡ true → Listed ws (list fields es) → fits (text_word ws) r ≡ true
