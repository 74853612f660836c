-- The table of codes (paper 01, "Rule sheet"; request #106 for 36, 37 and 45): a line for each, with its number, its fields, and the clause that it stands for. All that is known of a
-- code stands in its line.
-- Assumes nothing.
use Rattle.std.specs.Prelude.{Bool, true, false, List, [], ◌∷◌, map, ℕ, eqb, get_or, ℤ}
use Rattle.decimal.specs.Value.{signed, billionths}
use Rattle.text.specs.declared.Range.{Range}
use Rattle.text.specs.Part.{part}
use Rattle.sheet.specs.Kinds.{kind_of}
use Rattle.sheet.specs.Doc.{Value}
use Rattle.sheet.specs.Record.{value_by}
use Rattle.rulesheet.specs.declared.code.Fields.{Fields}
use Rattle.rulesheet.specs.declared.code.Fields.TheVariants.{Unknown, Bare, Types, Number, Positive, Limit, Schema, Values, Names, Schemas, Members, Branches, Counted}
use Rattle.rulesheet.specs.declared.code.Shape.{Shape}
use Rattle.rulesheet.specs.declared.form.EntryRow.{EntryRow}
use Rattle.rulesheet.specs.Ruleset.{Test, never, type, enum, minimum, maximum, exclusive_minimum, exclusive_maximum, multiple_of}
use Rattle.rulesheet.specs.Ruleset.{min_length, max_length, min_items, max_items, min_properties, max_properties, required}
use Rattle.rulesheet.specs.Ruleset.{Mode, all_of, any_of, one_of, not_of, ref, Reach, properties, additional_properties, prefix_items, items}
use Rattle.rulesheet.specs.Ruleset.{unevaluated_properties, unevaluated_items, Clause, asserts, in_place, if_then_else, dependent_schemas, contains, takes}

-- what a clause is made of: the rule text, its first and count, and its entries, if it is a list clause
pub record Parts : Type 0 where
  pub text : List ℕ
  pub first : ℕ
  pub count : ℕ
  pub entries : List EntryRow

pub record CodeLine : Type 0 where
  pub code : ℕ
  pub shape : Shape
  pub means : Parts → Clause

-- ---- what entries and numbers stand for

abbrev limit_of : Parts → ℤ
limit_of p = billionths (signed p.first) p.count

abbrev pub entry_value : List ℕ → EntryRow → Value
entry_value ts e = value_by (kind_of e.first) ts e.second e.third

-- an entry's name as a range of the rule text
abbrev pub entry_range : EntryRow → Range
entry_range e = record { start = e.first; length = e.second }

abbrev pub entry_name : List ℕ → EntryRow → List ℕ
entry_name ts e = part ts (entry_range e)

abbrev pub entry_member : List ℕ → EntryRow → List ℕ × ℕ
entry_member ts e = (entry_name ts e, e.third)

abbrev values_of : Parts → List Value
values_of p = map (entry_value p.text) p.entries

abbrev names_of : Parts → List (List ℕ)
names_of p = map (entry_name p.text) p.entries

abbrev schemas_of : Parts → List ℕ
schemas_of p = map (λ e. e.first) p.entries

-- the schema of a clause that is no list
abbrev schema_of : Parts → List ℕ
schema_of p = p.first ∷ []

abbrev members_of : Parts → List (List ℕ × ℕ)
members_of p = map (entry_member p.text) p.entries

-- entry i of a list that has so many
abbrev pub no_entry : EntryRow
no_entry = record { first = 0; second = 0; third = 0 }

abbrev entry_of : Parts → ℕ → EntryRow
entry_of p i = get_or p.entries i no_entry

-- ---- the table

-- more than a sheet has entries
abbrev pub no_most : ℕ
no_most = 4_294_967_295

-- these fields and, if they are a list, at least so many entries
abbrev pub guarded_shape : Fields → ℕ → Shape
guarded_shape fields least = record { fields = fields; least = least; most = no_most; unguarded = false }

-- the same, of a code that applies its schemas to the row itself
abbrev pub in_place_shape : Fields → ℕ → Shape
in_place_shape fields least = record { fields = fields; least = least; most = no_most; unguarded = true }

-- a list of exactly so many entries
abbrev pub exact_shape : Fields → ℕ → Bool → Shape
exact_shape fields many unguarded = record { fields = fields; least = many; most = many; unguarded = unguarded }

abbrev asserting : ℕ → Fields → ℕ → (Parts → Test) → CodeLine
asserting code fields least test = record { code = code; shape = guarded_shape fields least; means = λ p. asserts (test p) }

abbrev joining : ℕ → Fields → ℕ → Mode → (Parts → List ℕ) → CodeLine
joining code fields least mode schemas = record { code = code; shape = in_place_shape fields least; means = λ p. in_place mode (schemas p) }

abbrev taking : ℕ → Fields → ℕ → (Parts → Reach) → CodeLine
taking code fields least reach = record { code = code; shape = guarded_shape fields least; means = λ p. takes (reach p) }

abbrev pub codes : List CodeLine
codes =
    asserting 1 Bare 0 (λ p. never)
    ∷ asserting 2 Types 0 (λ p. type p.first)
    ∷ asserting 3 Values 1 (λ p. enum (values_of p))
    ∷ asserting 10 Number 0 (λ p. minimum (limit_of p))
    ∷ asserting 11 Number 0 (λ p. maximum (limit_of p))
    ∷ asserting 12 Number 0 (λ p. exclusive_minimum (limit_of p))
    ∷ asserting 13 Number 0 (λ p. exclusive_maximum (limit_of p))
    ∷ asserting 14 Positive 0 (λ p. multiple_of (limit_of p))
    ∷ asserting 20 Limit 0 (λ p. min_length p.first)
    ∷ asserting 21 Limit 0 (λ p. max_length p.first)
    ∷ asserting 22 Limit 0 (λ p. min_items p.first)
    ∷ asserting 23 Limit 0 (λ p. max_items p.first)
    ∷ asserting 24 Limit 0 (λ p. min_properties p.first)
    ∷ asserting 25 Limit 0 (λ p. max_properties p.first)
    ∷ asserting 26 Names 0 (λ p. required (names_of p))
    ∷ joining 30 Schemas 1 all_of schemas_of
    ∷ joining 31 Schemas 1 any_of schemas_of
    ∷ joining 32 Schemas 1 one_of schemas_of
    ∷ joining 33 Schema 0 not_of schema_of
    ∷ joining 34 Schema 0 ref schema_of
    ∷ record { code = 36; shape = exact_shape Branches 3 true; means = λ p. if_then_else (entry_of p 0).first (entry_of p 1).first (entry_of p 2).first }
    ∷ record { code = 37; shape = in_place_shape Members 0; means = λ p. dependent_schemas (members_of p) }
    ∷ taking 40 Members 0 (λ p. properties (members_of p))
    ∷ taking 42 Schema 0 (λ p. additional_properties p.first)
    ∷ taking 43 Schemas 1 (λ p. prefix_items (schemas_of p))
    ∷ taking 44 Schema 0 (λ p. items p.first)
    ∷ record { code = 45; shape = exact_shape Counted 1 false; means = λ p. contains (entry_of p 0).first (entry_of p 0).second (entry_of p 0).third }
    ∷ taking 60 Schema 0 (λ p. unevaluated_properties p.first)
    ∷ taking 61 Schema 0 (λ p. unevaluated_items p.first)
    ∷ []

-- an unknown code has no fields that are in order, and no sheet with it is accepted
abbrev pub unknown : CodeLine
unknown = asserting 0 Unknown 0 (λ p. never)

abbrev pub pick_line : Bool → CodeLine → CodeLine → CodeLine
pick_line true a b = a
pick_line false a b = b

unfoldable pub line_in : List CodeLine → ℕ → CodeLine
line_in [] code = unknown
line_in (line ∷ lines) code = let rest = line_in lines code in pick_line (eqb code line.code) line rest

abbrev pub shape_of : ℕ → Shape
shape_of code = (line_in codes code).shape

abbrev pub means_of : ℕ → Parts → Clause
means_of code = (line_in codes code).means
