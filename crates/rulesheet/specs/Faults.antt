-- Refusals 5, 6, 7 and 13 of a rule sheet (paper 01, "Rule sheet" and "Refusal table"; request #102 for 13, which is asked after 7). Places count schemas, then clauses, then entries.
-- Assumes nothing.
use Rattle.std.specs.Prelude.{Bool, true, false, cond, not, ◌&&◌, ◌||◌, List, [], ℕ, zero, suc, ◌+◌, ◌-◌, ◌*◌, eqb, leb, ltb, length}
use Rattle.laws.specs.Lowest.{lowest}
use Rattle.decimal.specs.Value.{scale_max}
use Rattle.text.specs.Part.{fits}
use Rattle.utf8.specs.Automaton.{is_utf8}
use Rattle.names.specs.Names.{repeats_by}
use Rattle.sheet.specs.Kinds.{is_kind, kind_of, number_max, number_ok}
use Rattle.sheet.specs.Doc.{string_bytes}
use Rattle.sheet.specs.Faults.{none, in_range, scalar_ok, text_max}
use Rattle.rulesheet.specs.declared.code.Fields.{Fields}
use Rattle.rulesheet.specs.declared.code.Fields.TheVariants.{Unknown, Bare, Types, Number, Positive, Limit, Schema, Values, Names, Schemas, Members, Branches, Counted}
use Rattle.rulesheet.specs.declared.form.EntryRow.{EntryRow}
use Rattle.rulesheet.specs.declared.form.ClauseRow.{ClauseRow}
use Rattle.rulesheet.specs.Codes.{shape_of, entry_value, entry_range, entry_name}
use Rattle.rulesheet.specs.Sheet.{trailer_words, schema_words, clause_words, entry_words, schemas_word, clauses_word, entries_word, back_word, text_word, kind_word, schema_at, clause_at, entry_at}

-- ---- 5: the trailer

abbrev pub rule_kind : ℕ
rule_kind = 2

abbrev pub schemas_max : ℕ
schemas_max = 1_024

-- the most clauses, and the most entries
abbrev pub parts_max : ℕ
parts_max = 4_096

-- the trailer's words fit each other and a sheet of `size` words; sums and products are exact
abbrev pub trailer_fits : ℕ → ℕ → ℕ → ℕ → ℕ → ℕ → Bool
trailer_fits size m c e back kind =
    eqb kind rule_kind
    && ((leb 1 m && leb m schemas_max)
    && ((leb c parts_max && leb e parts_max)
    && (eqb back (schema_words * m + clause_words * c + entry_words * e) && leb (back + trailer_words) size)))

unfoldable pub words_ok : List ℕ → Bool
words_ok ws =
    leb trailer_words (length ws)
    && trailer_fits (length ws) (schemas_word ws) (clauses_word ws) (entries_word ws) (back_word ws) (kind_word ws)

abbrev pub text_ok : List ℕ → ℕ → Bool
text_ok ws size = eqb (text_word ws) size && leb size text_max

-- ---- 6: a schema, a clause, an entry

-- these fields are a list of entries
abbrev pub is_list : Fields → Bool
is_list Unknown = false
is_list Bare = false
is_list Types = false
is_list Number = false
is_list Positive = false
is_list Limit = false
is_list Schema = false
is_list Values = true
is_list Names = true
is_list Schemas = true
is_list Members = true
is_list Branches = true
is_list Counted = true

-- a number above 0: in two's complement its word is itself
abbrev pub positive_ok : ℕ → ℕ → Bool
positive_ok first count = leb 1 first && (leb first number_max && leb count scale_max)

-- first and count of a clause with these fields, with m schemas; a list's are asked by `list_ok`
abbrev pub fields_ok : Fields → ℕ → ℕ → ℕ → Bool
fields_ok Unknown m first count = false
fields_ok Bare m first count = none first count
fields_ok Types m first count = in_range 1 127 first && eqb count 0
fields_ok Number m first count = number_ok first count
fields_ok Positive m first count = positive_ok first count
fields_ok Limit m first count = eqb count 0
fields_ok Schema m first count = ltb first m && eqb count 0
fields_ok Values m first count = true
fields_ok Names m first count = true
fields_ok Schemas m first count = true
fields_ok Members m first count = true
fields_ok Branches m first count = true
fields_ok Counted m first count = true

-- an entry of a list of these fields, with m schemas and a text of `size` bytes
abbrev pub entry_ok : Fields → ℕ → ℕ → EntryRow → Bool
entry_ok Unknown size m entry = false
entry_ok Bare size m entry = false
entry_ok Types size m entry = false
entry_ok Number size m entry = false
entry_ok Positive size m entry = false
entry_ok Limit size m entry = false
entry_ok Schema size m entry = false
entry_ok Values size m entry = is_kind entry.first && scalar_ok (kind_of entry.first) size entry.second entry.third
entry_ok Names size m entry = fits size (entry_range entry) && eqb entry.third 0
entry_ok Schemas size m entry = ltb entry.first m && none entry.second entry.third
entry_ok Members size m entry = fits size (entry_range entry) && ltb entry.third m
entry_ok Branches size m entry = ltb entry.first m && none entry.second entry.third
entry_ok Counted size m entry = ltb entry.first m

module _ (ws : List ℕ) where
  abbrev pub fields_at : ℕ → Fields
  fields_at k = (shape_of (clause_at ws k).code).fields

  -- where the schemas before s say that s starts
  unfoldable pub schema_start : ℕ → ℕ
  schema_start zero = 0
  schema_start (suc s) = (schema_at ws s).first + (schema_at ws s).count

  -- a schema starts where the one before ends, and ends within the clauses
  unfoldable pub schema_fine : ℕ → Bool
  schema_fine s = eqb (schema_at ws s).first (schema_start s) && leb ((schema_at ws s).first + (schema_at ws s).count) (clauses_word ws)

  -- the schema that takes clause k, or m if none does
  unfoldable pub schema_over : ℕ → ℕ
  schema_over k = lowest (λ s. in_range (schema_at ws s).first (schema_at ws s).count k) (schemas_word ws)

  -- clause k is the first of its schema, or its code is above that of the clause before
  unfoldable pub rises : ℕ → ℕ → Bool
  rises first k = eqb k first || ltb (clause_at ws (k - 1)).code (clause_at ws k).code

  -- where the list clauses before clause k say that the next list starts
  unfoldable pub list_start : ℕ → ℕ
  list_start zero = 0
  list_start (suc k) = let before = list_start k in cond (is_list (fields_at k)) ((clause_at ws k).first + (clause_at ws k).count) before

  -- a list starts where the one before ends, ends within the entries, and has no fewer and no more than its code asks
  unfoldable pub list_ok : ℕ → ClauseRow → Bool
  list_ok start clause =
      not (is_list (shape_of clause.code).fields)
      || (eqb clause.first start && (leb (clause.first + clause.count) (entries_word ws) && (leb (shape_of clause.code).least clause.count && leb clause.count (shape_of clause.code).most)))

  -- a clause that a schema takes
  unfoldable pub clause_fine_in : ℕ → ℕ → ℕ → Bool
  clause_fine_in first start k =
      let clause = clause_at ws k in
      fields_ok (shape_of clause.code).fields (schemas_word ws) clause.first clause.count && (rises first k && list_ok start clause)

  unfoldable pub clause_fine : ℕ → Bool
  clause_fine k = ltb (schema_over k) (schemas_word ws) && clause_fine_in (schema_at ws (schema_over k)).first (list_start k) k

  -- the list clause that takes entry x, or c if none does
  unfoldable pub list_over : ℕ → ℕ
  list_over x = lowest (λ k. is_list (fields_at k) && in_range (clause_at ws k).first (clause_at ws k).count x) (clauses_word ws)

  unfoldable pub entry_fine : ℕ → Bool
  entry_fine x = ltb (list_over x) (clauses_word ws) && entry_ok (fields_at (list_over x)) (text_word ws) (schemas_word ws) (entry_at ws x)

-- at fault
abbrev pub schema_fault : List ℕ → ℕ → Bool
schema_fault ws s = not (schema_fine ws s)

abbrev pub clause_fault : List ℕ → ℕ → Bool
clause_fault ws k = not (clause_fine ws k)

abbrev pub entry_fault : List ℕ → ℕ → Bool
entry_fault ws x = not (entry_fine ws x)

-- these fields name things, each of which may stand once only
abbrev pub is_named : Fields → Bool
is_named Unknown = false
is_named Bare = false
is_named Types = false
is_named Number = false
is_named Positive = false
is_named Limit = false
is_named Schema = false
is_named Values = false
is_named Names = true
is_named Schemas = false
is_named Members = true
is_named Branches = false
is_named Counted = false

-- ---- 7: a name that an earlier entry of the clause has

unfoldable pub repeated : List ℕ → List ℕ → ℕ → Bool
repeated ws ts x =
    let first = (clause_at ws (list_over ws x)).first in
    is_named (fields_at ws (list_over ws x)) && repeats_by (λ i. entry_name ts (entry_at ws (first + i))) (x - first)

-- ---- 13: a name, or a string of an enum, that is not UTF-8

-- the bytes that an entry of a list of these fields names in the text, and none where it names none
abbrev pub entry_text : Fields → List ℕ → EntryRow → List ℕ
entry_text Unknown ts entry = []
entry_text Bare ts entry = []
entry_text Types ts entry = []
entry_text Number ts entry = []
entry_text Positive ts entry = []
entry_text Limit ts entry = []
entry_text Schema ts entry = []
entry_text Values ts entry = string_bytes (entry_value ts entry)
entry_text Names ts entry = entry_name ts entry
entry_text Schemas ts entry = []
entry_text Members ts entry = entry_name ts entry
entry_text Branches ts entry = []
entry_text Counted ts entry = []

unfoldable pub not_utf8 : List ℕ → List ℕ → ℕ → Bool
not_utf8 ws ts x = not (is_utf8 (entry_text (fields_at ws (list_over ws x)) ts (entry_at ws x)))
