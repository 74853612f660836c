-- The rule sheet (paper 01, "Rule sheet"): the trailer is the last 6 words; before it stand the entries, before them the clauses, before them the schemas.
-- Words before schema 0 change nothing.
-- Assumes nothing.
use Rattle.std.specs.Prelude.{cond, List, [], ◌∷◌, map, ℕ, zero, suc, ◌+◌, ◌-◌, ◌*◌, ltb, length, get_or}
use Rattle.sheet.specs.Record.{from_end}
use Rattle.rulesheet.specs.declared.form.SchemaRow.{SchemaRow}
use Rattle.rulesheet.specs.declared.form.ClauseRow.{ClauseRow}
use Rattle.rulesheet.specs.declared.form.EntryRow.{EntryRow}
use Rattle.rulesheet.specs.declared.form.RuleForm.{RuleForm}
use Rattle.rulesheet.specs.Ruleset.{Clause, Ruleset, unguarded, next}
use Rattle.rulesheet.specs.Codes.{Parts, means_of}

abbrev pub trailer_words : ℕ
trailer_words = 6

abbrev pub schema_words : ℕ
schema_words = 2

abbrev pub clause_words : ℕ
clause_words = 3

abbrev pub entry_words : ℕ
entry_words = 3

-- ---- the trailer, by name

abbrev pub schemas_word : List ℕ → ℕ
schemas_word ws = from_end ws 6

abbrev pub clauses_word : List ℕ → ℕ
clauses_word ws = from_end ws 5

abbrev pub entries_word : List ℕ → ℕ
entries_word ws = from_end ws 4

abbrev pub back_word : List ℕ → ℕ
back_word ws = from_end ws 3

abbrev pub text_word : List ℕ → ℕ
text_word ws = from_end ws 2

abbrev pub kind_word : List ℕ → ℕ
kind_word ws = from_end ws 1

-- where schemas, clauses and entries start, and how many there are
unfoldable pub form_of : List ℕ → RuleForm
form_of ws =
    record {
      schemas = length ws - trailer_words - back_word ws;
      clauses = length ws - trailer_words - entry_words * entries_word ws - clause_words * clauses_word ws;
      entries = length ws - trailer_words - entry_words * entries_word ws;
      m = schemas_word ws;
      c = clauses_word ws;
      e = entries_word ws;
    }

-- ---- schemas, clauses and entries, their words by name

abbrev pub word_at : List ℕ → ℕ → ℕ → ℕ → ℕ → ℕ
word_at ws start width k i = get_or ws (start + width * k + i) 0

unfoldable pub schema_at : List ℕ → ℕ → SchemaRow
schema_at ws s = let word = word_at ws (form_of ws).schemas schema_words s in record { first = word 0; count = word 1 }

unfoldable pub clause_at : List ℕ → ℕ → ClauseRow
clause_at ws k = let word = word_at ws (form_of ws).clauses clause_words k in record { code = word 0; first = word 1; count = word 2 }

unfoldable pub entry_at : List ℕ → ℕ → EntryRow
entry_at ws x = let word = word_at ws (form_of ws).entries entry_words x in record { first = word 0; second = word 1; third = word 2 }

-- ---- the rules that the words and the text stand for

-- the numbers from `from` on
unfoldable pub run : ℕ → ℕ → List ℕ
run zero from = []
run (suc many) from = from ∷ run many (from + 1)

-- what a clause with this first and count is made of
abbrev pub parts_of : List ℕ → List ℕ → ℕ → ℕ → Parts
parts_of ws ts first count = record { text = ts; first = first; count = count; entries = map (entry_at ws) (run count first) }

unfoldable pub clause_of : List ℕ → List ℕ → ℕ → Clause
clause_of ws ts k = let row = clause_at ws k in means_of row.code (parts_of ws ts row.first row.count)

-- past the schemas there are no clauses
unfoldable pub rules_of : List ℕ → List ℕ → Ruleset
rules_of ws ts =
    record {
      clauses = λ s. let row = schema_at ws s in let all = map (clause_of ws ts) (run row.count row.first) in cond (ltb s (schemas_word ws)) all [];
    }

-- the schemas that clause k reaches unguarded; the text does not matter for them
unfoldable pub targets_of : List ℕ → ℕ → List ℕ
targets_of ws k = unguarded (clause_of ws [] k)

-- those that schema s reaches
unfoldable pub next_of : List ℕ → ℕ → List ℕ
next_of ws s = next (rules_of ws []) s
