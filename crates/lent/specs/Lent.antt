-- What is judged: two sheets with their texts and forms, and the case that they are. What is asked where a pair is judged, and what is written of its marks.
-- Assumes nothing.
use Rattle.std.specs.Prelude.{ℕ, ◌+◌, ◌*◌, ◌≤◌, ◌<◌, Bool, true, false, ◌&&◌, ◌||◌, cond, List, ◌≡◌, eqb, length, get_or, take, Option}
use Rattle.sheet.specs.Doc.{Doc, first_child, child_count, Child}
use Rattle.sheet.specs.declared.record.RecordForm.{RecordForm}
use Rattle.sheet.specs.Record.{rows_word, doc_of}
use Rattle.rulesheet.specs.declared.form.RuleForm.{RuleForm}
use Rattle.rulesheet.specs.Ruleset.{Test, never, additional_properties, Clause, asserts, takes, Ruleset}
use Rattle.rulesheet.specs.Sheet.{schemas_word, rules_of}
use Rattle.meaning.specs.Rules.{Pair, Marks, Way, whole, cut}
use Rattle.meaning.specs.Fit.{Fit, Inside}
use Rattle.areas.specs.Cells.{Unsettled, column}
use Rattle.areas.specs.Writers.{Writes, Marked}
use Rattle.looking.specs.Read.{RecordRead}
use Rattle.clause.specs.Read.{RulesRead, PassedFirst}
use Rattle.plan.specs.Plan.{finish_of, stops_by, after_miss}
use Rattle.steps.specs.declared.turn.Turn.{Turn}
use Rattle.told.specs.Read.{by_marks, Started}
use Rattle.steps.specs.Turns.{NamesMarked, Turned}

-- what is judged: a record and rules, and how many rows each has; and whether in whole, or cut
pub record Case : Type 0 where
  pub doc : Doc
  pub rules : Ruleset
  pub n : ℕ
  pub m : ℕ
  pub way : Way

abbrev pub pair : ℕ → ℕ → Pair
pair j s = record { row = j; rule = s }

-- both sheets are laid out as their readers ask
pub record Sheets (ws ts rs us : List ℕ) (form : RecordForm) (rules : RuleForm) : Type 0 where
  pub record_read : RecordRead ws ts form
  pub rules_read : RulesRead rs us rules

-- that of two sheets
abbrev pub case_of : Way → (ws ts rs us : List ℕ) → Case
case_of w ws ts rs us = record { doc = doc_of ws ts; rules = rules_of rs us; n = rows_word ws; m = schemas_word rs; way = w }

-- whether judging is cut, as it is asked
abbrev pub way_by : Bool → Way
way_by true = cut
way_by false = whole

-- whether judging goes on after what holds or fails
abbrev pub goes_on : Way → Bool → Bool
goes_on whole ok = true
goes_on cut ok = ok

abbrev pub Fits : Case → Type 0
Fits T = Fit T.doc T.rules T.n T.m

abbrev pub InCase : Case → Pair → Type 0
InCase T p = Inside T.n T.m p

-- k is a child of row j
abbrev pub Kid : Case → ℕ → ℕ → Type 0
Kid T j k = Child T.doc j k

-- the children of p's row
abbrev pub first_kid : Case → Pair → ℕ
first_kid T p = first_child (T.doc.value p.row)

abbrev pub kid_count : Case → Pair → ℕ
kid_count T p = child_count (T.doc.value p.row)

-- the clauses of p's schema: all, number i, and those before it
abbrev pub clauses_of : Case → Pair → List Clause
clauses_of T p = T.rules.clauses p.rule

abbrev pub clause_at : Case → Pair → ℕ → Clause
clause_at T p i = get_or (clauses_of T p) i (asserts never)

abbrev pub before_of : Case → Pair → ℕ → List Clause
before_of T p i = take i (clauses_of T p)

-- the first r of the n clauses of p's schema are tests that its row passes
abbrev pub PassesFirst : Case → Pair → ℕ → ℕ → Type 0
PassesFirst T p n r = PassedFirst T.doc p.row (clause_at T p) n r

-- ---- what is read of a pair

-- none of the n rows from q's on is settled by its schema, and each passes all its `many` clauses, which are tests
pub record RowsPass (T : Case) (q : Pair) (many n : ℕ) (cells : List ℕ) : Type 0 where
  pub unsettled : (k : ℕ) → k < n → Unsettled T.m (pair (q.row + k) q.rule) cells
  pub passed : (k : ℕ) → k < n → PassesFirst T (pair (q.row + k) q.rule) many many

-- clause i of p applies schemas
abbrev pub Applying : Case → Pair → ℕ → Type 0
Applying T p i = (t : Test) → clause_at T p i ≡ asserts t → ⊥

-- what is asked of the cells, and of what the clauses before tell, where clause i of p stands after x steps
pub record Turns (T : Case) (p : Pair) (i from x : ℕ) (cells : List ℕ) : Type 0 where
  pub started : Started (before_of T p i) (clause_at T p i) from
  pub marked : (s : ℕ) → clause_at T p i ≡ takes (additional_properties s) → from ≡ by_marks → NamesMarked T.doc p (before_of T p i) x (column T.m cells p.rule)
  pub room : T.n * T.m ≤ length cells
  pub unsettled : Unsettled T.m p cells

-- where it stands once its first x steps are taken and t is carried
abbrev pub TurnsTo : Case → Pair → ℕ → ℕ → ℕ → List ℕ → Option Turn → Type 0
TurnsTo T p i x t cells r = Turned T.doc p (before_of T p i) (clause_at T p i) x (column T.m cells p.rule) t r

-- what it says in the end, by what is carried
abbrev pub finish_at : Case → Pair → ℕ → ℕ → Bool
finish_at T p i tally = finish_of T.doc p (clause_at T p i) tally

-- the step that it goes on with after one of its steps, where it stops or not by what is carried
abbrev pub next_at : Case → Pair → ℕ → ℕ → ℕ → ℕ
next_at T p i step tally = cond (stops_by T.way tally) (after_miss (clause_at T p i) step) (step + 1)

-- ---- what is written of marks

-- before: the marks of p may be written, those of its row's children
abbrev pub WritesMarks : Case → Pair → List ℕ → Type 0
WritesMarks T p cells = Writes T.m (first_kid T p) (kid_count T p) p.rule p.rule cells

-- after: they are κ. No verdict has changed, and no other mark
abbrev pub MarksWritten : Case → Pair → Marks → (cells₀ cells : List ℕ) → Type 0
MarksWritten T p κ cells₀ cells = Marked T.m (first_kid T p) (kid_count T p) p.rule κ cells₀ cells

-- the marks of a pair that was judged: none if it failed
unfoldable pub kept : ℕ → List ℕ → ℕ → Bool → Marks
kept m cells s ok k = ok && column m cells s k

-- the marks of the pair (row, rule) once it has applied the pair (aimed, from): more by that pair's, if it is of the row itself, and else by
-- the child that it is of
unfoldable pub handed_on : ℕ → List ℕ → ℕ → ℕ → ℕ → ℕ → Marks
handed_on m cells row rule aimed from k = column m cells rule k || cond (eqb aimed row) (column m cells from k) (eqb k aimed)

-- before: as above for the children of the row, and `aimed` is the row or one of them
pub record HandsOn (m first many row rule aimed from : ℕ) (cells : List ℕ) : Type 0 where
  pub writes : Writes m first many rule from cells
  pub child : (aimed ≡ row → ⊥) → (first ≤ aimed) × (aimed < first + many)

-- of p, which has applied q
abbrev pub Hands : Case → Pair → Pair → List ℕ → Type 0
Hands T p q cells = HandsOn T.m (first_kid T p) (kid_count T p) p.row p.rule q.row q.rule cells

-- the marks of p once it has applied q: those handed on, or as they were
unfoldable pub given_on : Bool → ℕ → List ℕ → ℕ → ℕ → ℕ → ℕ → Marks
given_on keeps m cells row rule aimed from k = cond keeps (handed_on m cells row rule aimed from k) (column m cells rule k)
