-- A clause between two of its steps: which step is applied next, if one is. κ are the marks that stand in the cells, t what is carried.
-- Assumes nothing.
use Rattle.std.specs.Prelude.{ℕ, ◌*◌, ◌≤◌, ◌<◌, Bool, true, false, not, List, ◌≡◌, length, get_or, Option, Some, None}
use Rattle.sheet.specs.declared.record.RecordForm.{RecordForm}
use Rattle.sheet.specs.declared.record.Pair as P
use Rattle.sheet.specs.Doc.{Doc}
use Rattle.sheet.specs.Record.{doc_of}
use Rattle.rulesheet.specs.declared.form.ClauseRow.{ClauseRow}
use Rattle.rulesheet.specs.declared.form.RuleForm.{RuleForm}
use Rattle.rulesheet.specs.Ruleset.{Clause, takes, additional_properties}
use Rattle.rulesheet.specs.Sheet.{schema_at}
use Rattle.meaning.specs.Rules.{Pair, Marks}
use Rattle.looking.specs.Read.{RecordRead}
use Rattle.clause.specs.Read.{RulesRead, clause_in, before_in, words_in}
use Rattle.areas.specs.Cells.{pair_is, Unsettled, column}
use Rattle.steps.specs.declared.turn.Turn.{Turn}
use Rattle.steps.specs.declared.turn.Counts.{Counts}
use Rattle.steps.specs.declared.turn.Counts.TheVariants.{Misses, Hits, Branches}
use Rattle.plan.specs.Plan.{member_count, no_member, own, child_row, child_named, unnamed, counts_hits, branches, steps_of, aim_of, go_of}
use Rattle.told.specs.Read.{by_marks, Started}

-- of what a clause counts: whether it is its hits, and whether it has a condition and branches
abbrev pub is_hits : Counts → Bool
is_hits Misses = false
is_hits Hits = true
is_hits Branches = false

abbrev pub is_branches : Counts → Bool
is_branches Misses = false
is_branches Hits = false
is_branches Branches = true

module _ (D : Doc) (p : Pair) (before : List Clause) (c : Clause) where
  -- step k is applied
  abbrev pub goes_at : Marks → ℕ → ℕ → Bool
  goes_at κ t k = go_of D p before c k (κ (aim_of D p before c k).row) t

  -- no step from x up to y is
  pub record Skipped (κ : Marks) (t x y : ℕ) : Type 0 where
    pub idle : (k : ℕ) → x ≤ k → k < y → goes_at κ t k ≡ false

  -- after x steps the next that is applied is r's, and applies its pair
  pub record Goes (x : ℕ) (κ : Marks) (t : ℕ) (r : Turn) : Type 0 where
    pub ahead : x ≤ r.step
    pub within : r.step < steps_of D p before c
    pub small : r.step < 4294967295
    pub skipped : Skipped κ t x r.step
    pub applied : goes_at κ t r.step ≡ true
    pub hits_is : is_hits r.counts ≡ counts_hits c
    pub branch_is : is_branches r.counts ≡ branches c
    pub aim_is : pair_is r.pair ≡ aim_of D p before c r.step

  -- where the clause stands after x steps: at the next that is applied, or at its end
  pub record Turned (x : ℕ) (κ : Marks) (t : ℕ) (r : Option Turn) : Type 0 where
    pub goes : {turn : Turn} → r ≡ Some turn → Goes x κ t turn
    pub ends : r ≡ None → Skipped κ t x (steps_of D p before c)

-- the same on row j, whatever is carried, and whatever schema the clause is of, the clauses before it and the marks
abbrev pub TurnedOn : Doc → ℕ → Clause → ℕ → Option Turn → Type 0
TurnedOn D j c x r = (t : ℕ) (p : Pair) (before : List Clause) (κ : Marks) → p.row ≡ j → Turned D p before c x κ t r

-- no member of p's row has the name of an entry from number x up to y
pub record NoneNamed (D : Doc) (p : Pair) (es : List (List ℕ × ℕ)) (x y : ℕ) : Type 0 where
  pub none : (k : ℕ) → x ≤ k → k < y → member_count (own D p) ≤ child_named D p (get_or es k no_member).0

-- entry y of `many` is the first from number x on whose name a member has: child n
pub record NamedAt (D : Doc) (p : Pair) (es : List (List ℕ × ℕ)) (x many y n : ℕ) : Type 0 where
  pub ahead : x ≤ y
  pub within : y < many
  pub small : y < 4294967295
  pub member : n < member_count (own D p)
  pub place_is : n ≡ child_named D p (get_or es y no_member).0
  pub before : NoneNamed D p es x y

-- r is that entry and that child, or no entry is
pub record FirstNamed (D : Doc) (p : Pair) (es : List (List ℕ × ℕ)) (x many : ℕ) (r : Option (ℕ × ℕ)) : Type 0 where
  pub found : {y n : ℕ} → r ≡ Some (y, n) → NamedAt D p es x many y n
  pub past : r ≡ None → NoneNamed D p es x many

-- of the members from number x on the marks tell which the clauses before name
abbrev pub NamesMarked : Doc → Pair → List Clause → ℕ → Marks → Type 0
NamesMarked D p before x κ = (k : ℕ) → x ≤ k → k < member_count (own D p) → κ (child_row D p k) ≡ not (unnamed D p before (child_row D p k))

-- what is asked where clause i of an unsettled pair stands after x steps: both sheets are read, the clause's words are `row`, `from` is what the clauses before
-- tell it, and each pair has its cell
pub record TurnAsked (ws ts : List ℕ) (form : RecordForm) (rs us : List ℕ) (rule_form : RuleForm) (cells : List ℕ) (p : P.Pair) (i : ℕ) (row : ClauseRow) (from x : ℕ) : Type 0 where
  pub record_read : RecordRead ws ts form
  pub row_in : p.row.0 < form.rows
  pub rules_read : RulesRead rs us rule_form
  pub rule_in : p.rule.0 < rule_form.m
  pub clause_inside : i < (schema_at rs p.rule.0).count
  pub row_is : row ≡ words_in rs p.rule.0 i
  pub started : Started (before_in rs us p.rule.0 i) (clause_in rs us p.rule.0 i) from
  pub marked : (s : ℕ) → clause_in rs us p.rule.0 i ≡ takes (additional_properties s) → from ≡ by_marks
      → NamesMarked (doc_of ws ts) (pair_is p) (before_in rs us p.rule.0 i) x (column rule_form.m cells p.rule.0)
  pub room : form.rows * rule_form.m ≤ length cells
  pub unsettled : Unsettled rule_form.m (pair_is p) cells

-- where clause i of p's schema, which means c, stands after x steps, with t carried: over the two sheets and the marks of p in the cells
abbrev pub TurnedIn : (ws ts rs us : List ℕ) → P.Pair → ℕ → Clause → ℕ → ℕ → ℕ → List ℕ → Option Turn → Type 0
TurnedIn ws ts rs us p i c x t m cells r = Turned (doc_of ws ts) (pair_is p) (before_in rs us p.rule.0 i) c x (column m cells p.rule.0) t r

-- the same of a clause that is told nothing by those before it
abbrev pub TurnedFresh : (ws ts : List ℕ) → P.Pair → Clause → ℕ → ℕ → List ℕ → Option Turn → Type 0
TurnedFresh ws ts p c x m cells r = (t : ℕ) (before : List Clause) → Turned (doc_of ws ts) (pair_is p) before c x (column m cells p.rule.0) t r
