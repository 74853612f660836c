-- Which schema takes a clause and which list clause an entry, where no earlier part of the sheet is at fault.
--     schema_runs, schema_first, schema_within    schemas take the clauses in order
--     clause_taken, clause_untaken       the test of a clause, by the schema that takes it
--     list_runs, list_facts              list clauses take the entries in order
--     entry_taken, entry_untaken         the test of an entry, by the clause that takes it
-- Assumes nothing.
use mathlib.Core.Bool.{Bool, true, false, not, cond, ◌&&◌}
use mathlib.Core.List.{List}
use mathlib.Core.Logic.{⊎_elim}
use mathlib.Core.Path.{◌≡◌, refl, sym, ap, ◌∙◌}
use Prim.Native.Nat.{ℕ, zero, suc, ◌+◌, ◌-◌, ◌≤◌, ◌<◌}
use native.Mathlib.Numerals.{add-one}
use native.Mathlib.Omega.{arith}
use lib.Dec.{eqb, leb, ltb}
use borrow.Author.Tests.{eqb-true, leb-true, lt-ltb, le-ltb}
use Rattle.laws.specs.Lowest.{lowest_from}
use Rattle.laws.proofs.Tests.{decide, left, right}
use Rattle.laws.proofs.Searches.{begun, alike}
use Rattle.rulesheet.specs.declared.code.Fields.{Fields}
use Rattle.rulesheet.specs.declared.form.SchemaRow.{SchemaRow}
use Rattle.rulesheet.specs.declared.form.ClauseRow.{ClauseRow}
use Rattle.rulesheet.specs.declared.form.RuleForm.{RuleForm}
use Rattle.rulesheet.specs.Codes.{shape_of}
use Rattle.rulesheet.specs.Sheet.{schemas_word, clauses_word, entries_word, text_word, schema_at, clause_at, entry_at}
use Rattle.rulesheet.specs.Faults.{is_list, fields_ok, fields_at, schema_start, schema_fine, schema_over, rises, list_start, list_ok, clause_fine_in, clause_fine, list_over, entry_ok, entry_fine, entry_fault}
use Rattle.rulesheet.specs.Read.{SchemasLaid, ClausesLaid}
use Rattle.rulesheet.proofs.Trailers.{form_m, form_c}
use Rattle.rulesheet.proofs.Runs.{Runs, taker_is, taken_by_none}

abbrev always : ℕ → Bool
always s = true

-- ---- schemas and clauses

module _ (ws : List ℕ) (form : RuleForm) (laid : SchemasLaid ws form) where
  pub schema_first : (s : ℕ) → s < form.m → (schema_at ws s).first ≡ schema_start ws s
  unfolding schema_fine
  schema_first s h =
      let row = schema_at ws s in
      eqb-true row.first (schema_start ws s) (left (eqb row.first (schema_start ws s)) (leb (row.first + row.count) (clauses_word ws)) (laid.schemas_fine s h))

  pub schema_within : (s : ℕ) → s < form.m → (schema_at ws s).first + (schema_at ws s).count ≤ clauses_word ws
  unfolding schema_fine
  schema_within s h =
      let row = schema_at ws s in
      leb-true (row.first + row.count) (clauses_word ws) (right (eqb row.first (schema_start ws s)) (leb (row.first + row.count) (clauses_word ws)) (laid.schemas_fine s h))

  pub schema_runs : Runs (schemas_word ws) always (λ s. (schema_at ws s).first) (λ s. (schema_at ws s).count) (schema_start ws)
  unfolding schema_start
  schema_runs = record { step = λ i h. refl; at_start = λ i h t. schema_first i (omega (arith, form_m ws form laid.formed)) }

  -- the schemas end within the clauses
  pub schemas_within : (s : ℕ) → s ≤ form.m → schema_start ws s ≤ clauses_word ws
  unfolding schema_start
  schemas_within zero h = omega arith
  schemas_within (suc s) h = schema_within s h

  pub clause_taken : (s k : ℕ) → s < form.m → (schema_at ws s).first ≤ k → k < (schema_at ws s).first + (schema_at ws s).count
      → clause_fine ws k ≡ clause_fine_in ws (schema_at ws s).first (list_start ws k) k
  unfolding clause_fine schema_over
  clause_taken s k h low high =
      let m = form_m ws form laid.formed in
      rw (
        taker_is (schemas_word ws) always (λ i. (schema_at ws i).first) (λ i. (schema_at ws i).count) (schema_start ws) schema_runs k s (omega arith) refl low high,
        lt-ltb s (schemas_word ws) (omega arith),
      )

  pub clause_untaken : (k : ℕ) → schema_start ws (schemas_word ws) ≤ k → clause_fine ws k ≡ false
  unfolding clause_fine schema_over
  clause_untaken k past =
      rw (
        taken_by_none (schemas_word ws) always (λ i. (schema_at ws i).first) (λ i. (schema_at ws i).count) (schema_start ws) schema_runs k past,
        le-ltb (schemas_word ws) (schemas_word ws) (omega arith),
      )

  -- the same, by the row that was read
  pub clause_asked : (s k start : ℕ) (row : SchemaRow) (r : Bool) → s < form.m → row ≡ schema_at ws s → row.first ≤ k → k < row.first + row.count
      → start ≡ list_start ws k → r ≡ clause_fine_in ws row.first start k → clause_fine ws k ≡ r
  clause_asked s k start row r h read low high at_start e =
      let a = ap (λ (x : SchemaRow). x.first) read in
      let b = ap (λ (x : SchemaRow). x.count) read in
      clause_taken s k h (omega arith) (omega arith) ∙ rw (← read, ← at_start) (sym e)

-- ---- list clauses and entries

pub record ListFacts (ws : List ℕ) (k : ℕ) : Type 0 where
  pub list_first : (clause_at ws k).first ≡ list_start ws k
  pub list_within : (clause_at ws k).first + (clause_at ws k).count ≤ entries_word ws
  pub list_least : (shape_of (clause_at ws k).code).least ≤ (clause_at ws k).count
  pub list_most : (clause_at ws k).count ≤ (shape_of (clause_at ws k).code).most

-- the tests that a clause without fault has passed
pub record ClauseFacts (ws : List ℕ) (k : ℕ) : Type 0 where
  pub fields_fine : fields_ok (fields_at ws k) (schemas_word ws) (clause_at ws k).first (clause_at ws k).count ≡ true
  pub code_rises : rises ws (schema_at ws (schema_over ws k)).first k ≡ true
  pub list_fine : list_ok ws (list_start ws k) (clause_at ws k) ≡ true

pub clause_facts : (ws : List ℕ) (k : ℕ) → clause_fine ws k ≡ true → ClauseFacts ws k
unfolding clause_fine clause_fine_in
clause_facts ws k fine =
    let row = clause_at ws k in
    let t1 = ltb (schema_over ws k) (schemas_word ws) in
    let t2 = fields_ok (fields_at ws k) (schemas_word ws) row.first row.count in
    let t3 = rises ws (schema_at ws (schema_over ws k)).first k in
    let t4 = list_ok ws (list_start ws k) row in
    let tests = right t1 (t2 && (t3 && t4)) fine in
    let rest = right t2 (t3 && t4) tests in
    record { fields_fine = left t2 (t3 && t4) tests; code_rises = left t3 t4 rest; list_fine = right t3 t4 rest }

pub list_facts : (ws : List ℕ) (k : ℕ) → clause_fine ws k ≡ true → is_list (fields_at ws k) ≡ true → ListFacts ws k
unfolding list_ok
list_facts ws k fine list =
    let row = clause_at ws k in
    let t1 = eqb row.first (list_start ws k) in
    let t2 = leb (row.first + row.count) (entries_word ws) in
    let t3 = leb (shape_of row.code).least row.count in
    let t4 = leb row.count (shape_of row.code).most in
    let all : (t1 && (t2 && (t3 && t4))) ≡ true = rw list at (clause_facts ws k fine).list_fine in
    let rest = right t1 (t2 && (t3 && t4)) all in
    let many = right t2 (t3 && t4) rest in
    record {
      list_first = eqb-true row.first (list_start ws k) (left t1 (t2 && (t3 && t4)) all);
      list_within = leb-true (row.first + row.count) (entries_word ws) (left t2 (t3 && t4) rest);
      list_least = leb-true (shape_of row.code).least row.count (left t3 t4 many);
      list_most = leb-true row.count (shape_of row.code).most (right t3 t4 many);
    }

pub next_list : (ws : List ℕ) (k start r : ℕ) → start ≡ list_start ws k
    → r ≡ cond (is_list (fields_at ws k)) ((clause_at ws k).first + (clause_at ws k).count) start → r ≡ list_start ws (k + 1)
unfolding list_start
next_list ws k start r at_start e = rw (add-one k, ← at_start) e

pub after_list : (ws : List ℕ) (k : ℕ) → is_list (fields_at ws k) ≡ true → list_start ws (k + 1) ≡ (clause_at ws k).first + (clause_at ws k).count
unfolding list_start
after_list ws k list = rw (add-one k, list)

pub after_other : (ws : List ℕ) (k : ℕ) → is_list (fields_at ws k) ≡ false → list_start ws (k + 1) ≡ list_start ws k
unfolding list_start
after_other ws k other = rw (add-one k, other)

module _ (ws : List ℕ) (form : RuleForm) (laid : ClausesLaid ws form) where
  fine : (k : ℕ) → k < clauses_word ws → clause_fine ws k ≡ true
  fine k h = laid.clauses_fine k (omega (arith, form_c ws form laid.schemas_laid.formed))

  pub list_runs : Runs (clauses_word ws) (λ k. is_list (fields_at ws k)) (λ k. (clause_at ws k).first) (λ k. (clause_at ws k).count) (list_start ws)
  unfolding list_start
  list_runs = record { step = λ i h. refl; at_start = λ i h t. (list_facts ws i (fine i h) t).list_first }

  -- the lists end within the entries
  pub lists_within : (k : ℕ) → k ≤ clauses_word ws → list_start ws k ≤ entries_word ws
  unfolding list_start
  lists_within zero h = omega arith
  lists_within (suc k) h =
      ⊎_elim
      (λ (t : is_list (fields_at ws k) ≡ true). rw t (list_facts ws k (fine k h) t).list_within)
      (λ (t : is_list (fields_at ws k) ≡ false). rw t (lists_within k (omega arith)))
      (decide (is_list (fields_at ws k)))

  pub list_over_lem : (k x : ℕ) → k < clauses_word ws → is_list (fields_at ws k) ≡ true → (clause_at ws k).first ≤ x → x < (clause_at ws k).first + (clause_at ws k).count → list_over ws x ≡ k
  unfolding list_over
  list_over_lem k x h t low high =
      taker_is (clauses_word ws) (λ i. is_list (fields_at ws i)) (λ i. (clause_at ws i).first) (λ i. (clause_at ws i).count) (list_start ws) list_runs x k h t low high

  pub entry_taken : (k x : ℕ) → k < clauses_word ws → is_list (fields_at ws k) ≡ true → (clause_at ws k).first ≤ x → x < (clause_at ws k).first + (clause_at ws k).count
      → entry_fine ws x ≡ entry_ok (fields_at ws k) (text_word ws) (schemas_word ws) (entry_at ws x)
  unfolding entry_fine
  entry_taken k x h t low high = rw (list_over_lem k x h t low high, lt-ltb k (clauses_word ws) h)

  pub entry_untaken : (x : ℕ) → list_start ws (clauses_word ws) ≤ x → entry_fine ws x ≡ false
  unfolding entry_fine list_over
  entry_untaken x past =
      rw (
        taken_by_none (clauses_word ws) (λ i. is_list (fields_at ws i)) (λ i. (clause_at ws i).first) (λ i. (clause_at ws i).count) (list_start ws) list_runs x past,
        le-ltb (clauses_word ws) (clauses_word ws) (omega arith),
      )

  -- the search through the entries of a list, by the clause and the fields that were read
  pub entries_asked : (k r : ℕ) (row : ClauseRow) (fields : Fields) → k < form.c → is_list (fields_at ws k) ≡ true → row ≡ clause_at ws k → fields ≡ fields_at ws k
      → r ≡ lowest_from (λ x. not (entry_ok fields (text_word ws) (schemas_word ws) (entry_at ws x))) row.count row.first
      → r ≡ lowest_from (entry_fault ws) (clause_at ws k).count (clause_at ws k).first
  entries_asked k r row fields h t read same e =
      let c = form_c ws form laid.schemas_laid.formed in
      let a = ap (λ (x : ClauseRow). x.first) read in
      let b = ap (λ (x : ClauseRow). x.count) read in
      e
      ∙ alike (λ x. not (entry_ok fields (text_word ws) (schemas_word ws) (entry_at ws x))) (entry_fault ws) row.count row.first
      (λ (x : ℕ) (low : row.first ≤ x) (high : x < row.first + row.count). ap not (ap (λ (f : Fields). entry_ok f (text_word ws) (schemas_word ws) (entry_at ws x)) same ∙ sym (entry_taken k x (omega arith) t (omega arith) (omega arith))))
      ∙ ap (λ (x : ClauseRow). lowest_from (entry_fault ws) x.count x.first) read
