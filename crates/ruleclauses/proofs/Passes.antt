-- Passing the clauses of a schema.
--     list_fields                  what the fields ask of a list
--     list_passed, other_passed    what passing one clause finds, by the row and the shape that were read
--     code_rises                   a code rises, by the code before it
--     Going                        how far a pass has come
--     going_begins, going_on       it begins, and goes on past a clause that is not at fault
--     going_stops, going_ends      what it gives at one that is, and at the end
-- Assumes nothing.
use mathlib.Core.Bool.{Bool, true, false, cond, not, ◌&&◌, ◌||◌, and-true, and-false}
use mathlib.Core.List.{List}
use mathlib.Core.Logic.{⊎_elim}
use mathlib.Core.Path.{◌≡◌, refl, sym, ap, ◌∙◌}
use Prim.Native.Nat.{ℕ, ◌+◌, ◌-◌, ◌≤◌, ◌<◌}
use native.Mathlib.Omega.{arith}
use lib.Dec.{eqb, leb, ltb}
use borrow.Author.Tests.{eq-eqb, ne_eqb}
use Rattle.laws.specs.Lowest.{lowest_from}
use Rattle.laws.proofs.Tests.{le_or_lt}
use Rattle.laws.proofs.Searches.{left, begun, found, passed as on, ended}
use Rattle.rulesheet.specs.declared.code.Fields.{Fields}
use Rattle.rulesheet.specs.declared.code.Fields.TheVariants.{Unknown, Bare, Types, Number, Positive, Limit, Schema, Values, Names, Schemas, Members, Branches, Counted}
use Rattle.rulesheet.specs.declared.code.Shape.{Shape}
use Rattle.rulesheet.specs.declared.form.SchemaRow.{SchemaRow}
use Rattle.rulesheet.specs.declared.form.ClauseRow.{ClauseRow}
use Rattle.rulesheet.specs.declared.form.RuleForm.{RuleForm}
use Rattle.std.proofs.Common.{Option, Some, None}
use Rattle.rulesheet.specs.Codes.{shape_of}
use Rattle.rulesheet.specs.Sheet.{schemas_word, schema_at, clause_at}
use Rattle.rulesheet.specs.Faults.{is_list, fields_ok, fields_at, rises, list_start, list_ok, clause_fine_in, clause_fault}
use Rattle.rulesheet.specs.Read.{RulesFormed, SchemasLaid}
use Rattle.ruleclauses.specs.Passes.{passed, passed_by, ClausesPassed, ClauseFaulty}
use Rattle.rulesheet.proofs.Trailers.{form_m, form_c, form_e}
use Rattle.rulesheet.proofs.Taking.{schema_within, clause_asked, next_list}

-- ---- one clause

-- of a list the fields ask nothing of first and count
pub list_fields : (fields : Fields) (m first count : ℕ) → is_list fields ≡ true → fields_ok fields m first count ≡ true
list_fields Unknown m first count l = cc
list_fields Bare m first count l = cc
list_fields Types m first count l = cc
list_fields Number m first count l = cc
list_fields Positive m first count l = cc
list_fields Limit m first count l = cc
list_fields Schema m first count l = cc
list_fields Values m first count l = refl
list_fields Names m first count l = refl
list_fields Schemas m first count l = refl
list_fields Members m first count l = refl
list_fields Branches m first count l = refl
list_fields Counted m first count l = refl

module _ (ws : List ℕ) (form : RuleForm) (formed : RulesFormed ws form) (start : ℕ) (clause : ClauseRow) (shape : Shape) (known : shape ≡ shape_of clause.code) where
  pub list_passed : {r : Bool} → is_list shape.fields ≡ true
      → (eqb clause.first start && (leb (clause.first + clause.count) form.e && (leb shape.least clause.count && leb clause.count shape.most))) ≡ r
      → passed r (clause.first + clause.count) ≡ passed_by ws start clause
  unfolding list_ok
  list_passed l e =
      sym (rw (← known, list_fields shape.fields (schemas_word ws) clause.first clause.count l, l, ← form_e ws form formed, e))

  pub other_passed : {t r : Bool} → is_list shape.fields ≡ false → t ≡ fields_ok shape.fields form.m clause.first clause.count → t ≡ r
      → passed r start ≡ passed_by ws start clause
  unfolding list_ok
  other_passed {t} {r} l e f = sym (rw (← known, l, ← form_m ws form formed, ← e, f, and-true r))

-- its two tests, and where the next list starts
module _ (fit listed : Bool) (n : ℕ) where
  one_fails : (risen : Bool) → passed (fit && listed) n ≡ None → (fit && (risen && listed)) ≡ false
  one_fails = cases fit listed
    where
      cases : (a c b : Bool) → passed (a && c) n ≡ None → (a && (b && c)) ≡ false
      cases true true b e = cc
      cases true false b e = and-false b
      cases false c b e = refl

  both_hold : {next : ℕ} → passed (fit && listed) n ≡ Some next → ((fit && listed) ≡ true) × (next ≡ n)
  both_hold {next} = cases (fit && listed)
    where
      cases : (a : Bool) → passed a n ≡ Some next → (a ≡ true) × (next ≡ n)
      cases true e = (refl, cc)
      cases false e = (cc, cc)

-- what a clause is, by the rise of its code and what passing it finds
module _ (ws : List ℕ) (first start k : ℕ) where
  abbrev fit : Bool
  fit = fields_ok (fields_at ws k) (schemas_word ws) (clause_at ws k).first (clause_at ws k).count

  abbrev listed : Bool
  listed = list_ok ws start (clause_at ws k)

  abbrev after : ℕ
  after = cond (is_list (fields_at ws k)) ((clause_at ws k).first + (clause_at ws k).count) start

  fallen : rises ws first k ≡ false → clause_fine_in ws first start k ≡ false
  unfolding clause_fine_in
  fallen e = rw e (and-false fit)

  faulty : passed_by ws start (clause_at ws k) ≡ None → clause_fine_in ws first start k ≡ false
  unfolding clause_fine_in
  faulty e = one_fails fit listed after (rises ws first k) e

  fine : {next : ℕ} → rises ws first k ≡ true → passed_by ws start (clause_at ws k) ≡ Some next → clause_fine_in ws first start k ≡ true
  unfolding clause_fine_in
  fine r e = rw r (both_hold fit listed after e).0

  starts_next : {next : ℕ} → start ≡ list_start ws k → passed_by ws start (clause_at ws k) ≡ Some next → next ≡ list_start ws (k + 1)
  starts_next {next} at e = next_list ws k start next at (both_hold fit listed after e).1

-- ---- the clauses of a schema

-- clauses `first` to k are passed: the next list starts at `start`, and the last code was `last`
pub record Going (ws : List ℕ) (first end start last k : ℕ) : Type 0 where
  pub low : first ≤ k
  pub high : k ≤ end
  pub rest : lowest_from (clause_fault ws) (end - first) first ≡ left (clause_fault ws) end k
  pub at_start : start ≡ list_start ws k
  pub before : (k ≡ first → ⊥) → last ≡ (clause_at ws (k - 1)).code

-- by the code of the clause before, if the schema has one
pub code_rises : (ws : List ℕ) (first last k : ℕ) → first ≤ k → ((k ≡ first → ⊥) → last ≡ (clause_at ws (k - 1)).code)
    → (eqb k first || ltb last (clause_at ws k).code) ≡ rises ws first k
unfolding rises
code_rises ws first last k low before =
    ⊎_elim
    (λ (l : k ≤ first). rw (eq-eqb k first (omega arith)))
    (λ (l : first < k). rw (ne_eqb k first (λ e. omega arith), before (λ e. omega arith)))
    (le_or_lt k first)

module _ (ws : List ℕ) (form : RuleForm) (laid : SchemasLaid ws form) (s : ℕ) (inside : s < form.m) (row : SchemaRow) (read : row ≡ schema_at ws s) where
  abbrev Gone : ℕ → ℕ → ℕ → Type 0
  Gone = Going ws row.first (row.first + row.count)

  -- the clauses end within those of the sheet
  pub ends_inside : row.first + row.count ≤ form.c
  ends_inside =
      omega (arith, schema_within ws form laid s inside, ap (λ (x : SchemaRow). x.first) read, ap (λ (x : SchemaRow). x.count) read, form_c ws form laid.formed)

  pub going_begins : {from : ℕ} (last : ℕ) → from ≡ list_start ws (schema_at ws s).first → Gone from last row.first
  going_begins last e =
      record { low = omega arith; high = omega arith; rest = refl; at_start = e ∙ rw read; before = λ n. absurd (n refl) }

  -- at clause k, whose row was read, with what passing it found
  module _ {start last k : ℕ} (g : Gone start last k) (more : k < row.first + row.count) (clause : ClauseRow) (here : clause ≡ clause_at ws k) where
    asked : {r : Bool} → clause_fine_in ws row.first start k ≡ r → clause_fault ws k ≡ not r
    asked {r} e = ap not (clause_asked ws form laid s k start row r inside read g.low more g.at_start (sym e))

    stopped : clause_fine_in ws row.first start k ≡ false → ClauseFaulty ws s k
    stopped e =
        record {
          fault_is =
              rw (← read)
              (sym (begun (clause_fault ws) row.count row.first ∙ g.rest ∙ found (clause_fault ws) (row.first + row.count) k more (asked e)));
          inside = omega (arith, more, ap (λ (x : SchemaRow). x.first) read, ap (λ (x : SchemaRow). x.count) read);
        }

    risen : (eqb k row.first || ltb last clause.code) ≡ rises ws row.first k
    risen = rw here (code_rises ws row.first last k g.low g.before)

    passing : {r p : Option ℕ} → r ≡ passed_by ws start clause → r ≡ p → passed_by ws start (clause_at ws k) ≡ p
    passing e f = rw (← here, ← e) f

    pub going_falls : (eqb k row.first || ltb last clause.code) ≡ false → ClauseFaulty ws s k
    going_falls e = stopped (fallen ws row.first start k (sym risen ∙ e))

    pub going_stops : {r : Option ℕ} → r ≡ passed_by ws start clause → r ≡ None → ClauseFaulty ws s k
    going_stops e f = stopped (faulty ws row.first start k (passing e f))

    pub going_on : {r : Option ℕ} {next : ℕ} → (eqb k row.first || ltb last clause.code) ≡ true → r ≡ passed_by ws start clause → r ≡ Some next
        → Gone next clause.code (k + 1)
    going_on {r} {next} t e f =
        record {
          low = omega (arith, g.low);
          high = omega arith;
          rest = g.rest ∙ on (clause_fault ws) (row.first + row.count) k more (asked (fine ws row.first start k (sym risen ∙ t) (passing e f)));
          at_start = starts_next ws row.first start k g.at_start (passing e f);
          before = λ n. ap (λ (x : ClauseRow). x.code) here ∙ ap (λ (i : ℕ). (clause_at ws i).code) (omega arith);
        }

  pub going_ends : {start last k : ℕ} → Gone start last k → row.first + row.count ≤ k → ClausesPassed ws s start
  going_ends {start} {last} {k} g past =
      let there : k ≡ row.first + row.count = omega (arith, g.high) in
      record {
        none_is = rw (← read) (sym (begun (clause_fault ws) row.count row.first ∙ g.rest ∙ ended (clause_fault ws) (row.first + row.count) k past ∙ there));
        start_is = g.at_start ∙ ap (list_start ws) (there ∙ rw read);
      }
