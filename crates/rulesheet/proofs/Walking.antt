-- A search through the entries, list by list.
--     Walked                    the lists of the clauses before k are passed
--     walk_begins, walk_past    it begins, and goes on past a clause that is no list
--     walk_on, walk_ends        it goes on past a list in which nothing is found, and ends in one in which something is
--     list_inside               a list ends within the entries
--     fields_read, told         the fields of a clause, by the row and the shape that were read, and what a test says of them
-- Assumes nothing.
use mathlib.Core.Bool.{Bool, true, false}
use mathlib.Core.List.{List}
use mathlib.Core.Path.{◌≡◌, sym, ap, ◌∙◌}
use Prim.Native.Nat.{ℕ, ◌+◌, ◌≤◌, ◌<◌}
use native.Mathlib.Nat.{sub-zero}
use native.Mathlib.Omega.{arith}
use Rattle.laws.specs.Lowest.{lowest, lowest_from}
use Rattle.laws.proofs.Searches.{left, part_ends, part_passed}
use Rattle.rulesheet.specs.declared.code.Fields.{Fields}
use Rattle.rulesheet.specs.declared.code.Shape.{Shape}
use Rattle.rulesheet.specs.declared.form.ClauseRow.{ClauseRow}
use Rattle.rulesheet.specs.declared.form.RuleForm.{RuleForm}
use Rattle.rulesheet.specs.Codes.{shape_of}
use Rattle.rulesheet.specs.Sheet.{entries_word, clause_at}
use Rattle.rulesheet.specs.Faults.{is_list, fields_at, list_start}
use Rattle.rulesheet.specs.Read.{ClausesLaid}
use Rattle.rulesheet.proofs.Trailers.{form_e}
use Rattle.rulesheet.proofs.Taking.{ListFacts, list_facts, after_list, after_other}

pub fields_read : (ws : List ℕ) (k : ℕ) {clause : ClauseRow} {shape : Shape} → clause ≡ clause_at ws k → shape ≡ shape_of clause.code → shape.fields ≡ fields_at ws k
fields_read ws k read known = ap (λ (s : Shape). s.fields) known ∙ ap (λ (r : ClauseRow). (shape_of r.code).fields) read

pub told : (test : Fields → Bool) {f g : Fields} {t b : Bool} → f ≡ g → t ≡ test f → t ≡ b → test g ≡ b
told test same e f = ap test (sym same) ∙ sym e ∙ f

pub record Walked (ws : List ℕ) (test : ℕ → Bool) (k : ℕ) : Type 0 where
  pub rest : lowest test (entries_word ws) ≡ left test (entries_word ws) (list_start ws k)

pub walk_begins : (ws : List ℕ) (test : ℕ → Bool) → Walked ws test 0
unfolding list_start
walk_begins ws test = record { rest = rw sub-zero }

pub walk_past : (ws : List ℕ) (test : ℕ → Bool) {k : ℕ} → Walked ws test k → is_list (fields_at ws k) ≡ false → Walked ws test (k + 1)
walk_past ws test {k} w other = record { rest = rw (after_other ws k other) w.rest }

-- at a list clause whose row was read, with what the search through its entries found
module _ (ws : List ℕ) (form : RuleForm) (laid : ClausesLaid ws form) {k : ℕ} (h : k < form.c) (clause : ClauseRow) (read : clause ≡ clause_at ws k) (list : is_list (fields_at ws k) ≡ true) where
  this : ListFacts ws k
  this = list_facts ws k (laid.clauses_fine k h) list

  pub list_inside : clause.first + clause.count ≤ form.e
  list_inside = rw (read, form_e ws form laid.schemas_laid.formed) this.list_within

  module _ (test : ℕ → Bool) (w : Walked ws test k) (r : ℕ) (e : r ≡ lowest_from test (clause_at ws k).count (clause_at ws k).first) where
    from_first : lowest test (entries_word ws) ≡ left test (entries_word ws) (clause_at ws k).first
    from_first = rw this.list_first w.rest

    pub walk_ends : r < clause.first + clause.count → r ≡ lowest test (entries_word ws)
    walk_ends some = sym (from_first ∙ part_ends test (entries_word ws) (clause_at ws k).count (clause_at ws k).first r this.list_within e (rw read at some))

    pub walk_on : clause.first + clause.count ≤ r → Walked ws test (k + 1)
    walk_on none =
        record {
          rest =
              rw (after_list ws k list)
              (from_first ∙ part_passed test (entries_word ws) (clause_at ws k).count (clause_at ws k).first r this.list_within e (rw read at none));
        }
