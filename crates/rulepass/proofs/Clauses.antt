-- A clause that was passed, and the steps that it has.
--     counted_so                    what is told of its steps, in other words
--     listed_within                 a list that passed its tests ends within the entries
--     passed_list, passed_other     it is in order, by the shape that was read
-- Assumes nothing.
use mathlib.Core.Bool.{Bool, true, false, ◌&&◌, false≢true}
use mathlib.Core.List.Memᴰ.{cases_cons as in_cons}
use mathlib.Core.List.Memᴰ.{eq_of_singleton as in_one}
use mathlib.Core.List.Memᴰ.{not-nil as in_none}
use mathlib.Core.List.{List, map, Memᴰ as In}
use mathlib.Core.Logic.{⊎_elim}
use mathlib.Core.Path.{◌≡◌, sym, ap}
use Prim.Native.Nat.{ℕ, zero, suc, ◌+◌, ◌≤◌, ◌<◌}
use native.Mathlib.Omega.{arith}
use lib.Dec.{eqb, leb}
use lib.ListN.{get_or}
use borrow.Author.Tests.{leb-true}
use Rattle.laws.proofs.Tests.{left, right}
use Rattle.rulesheet.specs.declared.code.Fields.{Fields}
use Rattle.rulesheet.specs.declared.code.Fields.TheVariants.{Unknown, Bare, Types, Number, Positive, Limit, Schema, Values, Names, Schemas, Members, Branches, Counted}
use Rattle.rulesheet.specs.declared.code.Shape.{Shape}
use Rattle.rulesheet.specs.declared.form.ClauseRow.{ClauseRow}
use Rattle.rulesheet.specs.declared.form.EntryRow.{EntryRow}
use Rattle.rulesheet.specs.declared.form.RuleForm.{RuleForm}
use Rattle.rulesheet.specs.Codes.{no_entry, shape_of}
use Rattle.rulesheet.specs.Sheet.{schemas_word, entry_at, run}
use Rattle.rulesheet.specs.Faults.{is_list, is_named, fields_ok, list_ok}
use Rattle.rulesheet.specs.Clauses.{SizedBy}
use Rattle.rulesheet.specs.Read.{RulesFormed}
use Rattle.rulesheet.proofs.Trailers.{form_m, form_e}
use Rattle.rulesheet.proofs.Reaching.{named_by, made_at}
use Rattle.rulesheet.proofs.Sizes.{counts_of}
use Rattle.ruleclauses.proofs.Passes.{list_fields}
use Rattle.rulelists.specs.Lists.{ListFine}
use Rattle.rulesteps.specs.Later as Later
use Rattle.rulesteps.specs.Later.{schema_in, AllLater}
use Rattle.rulepass.specs.declared.Pass.{Pass}
use Rattle.rulepass.specs.Pass.{listed_by, schemas_by, LeadsOn, ClausePassed}

pub counted_so : {u : Bool} {A B : Type 0} {steps r : ℕ} → (A → B) → Later.Counted u A steps r → Later.Counted u B steps r
counted_so f c = record { count = c.count; leads = λ l t. f (c.leads l t) }

-- a list that passed its tests ends within the entries
pub listed_within : (e : ℕ) (shape : Shape) (start : ℕ) (clause : ClauseRow) → listed_by e shape start clause ≡ true → clause.first + clause.count ≤ e
listed_within e shape start clause tests = leb-true sum e (left (leb sum e) enough (right (eqb clause.first start) (leb sum e && enough) tests))
  where
    sum : ℕ
    sum = clause.first + clause.count

    enough : Bool
    enough = leb shape.least clause.count && leb clause.count shape.most

-- ---- the schemas that a list names

later_in : (ws : List ℕ) (schema : EntryRow → ℕ) (s many from : ℕ) → ((x : ℕ) → from ≤ x → x < from + many → s < schema (entry_at ws x))
    → (t : ℕ) → In t (map schema (map (entry_at ws) (run many from))) → s < t
unfolding run
later_in ws schema s zero from later t i = absurd (in_none i)
later_in ws schema s (suc many) from later t i =
    ⊎_elim
    (λ (e : t ≡ schema (entry_at ws from)). omega (arith, later from (omega arith) (omega arith)))
    (λ m. later_in ws schema s many (from + 1) (λ x low high. later x (omega arith) (omega arith)) t m)
    (in_cons i)

no_list : {A : Type 0} → false ≡ true → A
no_list e = absurd (false≢true e)

entry_later : (ws : List ℕ) (s first count t : ℕ) → ((x : ℕ) → first ≤ x → x < first + count → s < (entry_at ws x).first)
    → (i : ℕ) → i < count → t ≡ (get_or (map (entry_at ws) (run count first)) i no_entry).first → s < t
entry_later ws s first count t later i low e =
    omega (arith, later (first + i) (omega arith) (omega arith), ap (λ (r : EntryRow). r.first) (made_at (entry_at ws) count first i no_entry low))

-- those of a list, by its fields
list_later : (ws : List ℕ) (fields : Fields) (s first count t : ℕ) → is_list fields ≡ true → SizedBy fields count
    → ((x : ℕ) → first ≤ x → x < first + count → s < schema_in (is_named fields) (entry_at ws x))
    → In t (named_by fields first (map (entry_at ws) (run count first))) → s < t
list_later ws Unknown s first count t l n later i = no_list l
list_later ws Bare s first count t l n later i = no_list l
list_later ws Types s first count t l n later i = no_list l
list_later ws Number s first count t l n later i = no_list l
list_later ws Positive s first count t l n later i = no_list l
list_later ws Limit s first count t l n later i = no_list l
list_later ws Schema s first count t l n later i = no_list l
list_later ws Values s first count t l n later i = absurd (in_none i)
list_later ws Names s first count t l n later i = absurd (in_none i)
list_later ws Schemas s first count t l n later i = later_in ws (λ (e : EntryRow). e.first) s count first later t i
list_later ws Members s first count t l n later i = later_in ws (λ (e : EntryRow). e.third) s count first later t i
list_later ws Branches s first count t l n later i =
    ⊎_elim
    (λ e. entry_later ws s first count t later 0 (omega arith) e)
    (λ j. ⊎_elim (λ e. entry_later ws s first count t later 1 (omega arith) e) (λ k. entry_later ws s first count t later 2 (omega arith) (in_one k)) (in_cons j))
    (in_cons i)
list_later ws Counted s first count t l n later i = entry_later ws s first count t later 0 (omega arith) (in_one i)

-- the one of another clause
other_first : (fields : Fields) (first t : ℕ) (es : List EntryRow) → is_list fields ≡ false → In t (named_by fields first es) → t ≡ first
other_first Unknown first t es l i = absurd (in_none i)
other_first Bare first t es l i = absurd (in_none i)
other_first Types first t es l i = absurd (in_none i)
other_first Number first t es l i = absurd (in_none i)
other_first Positive first t es l i = absurd (in_none i)
other_first Limit first t es l i = absurd (in_none i)
other_first Schema first t es l i = in_one i
other_first Values first t es l i = no_list (sym l)
other_first Names first t es l i = no_list (sym l)
other_first Schemas first t es l i = no_list (sym l)
other_first Members first t es l i = no_list (sym l)
other_first Branches first t es l i = no_list (sym l)
other_first Counted first t es l i = no_list (sym l)

module _ (ws ts : List ℕ) (form : RuleForm) (formed : RulesFormed ws form) (s : ℕ) (clause : ClauseRow) (shape : Shape) (known : shape ≡ shape_of clause.code) (start steps : ℕ) (r : Pass) where
  list_leads : is_list shape.fields ≡ true → shape.least ≤ clause.count → clause.count ≤ shape.most
      → AllLater ws (is_named shape.fields) s clause.first (clause.first + clause.count) → LeadsOn ws s clause
  list_leads list least most all =
      record {
        later = λ (t : ℕ) (i : In t (schemas_by ws clause)). list_later ws (shape_of clause.code).fields s clause.first clause.count t (rw (← known) list) (counts_of clause.code clause.count (rw (← known) least) (rw (← known) most)) (rw known at all.later) i;
      }

  other_leads : is_list shape.fields ≡ false → s < clause.first → LeadsOn ws s clause
  other_leads other later =
      record {
        later = λ (t : ℕ) (i : In t (schemas_by ws clause)). let e = other_first (shape_of clause.code).fields clause.first t (map (entry_at ws) (run clause.count clause.first)) (rw (← known) other) i in omega arith;
      }

  pub passed_list : is_list shape.fields ≡ true
      → listed_by form.e shape start clause ≡ true
      → ListFine ws ts shape.fields clause.first clause.count
      → r.start ≡ clause.first + clause.count
      → Later.Counted shape.unguarded (AllLater ws (is_named shape.fields) s clause.first (clause.first + clause.count)) steps r.steps
      → ClausePassed ws ts s clause start steps r
  unfolding list_ok
  passed_list list tests entries next counted =
      record {
        fields = rw (← known) (list_fields shape.fields (schemas_word ws) clause.first clause.count list);
        listed = rw (← known, list, ← form_e ws form formed) tests;
        list = λ t. rw (← known) entries;
        next = rw (← known, list) next;
        counted = rw (← known) (counted_so (list_leads list (leb-true shape.least clause.count (left few many sizes)) (leb-true clause.count shape.most (right few many sizes))) counted);
      }
    where
      few : Bool
      few = leb shape.least clause.count

      many : Bool
      many = leb clause.count shape.most

      sizes : (few && many) ≡ true
      sizes = right (leb (clause.first + clause.count) form.e) (few && many) (right (eqb clause.first start) (leb (clause.first + clause.count) form.e && (few && many)) tests)

  pub passed_other : is_list shape.fields ≡ false
      → fields_ok shape.fields form.m clause.first clause.count ≡ true
      → r.start ≡ start
      → Later.Counted shape.unguarded (s < clause.first) steps r.steps
      → ClausePassed ws ts s clause start steps r
  unfolding list_ok
  passed_other other fine next counted =
      record {
        fields = rw (← known, ← form_m ws form formed) fine;
        listed = rw (← known, other);
        list = λ t. absurd (no (rw (← known) at t));
        next = rw (← known, other) next;
        counted = rw (← known) (counted_so (other_leads other) counted);
      }
    where
      no : is_list shape.fields ≡ true → ⊥
      no t = let z : ◌≡◌ {A = ℕ} 0 1 = cc in omega arith
