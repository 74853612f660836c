-- Every schema that an accepted sheet names exists.
--     steps_named        a clause names the schemas that it steps to
--     named_inside       each schema that a clause of the rules names is one of the m schemas
-- Assumes nothing.
use mathlib.Core.Bool.{true}
use mathlib.Core.List.Memᴰ
use mathlib.Core.List.{List, [], ◌∷◌, map, Memᴰ as In}
use mathlib.Core.Logic.{⊎_elim}
use mathlib.Core.Path.{◌≡◌, refl, sym, ap, subst, ◌∙◌}
use Prim.Native.Nat.{ℕ, zero, suc, ◌+◌, ◌≤◌, ◌<◌}
use native.Mathlib.Omega.{arith}
use lib.Dec.{eqb, ltb}
use lib.ListN.{get_or}
use borrow.Author.Tests.{ltb-true, lt-ltb, le-ltb}
use Rattle.laws.proofs.Tests.{le_or_lt, left, right}
use Rattle.text.specs.Part.{fits}
use Rattle.sheet.specs.Faults.{none}
use Rattle.rulesheet.specs.declared.code.Fields.{Fields}
use Rattle.rulesheet.specs.declared.code.Fields.TheVariants.{Unknown, Bare, Types, Number, Positive, Limit, Schema, Values, Names, Schemas, Members, Branches, Counted}
use Rattle.rulesheet.specs.declared.form.EntryRow.{EntryRow}
use Rattle.rulesheet.specs.declared.form.RuleForm.{RuleForm}
use Rattle.rulesheet.specs.Ruleset.{Clause, in_place, if_then_else, dependent_schemas, unguarded, named}
use Rattle.rulesheet.specs.Codes.{Parts, CodeLine, codes, no_entry, entry_range, entry_name, means_of, shape_of}
use Rattle.rulesheet.specs.Sheet.{schemas_word, clauses_word, text_word, schema_at, clause_at, entry_at, run, clause_of, rules_of}
use Rattle.rulesheet.specs.Faults.{is_list, fields_at, entry_ok, clause_fine}
use Rattle.rulesheet.specs.Read.{RulesLaid}
use Rattle.rulesheet.proofs.Trailers.{form_m, form_c, form_e}
use Rattle.rulesheet.proofs.Taking.{schema_within, clause_facts, list_facts, entry_taken}
use Rattle.rulesheet.proofs.Reaching.{Every, done, and, in_table, named_by, third_of, made_at, parts_at}
use Rattle.rulesheet.proofs.Sizes.{clause_sized}

pub steps_named : (clause : Clause) (t : ℕ) → In t (unguarded clause) → In t (named clause)
steps_named (in_place mode schemas) t i = i
steps_named (if_then_else a b c) t i = i
steps_named (dependent_schemas members) t i = i
steps_named (Rattle.rulesheet.specs.Ruleset.asserts _) t i = elim i [ ]
steps_named (Rattle.rulesheet.specs.Ruleset.contains _ _ _) t i = elim i [ ]
steps_named (Rattle.rulesheet.specs.Ruleset.takes _) t i = elim i [ ]

-- ---- by a code's fields

Naming : CodeLine → Type 0
Naming line = (p : Parts) (t : ℕ) → In t (named (line.means p)) → In t (named_by line.shape.fields p.first p.entries)

-- members are mapped twice: to names with schemas, and to schemas
twice : (name : EntryRow → List ℕ) (es : List EntryRow) (t : ℕ)
    → In t (map (λ (m : List ℕ × ℕ). m.1) (map (λ (e : EntryRow). (name e, e.third)) es)) → In t (map (λ (e : EntryRow). e.third) es)
twice name es t i = subst (In t) (third_of name es) i

table_names : Every Naming codes
unfolding Naming
table_names = and (λ p t i. i) (and (λ p t i. i) (and (λ p t i. i) (and (λ p t i. i) (and (λ p t i. i) (and (λ p t i. i) (and (λ p t i. i) (and (λ p t i. i) (and (λ p t i. i) (and (λ p t i. i) (and (λ p t i. i) (and (λ p t i. i) (and (λ p t i. i) (and (λ p t i. i) (and (λ p t i. i) (and (λ p t i. i) (and (λ p t i. i) (and (λ p t i. i) (and (λ p t i. i) (and (λ p t i. i) (and (λ p t i. i) (and (λ p t i. twice (entry_name p.text) p.entries t i) (and (λ p t i. twice (entry_name p.text) p.entries t i) (and (λ p t i. i) (and (λ p t i. i) (and (λ p t i. i) (and (λ p t i. i) (and (λ p t i. i) (and (λ p t i. i) done))))))))))))))))))))))))))))

names_of : (code : ℕ) (p : Parts) (t : ℕ) → In t (named (means_of code p)) → In t (named_by (shape_of code).fields p.first p.entries)
unfolding Naming
names_of code = in_table Naming codes code (λ p t i. i) table_names

-- ---- runs

run_in : (many from x : ℕ) → In x (run many from) → (from ≤ x) × (x < from + many)
unfolding run
run_in zero from x i = absurd (Memᴰ.not-nil i)
run_in (suc many) from x i =
    ⊎_elim (λ (e : x ≡ from). (omega arith, omega arith))
    (λ l. let r = run_in many (from + 1) x l in (omega (arith, r.0), omega (arith, r.1)))
    (Memᴰ.cases_cons i)

-- ---- on a sheet whose layout is accepted

module _ (ws ts : List ℕ) (form : RuleForm) (laid : RulesLaid ws form) (k : ℕ) (h : k < clauses_word ws) where
  fine : clause_fine ws k ≡ true
  fine = laid.clauses_laid.clauses_fine k (omega (arith, form_c ws form laid.clauses_laid.schemas_laid.formed))

  -- an entry that the clause takes is one of the sheet's
  listed : (e : EntryRow) → In e (map (entry_at ws) (run (clause_at ws k).count (clause_at ws k).first)) → is_list (fields_at ws k) ≡ true
      → entry_ok (fields_at ws k) (text_word ws) (schemas_word ws) e ≡ true
  listed e i list =
      let a = Memᴰ.of_map (entry_at ws) (run (clause_at ws k).count (clause_at ws k).first) i in
      let r = run_in (clause_at ws k).count (clause_at ws k).first a.0 a.1 in
      let inside = (list_facts ws k fine list).list_within in
      rw (← a.2)
      (sym (entry_taken ws form laid.clauses_laid k a.0 h list r.0 r.1)
      ∙ laid.entries_fine a.0 (omega (arith, r.1, form_e ws form laid.clauses_laid.schemas_laid.formed)))

  -- and so is the one at a place
  at_entry : (i : ℕ) → i < (clause_at ws k).count → is_list (fields_at ws k) ≡ true
      → entry_ok (fields_at ws k) (text_word ws) (schemas_word ws) (get_or (parts_at ws ts k).entries i no_entry) ≡ true
  at_entry i l list =
      let row = clause_at ws k in
      let inside = (list_facts ws k fine list).list_within in
      rw (made_at (entry_at ws) row.count row.first i no_entry l)
      (sym (entry_taken ws form laid.clauses_laid k (row.first + i) h list (omega arith) (omega arith))
      ∙ laid.entries_fine (row.first + i) (omega (arith, form_e ws form laid.clauses_laid.schemas_laid.formed)))

  by_fields : (f : Fields) (t : ℕ) → fields_at ws k ≡ f → In t (named_by f (clause_at ws k).first (parts_at ws ts k).entries) → t < schemas_word ws
  by_fields Unknown t e i = absurd (Memᴰ.not-nil i)
  by_fields Bare t e i = absurd (Memᴰ.not-nil i)
  by_fields Types t e i = absurd (Memᴰ.not-nil i)
  by_fields Number t e i = absurd (Memᴰ.not-nil i)
  by_fields Positive t e i = absurd (Memᴰ.not-nil i)
  by_fields Limit t e i = absurd (Memᴰ.not-nil i)
  by_fields Schema t e i =
      let row = clause_at ws k in
      let ok = rw e at (clause_facts ws k fine).fields_fine in
      let low = ltb-true row.first (schemas_word ws) (left (ltb row.first (schemas_word ws)) (eqb row.count 0) ok) in
      rw (Memᴰ.eq_of_singleton i) low
  by_fields Values t e i = absurd (Memᴰ.not-nil i)
  by_fields Names t e i = absurd (Memᴰ.not-nil i)
  by_fields Schemas t e i =
      let a = Memᴰ.of_map (λ (x : EntryRow). x.first) (parts_at ws ts k).entries i in
      let ok = rw e at (listed a.0 a.1 (rw e)) in
      let low = ltb-true a.0.first (schemas_word ws) (left (ltb a.0.first (schemas_word ws)) (none a.0.second a.0.third) ok) in
      rw (← a.2) low
  by_fields Members t e i =
      let a = Memᴰ.of_map (λ (x : EntryRow). x.third) (parts_at ws ts k).entries i in
      let ok = rw e at (listed a.0 a.1 (rw e)) in
      let low = ltb-true a.0.third (schemas_word ws) (right (fits (text_word ws) (entry_range a.0)) (ltb a.0.third (schemas_word ws)) ok) in
      rw (← a.2) low
  by_fields Branches t e i =
      let n = rw e at (clause_sized ws k fine (rw e)) in
      let it : ℕ → ℕ = λ x. (get_or (parts_at ws ts k).entries x no_entry).first in
      ⊎_elim (λ (a : t ≡ it 0). rw a (at_first 0 e (omega arith)))
      (λ (j : In t (it 1 ∷ it 2 ∷ [])).
      ⊎_elim (λ (a : t ≡ it 1). rw a (at_first 1 e (omega arith)))
      (λ (l : In t (it 2 ∷ [])). let a : t ≡ it 2 = Memᴰ.eq_of_singleton l in rw a (at_first 2 e (omega arith)))
      (Memᴰ.cases_cons j))
      (Memᴰ.cases_cons i)
    where
      at_first : (x : ℕ) → fields_at ws k ≡ Branches → x < (clause_at ws k).count → (get_or (parts_at ws ts k).entries x no_entry).first < schemas_word ws
      at_first x f l =
          let it = get_or (parts_at ws ts k).entries x no_entry in
          let ok = rw f at (at_entry x l (rw f)) in
          ltb-true it.first (schemas_word ws) (left (ltb it.first (schemas_word ws)) (none it.second it.third) ok)
  by_fields Counted t e i =
      let n = rw e at (clause_sized ws k fine (rw e)) in
      let it = get_or (parts_at ws ts k).entries 0 no_entry in
      let ok = rw e at (at_entry 0 (omega arith) (rw e)) in
      rw (Memᴰ.eq_of_singleton i) (ltb-true it.first (schemas_word ws) ok)

  pub clause_inside : (t : ℕ) → In t (named (clause_of ws ts k)) → t < schemas_word ws
  unfolding clause_of
  clause_inside t i = by_fields (fields_at ws k) t refl (names_of (clause_at ws k).code (parts_at ws ts k) t i)

pub named_inside : (ws ts : List ℕ) (form : RuleForm) → RulesLaid ws form → (s : ℕ) (clause : Clause) (t : ℕ)
    → In clause ((rules_of ws ts).clauses s) → In t (named clause) → t < schemas_word ws
unfolding rules_of
named_inside ws ts form laid s clause t i n =
    ⊎_elim
    (λ (l : schemas_word ws ≤ s). absurd (Memᴰ.not-nil (rw (le-ltb s (schemas_word ws) l) at i)))
    (λ (l : s < schemas_word ws). inside l (rw (lt-ltb s (schemas_word ws) l) at i))
    (le_or_lt (schemas_word ws) s)
  where
    inside : s < schemas_word ws → In clause (map (clause_of ws ts) (run (schema_at ws s).count (schema_at ws s).first)) → t < schemas_word ws
    inside l j =
        let formed = laid.clauses_laid.schemas_laid.formed in
        let a = Memᴰ.of_map (clause_of ws ts) (run (schema_at ws s).count (schema_at ws s).first) j in
        let r = run_in (schema_at ws s).count (schema_at ws s).first a.0 a.1 in
        let within = schema_within ws form laid.clauses_laid.schemas_laid s (omega (arith, form_m ws form formed)) in
        clause_inside ws ts form laid a.0 (omega (arith, r.1)) t (rw (← a.2) at n)
