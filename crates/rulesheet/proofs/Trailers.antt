-- What a rule trailer in order tells of the words.
--     trailer_facts                        its tests, as facts about numbers
--     form_m, form_c, form_e               the form's counts are the trailer's
--     part-inside                          the words of a schema, a clause or an entry lie among the words
--     schema_read, clause_read, entry_read     the words from its place on are the schema, the clause, the entry
-- Assumes nothing.
use mathlib.Core.Bool.{true, ◌&&◌}
use mathlib.Core.List.{List}
use mathlib.Core.Path.{◌≡◌, ap}
use Prim.Native.Nat.{ℕ, ◌+◌, ◌-◌, ◌*◌, ◌≤◌, ◌<◌}
use native.Mathlib.Nat.{add-zero}
use native.Mathlib.Omega.{arith}
use lib.Dec.{eqb, leb}
use lib.ListN.{length, get_or}
use borrow.Author.Tests.{leb-true, eqb-true}
use Rattle.laws.proofs.Tests.{left, right}
use Rattle.rulesheet.specs.declared.form.SchemaRow.{SchemaRow}
use Rattle.rulesheet.specs.declared.form.ClauseRow.{ClauseRow}
use Rattle.rulesheet.specs.declared.form.EntryRow.{EntryRow}
use Rattle.rulesheet.specs.declared.form.RuleForm.{RuleForm}
use Rattle.rulesheet.specs.Sheet.{trailer_words, schema_words, clause_words, entry_words, schemas_word, clauses_word, entries_word, back_word, kind_word, form_of, schema_at, clause_at, entry_at}
use Rattle.rulesheet.specs.Faults.{rule_kind, schemas_max, parts_max, words_ok}
use Rattle.rulesheet.specs.Read.{RulesFormed}

pub record TrailerFacts (ws : List ℕ) : Type 0 where
  pub long : trailer_words ≤ length ws
  pub some : 1 ≤ schemas_word ws
  pub few : schemas_word ws ≤ schemas_max
  pub few_clauses : clauses_word ws ≤ parts_max
  pub few_entries : entries_word ws ≤ parts_max
  pub back_is : back_word ws ≡ schema_words * schemas_word ws + clause_words * clauses_word ws + entry_words * entries_word ws
  pub room : back_word ws + trailer_words ≤ length ws

pub trailer_facts : (ws : List ℕ) → words_ok ws ≡ true → TrailerFacts ws
unfolding words_ok
trailer_facts ws ok =
    let sum = schema_words * schemas_word ws + clause_words * clauses_word ws + entry_words * entries_word ws in
    let t1 = leb trailer_words (length ws) in
    let t2 = eqb (kind_word ws) rule_kind in
    let t3 = leb 1 (schemas_word ws) in
    let t4 = leb (schemas_word ws) schemas_max in
    let t5 = leb (clauses_word ws) parts_max in
    let t6 = leb (entries_word ws) parts_max in
    let t7 = eqb (back_word ws) sum in
    let t8 = leb (back_word ws + trailer_words) (length ws) in
    let from2 = right t1 (t2 && ((t3 && t4) && ((t5 && t6) && (t7 && t8)))) ok in
    let from3 = right t2 ((t3 && t4) && ((t5 && t6) && (t7 && t8))) from2 in
    let from5 = right (t3 && t4) ((t5 && t6) && (t7 && t8)) from3 in
    let from7 = right (t5 && t6) (t7 && t8) from5 in
    let only3 = left (t3 && t4) ((t5 && t6) && (t7 && t8)) from3 in
    let only5 = left (t5 && t6) (t7 && t8) from5 in
    record {
      long = leb-true trailer_words (length ws) (left t1 (t2 && ((t3 && t4) && ((t5 && t6) && (t7 && t8)))) ok);
      some = leb-true 1 (schemas_word ws) (left t3 t4 only3);
      few = leb-true (schemas_word ws) schemas_max (right t3 t4 only3);
      few_clauses = leb-true (clauses_word ws) parts_max (left t5 t6 only5);
      few_entries = leb-true (entries_word ws) parts_max (right t5 t6 only5);
      back_is = eqb-true (back_word ws) sum (left t7 t8 from7);
      room = leb-true (back_word ws + trailer_words) (length ws) (right t7 t8 from7);
    }

module _ (ws : List ℕ) (form : RuleForm) (formed : RulesFormed ws form) where
  pub facts : TrailerFacts ws
  facts = trailer_facts ws formed.trailer

  pub form_m : form.m ≡ schemas_word ws
  unfolding form_of
  form_m = ap (λ (f : RuleForm). f.m) formed.same_form

  pub form_c : form.c ≡ clauses_word ws
  unfolding form_of
  form_c = ap (λ (f : RuleForm). f.c) formed.same_form

  pub form_e : form.e ≡ entries_word ws
  unfolding form_of
  form_e = ap (λ (f : RuleForm). f.e) formed.same_form

  schemas_start : form.schemas ≡ length ws - trailer_words - back_word ws
  unfolding form_of
  schemas_start = ap (λ (f : RuleForm). f.schemas) formed.same_form

  clauses_start : form.clauses ≡ length ws - trailer_words - entry_words * entries_word ws - clause_words * clauses_word ws
  unfolding form_of
  clauses_start = ap (λ (f : RuleForm). f.clauses) formed.same_form

  entries_start : form.entries ≡ length ws - trailer_words - entry_words * entries_word ws
  unfolding form_of
  entries_start = ap (λ (f : RuleForm). f.entries) formed.same_form

  pub schema_inside : (s : ℕ) → s < form.m → form.schemas + schema_words * s + schema_words ≤ length ws
  schema_inside s h = let t = facts in omega (arith, form_m, schemas_start, t.back_is, t.room)

  pub clause_inside : (k : ℕ) → k < form.c → form.clauses + clause_words * k + clause_words ≤ length ws
  clause_inside k h = let t = facts in omega (arith, form_c, clauses_start, t.back_is, t.room)

  pub entry_inside : (x : ℕ) → x < form.e → form.entries + entry_words * x + entry_words ≤ length ws
  entry_inside x h = let t = facts in omega (arith, form_e, entries_start, t.back_is, t.room)

  pub entries_end : form.entries + entry_words * entries_word ws ≤ length ws
  entries_end = let t = facts in omega (arith, entries_start, t.back_is, t.room)

  abbrev pub schema_from : ℕ → SchemaRow
  schema_from at = record { first = get_or ws at 0; count = get_or ws (at + 1) 0 }

  abbrev pub clause_from : ℕ → ClauseRow
  clause_from at = record { code = get_or ws at 0; first = get_or ws (at + 1) 0; count = get_or ws (at + 2) 0 }

  abbrev pub entry_from : ℕ → EntryRow
  entry_from at = record { first = get_or ws at 0; second = get_or ws (at + 1) 0; third = get_or ws (at + 2) 0 }

  pub schema_read : (at s : ℕ) → at ≡ form.schemas + schema_words * s → schema_from at ≡ schema_at ws s
  unfolding schema_at
  schema_read at s e = rw (e, formed.same_form, add-zero)

  pub clause_read : (at k : ℕ) → at ≡ form.clauses + clause_words * k → clause_from at ≡ clause_at ws k
  unfolding clause_at
  clause_read at k e = rw (e, formed.same_form, add-zero)

  pub entry_read : (at x : ℕ) → at ≡ form.entries + entry_words * x → entry_from at ≡ entry_at ws x
  unfolding entry_at
  entry_read at x e = rw (e, formed.same_form, add-zero)
