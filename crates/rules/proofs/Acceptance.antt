-- What acceptance of a rule sheet gives: no line of the table applies, and what follows.
--     accepted_facts    the theorem
-- Assumes nothing.
use mathlib.Core.Bool.{Bool, true, false, ◌&&◌}
use mathlib.Core.List.{List}
use mathlib.Core.Logic.{⊎_elim}
use mathlib.Core.Path.{◌≡◌, refl, sym, ap, ◌∙◌}
use Prim.Native.Nat.{ℕ, suc, ◌+◌, ◌-◌, ◌≤◌, ◌<◌}
use native.Mathlib.Omega.{arith}
use lib.ListN.{length}
use borrow.Author.Tests.{ne_eqb, ltb-true, not-false}
use Rattle.laws.specs.Lowest.{lowest}
use Rattle.laws.proofs.Tests.{le_or_lt, decide, left, right}
use Rattle.utf8.specs.Encoding.{Utf8}
use Rattle.utf8.specs.Automaton.{is_utf8}
use Rattle.utf8.proofs.Meaning.{utf8_is}
use Rattle.sheet.specs.Refusals.{accepted, refused}
use Rattle.sheet.proofs.Acceptance.{clash}
use Rattle.rulesheet.specs.declared.form.RuleForm.{RuleForm}
use Rattle.rulesheet.specs.Sheet.{schemas_word, clauses_word, entries_word, schema_at, clause_at, entry_at, next_of}
use Rattle.rulesheet.specs.Faults.{words_ok, text_ok, fields_ok, fields_at, schema_start, rises, list_start, list_ok, clause_fine_in, schema_fault, clause_fault, entry_fault, list_over, repeated, entry_text, not_utf8}
use Rattle.rulesheet.specs.Read.{RulesFormed, RulesLaid}
use Rattle.rulesheet.proofs.Trailers.{trailer_facts, form_m, form_c, form_e}
use Rattle.rulesheet.proofs.Taking.{schema_first, schema_within, schemas_within, clause_taken, clause_untaken, list_facts}
use Rattle.rulesheet.proofs.Repeating.{all_taken}
use Rattle.unguarded.specs.Graph.{chain_steps, chain, on_loop}
use Rattle.unguarded.proofs.Grounds.{grounded}
use Rattle.unguarded.proofs.Steps.{next_none, same_next}
use Rattle.rules.specs.Check.{rules_outcome}
use Rattle.rules.specs.Accepted.{AcceptedRules, RulesFacts}
use Rattle.rules.proofs.Checks.{nowhere, schemas_laid, clauses_laid, rules_laid, words_in_order, at_trailer, at_schema, at_clause, at_entry, at_name, at_text, at_loop, at_chain}

module _ (ws ts : List ℕ) (n : ℕ) (ok : rules_outcome ws ts ≡ accepted n) where
  abbrev m : ℕ
  m = schemas_word ws

  -- a search that would give a refusal found nothing
  none_at : (test : ℕ → Bool) (many number before : ℕ)
      → ((place : ℕ) → place ≡ lowest test many → place < many → rules_outcome ws ts ≡ refused number (before + place)) → many ≤ lowest test many
  none_at test many number before given =
      ⊎_elim (λ (l : many ≤ lowest test many). l)
      (λ (l : lowest test many < many). clash (rules_outcome ws ts) n number (before + lowest test many) ok (given (lowest test many) refl l))
      (le_or_lt many (lowest test many))

  good : (words_ok ws && text_ok ws (length ts)) ≡ true
  good =
      ⊎_elim (λ (t : (words_ok ws && text_ok ws (length ts)) ≡ true). t)
      (λ (t : (words_ok ws && text_ok ws (length ts)) ≡ false). clash (rules_outcome ws ts) n 5 0 ok (at_trailer ws ts t))
      (decide (words_ok ws && text_ok ws (length ts)))

  no_schema : m ≤ lowest (schema_fault ws) m
  no_schema = none_at (schema_fault ws) m 6 0 (λ place e h. at_schema ws ts good place e h ∙ ap (refused 6) (omega arith))

  no_clause : clauses_word ws ≤ lowest (clause_fault ws) (clauses_word ws)
  no_clause = none_at (clause_fault ws) (clauses_word ws) 6 m (at_clause ws ts good no_schema)

  no_entry : entries_word ws ≤ lowest (entry_fault ws) (entries_word ws)
  no_entry = none_at (entry_fault ws) (entries_word ws) 6 (m + clauses_word ws) (at_entry ws ts good no_schema no_clause)

  no_name : entries_word ws ≤ lowest (repeated ws ts) (entries_word ws)
  no_name = none_at (repeated ws ts) (entries_word ws) 7 (m + clauses_word ws) (at_name ws ts good no_schema no_clause no_entry)

  no_text : entries_word ws ≤ lowest (not_utf8 ws ts) (entries_word ws)
  no_text = none_at (not_utf8 ws ts) (entries_word ws) 13 (m + clauses_word ws) (at_text ws ts good no_schema no_clause no_entry no_name)

  no_loop : m ≤ lowest (on_loop m (next_of ws)) m
  no_loop =
      none_at (on_loop m (next_of ws)) m 8 0
      (λ place e h. at_loop ws ts good no_schema no_clause no_entry no_name no_text place e h ∙ ap (refused 8) (omega arith))

  no_chain : m ≤ lowest (chain (next_of ws) chain_steps) m
  no_chain =
      none_at (chain (next_of ws) chain_steps) m 9 0
      (λ place e h. at_chain ws ts good no_schema no_clause no_entry no_name no_text no_loop place e h ∙ ap (refused 9) (omega arith))

text_readable : (ws ts : List ℕ) (x : ℕ) → not_utf8 ws ts x ≡ false → Utf8 (entry_text (fields_at ws (list_over ws x)) ts (entry_at ws x))
unfolding not_utf8
text_readable ws ts x f =
    let bytes = entry_text (fields_at ws (list_over ws x)) ts (entry_at ws x) in
    (utf8_is bytes).0 (not-false (is_utf8 bytes) f)

module _ (ws ts : List ℕ) (form : RuleForm) (a : AcceptedRules ws ts form) where
  whole : (words_ok ws && text_ok ws (length ts)) ≡ true
  whole = good ws ts form.m a.accepts

  formed : RulesFormed ws form
  formed = record { trailer = words_in_order ws ts whole; same_form = a.same_form }

  pub accepted_laid : RulesLaid ws form
  accepted_laid =
      rules_laid ws form formed
      (clauses_laid ws form formed (schemas_laid ws form formed (no_schema ws ts form.m a.accepts)) (no_clause ws ts form.m a.accepts))
      (no_entry ws ts form.m a.accepts)

  -- a clause that no schema takes would be at fault
  no_rest : schema_start ws (schemas_word ws) < clauses_word ws → ⊥
  no_rest l =
      let bad = clause_untaken ws form accepted_laid.clauses_laid.schemas_laid (schema_start ws (schemas_word ws)) (omega arith) in
      let z : ◌≡◌ {A = ℕ} 0 1 = cc (accepted_laid.clauses_laid.clauses_fine (schema_start ws (schemas_word ws)) (omega (arith, form_c ws form formed))) in
      omega arith

  all_clauses : schema_start ws form.m ≡ clauses_word ws
  all_clauses =
      let low = schemas_within ws form accepted_laid.clauses_laid.schemas_laid form.m (omega arith) in
      let e = form_m ws form formed in
      ⊎_elim (λ (l : clauses_word ws ≤ schema_start ws form.m). omega arith)
      (λ (l : schema_start ws form.m < clauses_word ws). absurd (no_rest (rw e at l)))
      (le_or_lt (clauses_word ws) (schema_start ws form.m))

  rising : (s k : ℕ) → s < form.m → (schema_at ws s).first ≤ k → suc k < (schema_at ws s).first + (schema_at ws s).count
      → (clause_at ws k).code < (clause_at ws (suc k)).code
  unfolding rises clause_fine_in
  rising s k h low high =
      let row = clause_at ws (suc k) in
      let first = (schema_at ws s).first in
      let laid = accepted_laid.clauses_laid in
      let within = schema_within ws form laid.schemas_laid s h in
      let fine = sym (clause_taken ws form laid.schemas_laid s (suc k) h (omega arith) high) ∙ laid.clauses_fine (suc k) (omega (arith, form_c ws form formed)) in
      let one = fields_ok (fields_at ws (suc k)) (schemas_word ws) row.first row.count in
      let two = rises ws first (suc k) in
      let three = list_ok ws (list_start ws (suc k)) row in
      let up = left two three (right one (two && three) fine) in
      let before : suc k - 1 ≡ k = omega arith in
      ltb-true (clause_at ws k).code row.code (rw (ne_eqb (suc k) first (λ e. omega arith), before) at up)

  pub accepted_facts : RulesFacts ws ts form
  accepted_facts =
      let t = trailer_facts ws formed.trailer in
      let laid = accepted_laid.clauses_laid in
      record {
        some = omega (arith, t.some, form_m ws form formed);
        few = omega (arith, t.few, form_m ws form formed);
        rules_laid = accepted_laid;
        schema_starts = schema_first ws form laid.schemas_laid;
        schemas_end = all_clauses;
        list_starts = λ k h t. (list_facts ws k (laid.clauses_fine k h) t).list_first;
        lists_end = rw (form_c ws form formed) (all_taken ws ts form accepted_laid);
        codes_rise = rising;
        names_differ = λ (x : ℕ) (h : x < form.e). nowhere (repeated ws ts) (entries_word ws) (no_name ws ts form.m a.accepts) x (omega (arith, form_e ws form formed));
        readable = λ (x : ℕ) (h : x < form.e). text_readable ws ts x (nowhere (not_utf8 ws ts) (entries_word ws) (no_text ws ts form.m a.accepts) x (omega (arith, form_e ws form formed)));
        grounds = rw (same_next ws ts) (grounded (next_of ws) (schemas_word ws) (next_none ws) (no_chain ws ts form.m a.accepts));
      }
