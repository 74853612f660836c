-- The rule check's answers, line by line of the refusal table: which line is given, once those before it are known not to apply.
--     schemas_laid, clauses_laid, rules_laid          what the lines passed give to the next step
--     at_trailer, at_schema, at_clause, at_entry, at_name, at_text, at_loop, at_chain     the refusals
--     no_line                                         acceptance
-- Assumes nothing.
use mathlib.Core.Bool.{Bool, true, false, not, ◌&&◌}
use mathlib.Core.List.{List, [], ◌∷◌}
use mathlib.Core.Path.{◌≡◌, sym, ap, ◌∙◌}
use Prim.Native.Nat.{ℕ, ◌+◌, ◌≤◌, ◌<◌}
use native.Mathlib.Nat.{zero-add}
use native.Mathlib.Omega.{arith}
use lib.Dec.{eqb, leb}
use lib.ListN.{length}
use borrow.Author.Tests.{eqb-true, leb-true, not-false}
use Rattle.laws.specs.Lowest.{lowest}
use Rattle.laws.proofs.Tests.{left, right}
use Rattle.laws.proofs.Searches.{clear_below}
use Rattle.sheet.specs.Faults.{text_max}
use Rattle.sheet.specs.Refusals.{accepted, refused, Line, lowest_line, first_line}
use Rattle.sheet.proofs.Tables.{test_passed, test_given, line_passed, line_given}
use Rattle.rulesheet.specs.declared.form.RuleForm.{RuleForm}
use Rattle.rulesheet.specs.Ruleset.{next}
use Rattle.rulesheet.specs.Sheet.{schemas_word, clauses_word, entries_word, text_word, rules_of, next_of}
use Rattle.rulesheet.specs.Faults.{words_ok, text_ok, schema_fine, clause_fine, entry_fine, schema_fault, clause_fault, entry_fault, repeated, not_utf8}
use Rattle.rulesheet.specs.Read.{RulesFormed, SchemasLaid, ClausesLaid, RulesLaid}
use Rattle.rulesheet.proofs.Trailers.{form_m, form_c, form_e}
use Rattle.unguarded.specs.Graph.{chain_steps, chain, on_loop}
use Rattle.unguarded.proofs.Steps.{same_next}
use Rattle.rules.specs.Check.{rules_outcome}

-- what a search through all of n things did not find is nowhere
pub nowhere : (test : ℕ → Bool) (n : ℕ) → n ≤ lowest test n → (i : ℕ) → i < n → test i ≡ false
nowhere test n none i h = clear_below test n 0 i (omega arith) (omega arith) (omega arith)

module _ (ws : List ℕ) (form : RuleForm) (formed : RulesFormed ws form) where
  pub schemas_laid : schemas_word ws ≤ lowest (schema_fault ws) (schemas_word ws) → SchemasLaid ws form
  schemas_laid none =
      record {
        formed = formed;
        schemas_fine = λ (s : ℕ) (h : s < form.m). not-false (schema_fine ws s) (nowhere (schema_fault ws) (schemas_word ws) none s (omega (arith, form_m ws form formed)));
      }

  pub clauses_laid : SchemasLaid ws form → clauses_word ws ≤ lowest (clause_fault ws) (clauses_word ws) → ClausesLaid ws form
  clauses_laid laid none =
      record {
        schemas_laid = laid;
        clauses_fine = λ (k : ℕ) (h : k < form.c). not-false (clause_fine ws k) (nowhere (clause_fault ws) (clauses_word ws) none k (omega (arith, form_c ws form formed)));
      }

  pub rules_laid : ClausesLaid ws form → entries_word ws ≤ lowest (entry_fault ws) (entries_word ws) → RulesLaid ws form
  rules_laid laid none =
      record {
        clauses_laid = laid;
        entries_fine = λ (x : ℕ) (h : x < form.e). not-false (entry_fine ws x) (nowhere (entry_fault ws) (entries_word ws) none x (omega (arith, form_e ws form formed)));
      }

-- ---- the table's lines after 5, from each on

abbrev from9 : List ℕ → List ℕ → List Line
from9 ws ts = lowest_line 9 0 (schemas_word ws) (chain (next (rules_of ws ts)) chain_steps) ∷ []

abbrev from8 : List ℕ → List ℕ → List Line
from8 ws ts = lowest_line 8 0 (schemas_word ws) (on_loop (schemas_word ws) (next (rules_of ws ts))) ∷ from9 ws ts

abbrev from13 : List ℕ → List ℕ → List Line
from13 ws ts = lowest_line 13 (schemas_word ws + clauses_word ws) (entries_word ws) (not_utf8 ws ts) ∷ from8 ws ts

abbrev from7 : List ℕ → List ℕ → List Line
from7 ws ts = lowest_line 7 (schemas_word ws + clauses_word ws) (entries_word ws) (repeated ws ts) ∷ from13 ws ts

abbrev from_entries : List ℕ → List ℕ → List Line
from_entries ws ts = lowest_line 6 (schemas_word ws + clauses_word ws) (entries_word ws) (entry_fault ws) ∷ from7 ws ts

abbrev from_clauses : List ℕ → List ℕ → List Line
from_clauses ws ts = lowest_line 6 (schemas_word ws) (clauses_word ws) (clause_fault ws) ∷ from_entries ws ts

abbrev from_schemas : List ℕ → List ℕ → List Line
from_schemas ws ts = lowest_line 6 0 (schemas_word ws) (schema_fault ws) ∷ from_clauses ws ts

module _ (ws ts : List ℕ) where
  abbrev m : ℕ
  m = schemas_word ws

  abbrev c : ℕ
  c = clauses_word ws

  abbrev e : ℕ
  e = entries_word ws

  pub at_trailer : (words_ok ws && text_ok ws (length ts)) ≡ false → rules_outcome ws ts ≡ refused 5 0
  unfolding rules_outcome
  at_trailer bad = test_given _ _ m (ap not bad)

  module _ (good : (words_ok ws && text_ok ws (length ts)) ≡ true) where
    pub words_in_order : words_ok ws ≡ true
    words_in_order = left (words_ok ws) (text_ok ws (length ts)) good

    pub text_length : length ts ≡ text_word ws
    text_length =
        sym (eqb-true (text_word ws) (length ts)
        (left (eqb (text_word ws) (length ts)) (leb (length ts) text_max) (right (words_ok ws) (text_ok ws (length ts)) good)))

    pub text_short : length ts ≤ text_max
    text_short =
        leb-true (length ts) text_max
        (right (eqb (text_word ws) (length ts)) (leb (length ts) text_max) (right (words_ok ws) (text_ok ws (length ts)) good))

    past_trailer : rules_outcome ws ts ≡ first_line (from_schemas ws ts) m
    unfolding rules_outcome
    past_trailer = test_passed _ _ m (ap not good)

    pub at_schema : (place : ℕ) → place ≡ lowest (schema_fault ws) m → place < m → rules_outcome ws ts ≡ refused 6 place
    at_schema place is h = past_trailer ∙ line_given 6 0 m (schema_fault ws) (from_clauses ws ts) m place is h ∙ ap (refused 6) (zero-add place)

    module _ (no_schema : m ≤ lowest (schema_fault ws) m) where
      past_schemas : rules_outcome ws ts ≡ first_line (from_clauses ws ts) m
      past_schemas = past_trailer ∙ line_passed 6 0 m (schema_fault ws) (from_clauses ws ts) m no_schema

      pub at_clause : (place : ℕ) → place ≡ lowest (clause_fault ws) c → place < c → rules_outcome ws ts ≡ refused 6 (m + place)
      at_clause place is h = past_schemas ∙ line_given 6 m c (clause_fault ws) (from_entries ws ts) m place is h

      module _ (no_clause : c ≤ lowest (clause_fault ws) c) where
        past_clauses : rules_outcome ws ts ≡ first_line (from_entries ws ts) m
        past_clauses = past_schemas ∙ line_passed 6 m c (clause_fault ws) (from_entries ws ts) m no_clause

        pub at_entry : (place : ℕ) → place ≡ lowest (entry_fault ws) e → place < e → rules_outcome ws ts ≡ refused 6 (m + c + place)
        at_entry place is h = past_clauses ∙ line_given 6 (m + c) e (entry_fault ws) (from7 ws ts) m place is h

        module _ (no_entry : e ≤ lowest (entry_fault ws) e) where
          past_entries : rules_outcome ws ts ≡ first_line (from7 ws ts) m
          past_entries = past_clauses ∙ line_passed 6 (m + c) e (entry_fault ws) (from7 ws ts) m no_entry

          pub at_name : (place : ℕ) → place ≡ lowest (repeated ws ts) e → place < e → rules_outcome ws ts ≡ refused 7 (m + c + place)
          at_name place is h = past_entries ∙ line_given 7 (m + c) e (repeated ws ts) (from13 ws ts) m place is h

          module _ (no_name : e ≤ lowest (repeated ws ts) e) where
            past_names : rules_outcome ws ts ≡ first_line (from13 ws ts) m
            past_names = past_entries ∙ line_passed 7 (m + c) e (repeated ws ts) (from13 ws ts) m no_name

            pub at_text : (place : ℕ) → place ≡ lowest (not_utf8 ws ts) e → place < e → rules_outcome ws ts ≡ refused 13 (m + c + place)
            at_text place is h = past_names ∙ line_given 13 (m + c) e (not_utf8 ws ts) (from8 ws ts) m place is h

            module _ (no_text : e ≤ lowest (not_utf8 ws ts) e) where
              -- the text does not matter for the steps
              past_texts : rules_outcome ws ts ≡ first_line (lowest_line 8 0 m (on_loop m (next_of ws)) ∷ lowest_line 9 0 m (chain (next_of ws) chain_steps) ∷ []) m
              past_texts =
                  past_names
                  ∙ line_passed 13 (m + c) e (not_utf8 ws ts) (from8 ws ts) m no_text
                  ∙ ap (λ (n : ℕ → List ℕ). first_line (lowest_line 8 0 m (on_loop m n) ∷ lowest_line 9 0 m (chain n chain_steps) ∷ []) m) (same_next ws ts)

              pub at_loop : (place : ℕ) → place ≡ lowest (on_loop m (next_of ws)) m → place < m → rules_outcome ws ts ≡ refused 8 place
              at_loop place is h = past_texts ∙ line_given 8 0 m (on_loop m (next_of ws)) _ m place is h ∙ ap (refused 8) (zero-add place)

              module _ (no_loop : m ≤ lowest (on_loop m (next_of ws)) m) where
                past_loops : rules_outcome ws ts ≡ first_line (lowest_line 9 0 m (chain (next_of ws) chain_steps) ∷ []) m
                past_loops = past_texts ∙ line_passed 8 0 m (on_loop m (next_of ws)) _ m no_loop

                pub at_chain : (place : ℕ) → place ≡ lowest (chain (next_of ws) chain_steps) m → place < m → rules_outcome ws ts ≡ refused 9 place
                at_chain place is h = past_loops ∙ line_given 9 0 m (chain (next_of ws) chain_steps) [] m place is h ∙ ap (refused 9) (zero-add place)

                pub no_line : m ≤ lowest (chain (next_of ws) chain_steps) m → rules_outcome ws ts ≡ accepted m
                unfolding first_line
                no_line no_chain = past_loops ∙ line_passed 9 0 m (chain (next_of ws) chain_steps) [] m no_chain
