-- The rule check's answers after the lines up to 7 were passed, and the form after 5.
--     trailer_formed                                  the form, after 5
--     places_fit                                      places are words
--     rest_text, rest_loop, rest_chain, rest_none, rest_short, rest_plain     the lines after 7, of a sheet that passed those up to it
-- Assumes nothing.
use mathlib.Core.Bool.{not}
use mathlib.Core.List.{List}
use mathlib.Core.Path.{◌≡◌, ap}
use Prim.Native.Nat.{ℕ, ◌+◌, ◌≤◌, ◌<◌}
use native.Mathlib.Omega.{arith}
use lib.ListN.{length}
use Rattle.laws.specs.Lowest.{lowest}
use Rattle.laws.proofs.Tests.{left}
use Rattle.laws.proofs.Searches.{none_found}
use Rattle.sheet.specs.Refusals.{accepted, refused}
use Rattle.rulesheet.specs.declared.form.RuleForm.{RuleForm}
use Rattle.rulesheet.specs.Sheet.{schemas_word, clauses_word, entries_word, next_of}
use Rattle.rulesheet.specs.Faults.{words_ok, text_ok, schema_fault, clause_fault, entry_fault, repeated, not_utf8}
use Rattle.rulesheet.specs.Read.{RulesFormed}
use Rattle.rulesheet.proofs.Trailers.{facts, form_m, form_c, form_e}
use Rattle.unguarded.specs.Graph.{chain_steps, chain, on_loop}
use Rattle.unguarded.specs.Places.{chain_place}
use Rattle.unguarded.proofs.Grounds.{none_looped}
use Rattle.rulepass.specs.Pass.{Laid}
use Rattle.reach.specs.Reach.{AllUtf8}
use Rattle.ruletexts.proofs.Readable.{all_fine}
use Rattle.rules.specs.Check.{rules_outcome}
use Rattle.rules.specs.Accepted.{TrailerFine}
use Rattle.rules.proofs.Checks.{text_length, at_text, at_loop, at_chain, no_line}

pub trailer_formed : (ws ts : List ℕ) (form : RuleForm) → TrailerFine ws ts form → RulesFormed ws form
trailer_formed ws ts form fine = record { trailer = left (words_ok ws) (text_ok ws (length ts)) fine.good; same_form = fine.same_form }

-- each place is a word
pub places_fit : (ws ts : List ℕ) (form : RuleForm) → TrailerFine ws ts form → form.m + form.c + form.e < 4294967296
places_fit ws ts form fine = let f = trailer_formed ws ts form fine in omega (arith, (facts ws form f).few, (facts ws form f).few_clauses, (facts ws form f).few_entries, form_m ws form f, form_c ws form f, form_e ws form f)

-- a sheet that passed the lines up to 7, line by line
module _ (ws ts : List ℕ) (form : RuleForm) (laid : Laid ws ts form) where
  formed : RulesFormed ws form
  formed = laid.rules_laid.clauses_laid.schemas_laid.formed

  no_schema : schemas_word ws ≤ lowest (schema_fault ws) (schemas_word ws)
  no_schema =
      omega (arith, none_found (schema_fault ws) (schemas_word ws) 0 (λ (s : ℕ) low (h : s < 0 + schemas_word ws). ap not (laid.rules_laid.clauses_laid.schemas_laid.schemas_fine s (omega (arith, form_m ws form formed)))))

  no_clause : clauses_word ws ≤ lowest (clause_fault ws) (clauses_word ws)
  no_clause =
      omega (arith, none_found (clause_fault ws) (clauses_word ws) 0 (λ (k : ℕ) low (h : k < 0 + clauses_word ws). ap not (laid.rules_laid.clauses_laid.clauses_fine k (omega (arith, form_c ws form formed)))))

  no_entry : entries_word ws ≤ lowest (entry_fault ws) (entries_word ws)
  no_entry =
      omega (arith, none_found (entry_fault ws) (entries_word ws) 0 (λ (x : ℕ) low (h : x < 0 + entries_word ws). ap not (laid.rules_laid.entries_fine x (omega (arith, form_e ws form formed)))))

  no_name : entries_word ws ≤ lowest (repeated ws ts) (entries_word ws)
  no_name = omega (arith, none_found (repeated ws ts) (entries_word ws) 0 (λ (x : ℕ) low (h : x < 0 + entries_word ws). laid.names_differ x (omega (arith, form_e ws form formed))))

module _ (ws ts : List ℕ) (form : RuleForm) (fine : TrailerFine ws ts form) (laid : Laid ws ts form) where
  abbrev none6 : schemas_word ws ≤ lowest (schema_fault ws) (schemas_word ws)
  none6 = no_schema ws ts form laid

  pub rest_text : (place : ℕ) → place ≡ lowest (not_utf8 ws ts) (entries_word ws) → place < entries_word ws → rules_outcome ws ts ≡ refused 13 (schemas_word ws + clauses_word ws + place)
  rest_text = at_text ws ts fine.good none6 (no_clause ws ts form laid) (no_entry ws ts form laid) (no_name ws ts form laid)

  module _ (no_text : entries_word ws ≤ lowest (not_utf8 ws ts) (entries_word ws)) where
    pub rest_loop : (place : ℕ) → place ≡ lowest (on_loop (schemas_word ws) (next_of ws)) (schemas_word ws) → place < schemas_word ws → rules_outcome ws ts ≡ refused 8 place
    rest_loop = at_loop ws ts fine.good none6 (no_clause ws ts form laid) (no_entry ws ts form laid) (no_name ws ts form laid) no_text

    module _ (no_loop : schemas_word ws ≤ lowest (on_loop (schemas_word ws) (next_of ws)) (schemas_word ws)) where
      pub rest_chain : (place : ℕ) → place ≡ lowest (chain (next_of ws) chain_steps) (schemas_word ws) → place < schemas_word ws → rules_outcome ws ts ≡ refused 9 place
      rest_chain = at_chain ws ts fine.good none6 (no_clause ws ts form laid) (no_entry ws ts form laid) (no_name ws ts form laid) no_text no_loop

      pub rest_none : schemas_word ws ≤ lowest (chain (next_of ws) chain_steps) (schemas_word ws) → rules_outcome ws ts ≡ accepted (schemas_word ws)
      rest_none = no_line ws ts fine.good none6 (no_clause ws ts form laid) (no_entry ws ts form laid) (no_name ws ts form laid) no_text no_loop

    -- where no chain is too long, there is no loop
    pub rest_short : schemas_word ws ≤ chain_place (schemas_word ws) (next_of ws) → rules_outcome ws ts ≡ accepted (schemas_word ws)
    rest_short short = rest_none (omega (arith, none_looped (next_of ws) (schemas_word ws) short)) short

  -- where every text is UTF-8, and no chain is too long
  pub rest_plain : AllUtf8 ts → schemas_word ws ≤ chain_place (schemas_word ws) (next_of ws) → rules_outcome ws ts ≡ accepted (schemas_word ws)
  rest_plain every = rest_short none_other
    where
      none_other : entries_word ws ≤ lowest (not_utf8 ws ts) (entries_word ws)
      none_other =
          omega (arith, none_found (not_utf8 ws ts) (entries_word ws) 0 (λ (x : ℕ) low (h : x < 0 + entries_word ws). all_fine ws ts form laid.rules_laid (text_length ws ts fine.good) every x (omega (arith, form_e ws form (formed ws ts form laid)))))
