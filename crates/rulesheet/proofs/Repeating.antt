-- Entries that have names, and that none is left over.
--     named_fits     an entry that has a name has it within the text
--     all_taken      the lists take all the entries
-- Assumes nothing.
use mathlib.Core.Bool.{true}
use mathlib.Core.List.{List}
use mathlib.Core.Path.{◌≡◌}
use mathlib.Core.Logic.{⊎_elim}
use Prim.Native.Nat.{ℕ, ◌≤◌, ◌<◌}
use native.Mathlib.Omega.{arith}
use lib.Dec.{eqb, ltb}
use Rattle.laws.proofs.Tests.{le_or_lt, left}
use Rattle.text.specs.Part.{fits}
use Rattle.rulesheet.specs.declared.code.Fields.{Fields}
use Rattle.rulesheet.specs.declared.code.Fields.TheVariants.{Unknown, Bare, Types, Number, Positive, Limit, Schema, Values, Names as NamesOf, Schemas, Members, Branches, Counted}
use Rattle.rulesheet.specs.declared.form.EntryRow.{EntryRow}
use Rattle.rulesheet.specs.declared.form.RuleForm.{RuleForm}
use Rattle.rulesheet.specs.Codes.{entry_range}
use Rattle.rulesheet.specs.Sheet.{clauses_word, entries_word}
use Rattle.rulesheet.specs.Faults.{is_named, entry_ok, list_start}
use Rattle.rulesheet.specs.Read.{RulesLaid}
use Rattle.rulesheet.proofs.Trailers.{form_e}
use Rattle.rulesheet.proofs.Taking.{entry_untaken, lists_within}

-- an entry with a name has it within the text
pub named_fits : (fields : Fields) (size m : ℕ) (e : EntryRow) → is_named fields ≡ true → entry_ok fields size m e ≡ true → fits size (entry_range e) ≡ true
named_fits Unknown size m e n t = cc
named_fits Bare size m e n t = cc
named_fits Types size m e n t = cc
named_fits Number size m e n t = cc
named_fits Positive size m e n t = cc
named_fits Limit size m e n t = cc
named_fits Schema size m e n t = cc
named_fits Values size m e n t = cc
named_fits NamesOf size m e n t = left (fits size (entry_range e)) (eqb e.third 0) t
named_fits Schemas size m e n t = cc
named_fits Members size m e n t = left (fits size (entry_range e)) (ltb e.third m) t
named_fits Branches size m e n t = cc
named_fits Counted size m e n t = cc

module _ (ws ts : List ℕ) (form : RuleForm) (laid : RulesLaid ws form) where
  -- no entry is left over
  pub all_taken : list_start ws (clauses_word ws) ≡ entries_word ws
  all_taken =
      let e = form_e ws form laid.clauses_laid.schemas_laid.formed in
      let low = lists_within ws form laid.clauses_laid (clauses_word ws) (omega arith) in
      ⊎_elim (λ (l : entries_word ws ≤ list_start ws (clauses_word ws)). omega arith)
      (λ (l : list_start ws (clauses_word ws) < entries_word ws). absurd (left_over l))
      (le_or_lt (entries_word ws) (list_start ws (clauses_word ws)))
    where
      left_over : list_start ws (clauses_word ws) < entries_word ws → ⊥
      left_over l =
          let e = form_e ws form laid.clauses_laid.schemas_laid.formed in
          let bad = entry_untaken ws form laid.clauses_laid (list_start ws (clauses_word ws)) (omega arith) in
          let z : ◌≡◌ {A = ℕ} 0 1 = cc (laid.entries_fine (list_start ws (clauses_word ws)) (omega arith)) in
          omega arith
