-- Accepted sheets are what the tests ask for.
--     record_read, rules_read                  the premises of this crate's functions, from acceptance
--     clause_low, clause_small, clause_read    a clause of a schema, as it is read
--     words_read                               and as it is read by its words
-- Assumes nothing.
use mathlib.Core.Bool.{Bool, true, false, ◌&&◌}
use mathlib.Core.List.{List}
use mathlib.Core.Logic.{⊎_elim}
use mathlib.Core.Path.{◌≡◌, refl, sym, ap, ◌∙◌}
use Prim.Native.Nat.{ℕ, ◌+◌, ◌<◌}
use native.Mathlib.Omega.{arith}
use lib.Dec.{eqb, leb}
use lib.ListN.{length}
use borrow.Author.Tests.{eqb-true}
use Rattle.laws.proofs.Tests.{decide, left, right}
use Rattle.sheet.specs.declared.record.RecordForm.{RecordForm}
use Rattle.sheet.specs.Record.{text_word}
use Rattle.sheet.specs.Faults.{text_max, words_ok}
use Rattle.sheet.specs.Accepted.{AcceptedRecord}
use Rattle.sheet.proofs.Acceptance as A
use Rattle.sheet.proofs.Shape.{well_formed}
use Rattle.rulesheet.specs.declared.form.ClauseRow.{ClauseRow}
use Rattle.rulesheet.specs.declared.form.RuleForm.{RuleForm}
use Rattle.rulesheet.specs.declared.clause.Clause.{Clause}
use Rattle.rulesheet.specs.Ruleset as R
use Rattle.rulesheet.specs.Ruleset.{never, asserts}
use Rattle.rulesheet.specs.Sheet as S
use Rattle.rulesheet.specs.Read.{RulesFormed}
use Rattle.rulesheet.specs.Clauses.{clause_means, Tested}
use Rattle.few.specs.Asked.{ReadBy}
use Rattle.rulesheet.proofs.Trailers.{form_m, form_c, trailer_facts}
use Rattle.rulesheet.proofs.Taking.{schema_within}
use Rattle.rulesheet.proofs.Items.{clause_item}
use Rattle.rulesheet.specs.Faults as F
use Rattle.rules.specs.Check.{rules_outcome}
use Rattle.rules.specs.Accepted.{AcceptedRules}
use Rattle.rules.proofs.Acceptance as B
use Rattle.rules.proofs.Checks.{at_trailer}
use Rattle.looking.specs.Read.{RecordRead}
use Rattle.clause.specs.Read.{RulesRead, words_in, ClauseRead}

said : (words : Bool) (n size : ℕ) → (words && (eqb n size && leb size text_max)) ≡ true → size ≡ n
said words n size t =
    sym (eqb-true n size (left (eqb n size) (leb size text_max) (right words (eqb n size && leb size text_max) t)))

pub record_read : (ws ts : List ℕ) (form : RecordForm) → AcceptedRecord ws ts form → RecordRead ws ts form
record_read ws ts form a =
    record {
      laid = A.accepted_laid ws ts form a;
      text_length = said (words_ok ws) (text_word ws) (length ts) (A.accepted_facts ws ts form.rows a.accepts).trailer_good;
      differ = (well_formed ws ts form.rows a.accepts).names_differ;
    }

pub rules_read : (ws ts : List ℕ) (form : RuleForm) → AcceptedRules ws ts form → RulesRead ws ts form
rules_read ws ts form a =
    record { laid = B.accepted_laid ws ts form a; text_length = said (F.words_ok ws) (S.text_word ws) (length ts) good }
  where
    good : (F.words_ok ws && F.text_ok ws (length ts)) ≡ true
    good =
        ⊎_elim (λ (t : (F.words_ok ws && F.text_ok ws (length ts)) ≡ true). t)
        (λ (t : (F.words_ok ws && F.text_ok ws (length ts)) ≡ false). A.clash (rules_outcome ws ts) form.m 5 0 a.accepts (at_trailer ws ts t))
        (decide (F.words_ok ws && F.text_ok ws (length ts)))

-- ---- a clause of a schema

module _ {rs us : List ℕ} {form : RuleForm} (read : RulesRead rs us form) {s first i : ℕ} (low : s < form.m) (at : first ≡ (S.schema_at rs s).first) (h : i < (S.schema_at rs s).count) where
  formed : RulesFormed rs form
  formed = read.laid.clauses_laid.schemas_laid.formed

  pub clause_low : first + i < form.c
  clause_low = omega (arith, schema_within rs form read.laid.clauses_laid.schemas_laid s low, form_c rs form formed)

  pub clause_small : first + i < 4294967296
  clause_small = let a = trailer_facts rs formed.trailer in omega (arith, clause_low, form_c rs form formed, a.few_clauses)

  pub clause_read : (f : R.Clause → R.Clause) {clause : Clause} → ((vs : List ℕ) → clause_means rs vs clause ≡ f (S.clause_of rs vs (first + i))) → Tested rs form clause
      → ClauseRead f rs us form s i clause
  clause_read f means tested =
      record {
        schema_in = low;
        clause_inside = h;
        means = means us ∙ rw at (ap f (sym (clause_item rs us s (omega (arith, form_m rs form formed)) i (asserts never) h)));
        tested = tested;
      }

pub words_read : {rs us : List ℕ} {form : RuleForm} → RulesRead rs us form → {s i : ℕ} → s < form.m → i < (S.schema_at rs s).count → {f : R.Clause → R.Clause} {row : ClauseRow} {clause : Clause}
    → row ≡ words_in rs s i → ReadBy f row clause → ClauseRead f rs us form s i clause
words_read {rs} {us} {form} read {s} {i} low h {f} {row} {clause} is by =
    let k = (S.schema_at rs s).first + i in
    clause_read read low refl h f (λ vs. by.means rs vs k is) (by.tested rs form k (clause_low read low refl h) is)
