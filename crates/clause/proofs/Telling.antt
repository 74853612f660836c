-- What a row's own words tell of the clauses of a schema.
--     not_never      a clause that the row passes is not the one that never holds
--     limit_plain    a limit of the clause is within the limits of exact arithmetic
--     clause_told    a clause that was read and is passed, by its number
--     above          a number that is above another is not at most it
-- Assumes nothing.
use mathlib.Core.Bool.{true}
use mathlib.Core.List.{List}
use mathlib.Core.Path.{◌≡◌, ap, sym, subst, ◌∙◌}
use Prim.Native.Nat.{ℕ, ◌+◌, ◌<◌}
use native.Mathlib.Omega.{arith}
use lib.Dec.{leb}
use borrow.Author.Tests.{leb-true}
use Rattle.decimal.specs.declared.Decimal.{Decimal}
use Rattle.decimal.specs.Value.{Plain}
use Rattle.sheet.specs.Doc.{Doc}
use Rattle.rulesheet.specs.declared.form.RuleForm.{RuleForm}
use Rattle.rulesheet.specs.declared.clause.Clause.{Clause}
use Rattle.rulesheet.specs.declared.clause.Clause.TheVariants.{Never}
use Rattle.rulesheet.specs.Ruleset as R
use Rattle.rulesheet.specs.Sheet as S
use Rattle.rulesheet.specs.Clauses.{clause_means, number, held, Tested}
use Rattle.few.specs.Asked.{PlainRead}
use Rattle.meaning.specs.Rules.{passes}
use Rattle.clause.specs.Read.{RulesRead, clause_in, Tries}
use Rattle.looking.proofs.Having.{never_not}
use Rattle.clause.proofs.Reading.{clause_read}

module _ (d : Doc) (j : ℕ) where
  pub not_never : (rs us : List ℕ) (clause : Clause) → Tries d j (clause_means rs us clause) true → clause ≡ Never → ⊥
  unfolding passes
  not_never rs us clause tried e =
      let never_is : R.asserts R.never ≡ R.asserts tried.0 = sym (ap (clause_means rs us) e) ∙ tried.1 in
      let same : R.never ≡ tried.0 = cc in
      never_not (tried.2 ∙ ap (passes d j) (sym same))

  pub clause_told : {rs us : List ℕ} {form : RuleForm} (read : RulesRead rs us form) {s first i : ℕ} → s < form.m → first ≡ (S.schema_at rs s).first → i < (S.schema_at rs s).count
      → {clause : Clause} → PlainRead rs form (first + i) clause → Tries d j (clause_means rs us clause) true → Tries d j (clause_in rs us s i) true
  clause_told {rs} {us} read low at h {clause} plain tried =
      let known = plain.means (not_never rs us clause tried) in
      subst (λ (c : R.Clause). Tries d j c true) (clause_read read low at h (λ c. c) known plain.tested).means tried

pub limit_plain : {rs us : List ℕ} {form : RuleForm} {clause : Clause} → RulesRead rs us form → Tested rs form clause → (limit : Decimal) → held clause ≡ number limit → Plain limit
limit_plain read tested limit e = rw e at (tested.bounded read.laid.clauses_laid)

pub above : {k n : ℕ} → n < k → leb k n ≡ true → ⊥
above {k} {n} over t = omega (arith, leb-true k n t)
