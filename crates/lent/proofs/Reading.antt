-- The sheets that are lent and the case that they are: the clauses of a schema, the children of a row, and how many cells there are.
-- Assumes nothing.
use mathlib.Core.List.Memᴰ.{head as at_head}
use mathlib.Core.List.Memᴰ.{tail as in_Tail}
use mathlib.Core.List.{List, [], Memᴰ as Has, ◌∷◌}
use mathlib.Core.Logic.{⊎_elim}
use mathlib.Core.Path.{◌≡◌, refl, sym, ◌∙◌}
use Prim.Native.Nat.{ℕ, zero, suc, ◌+◌, ◌-◌, ◌*◌, ◌≤◌, ◌<◌}
use native.Mathlib.Omega.{arith}
use lib.ListN.{length, get_or}
use Rattle.sheet.specs.declared.record.RecordForm.{RecordForm}
use Rattle.sheet.specs.declared.record.Children.{Children}
use Rattle.sheet.specs.Record.{rows_word}
use Rattle.sheet.specs.Accepted.{ChildrenRead}
use Rattle.sheet.proofs.Trailers.{form_rows}
use Rattle.laws.proofs.Tests.{le_or_lt}
use Rattle.looking.proofs.Naming.{child_inside}
use Rattle.rulesheet.specs.declared.form.RuleForm.{RuleForm}
use Rattle.rulesheet.specs.Ruleset as R
use Rattle.rulesheet.specs.Ruleset.{never, asserts}
use Rattle.rulesheet.specs.Sheet.{schemas_word, schema_at}
use Rattle.rulesheet.specs.Read.{RulesFormed}
use Rattle.rulesheet.proofs.Trailers.{form_m}
use Rattle.rulesheet.proofs.Items.{clauses_long}
use Rattle.meaning.specs.Rules.{Pair, whole}
use Rattle.meaning.proofs.Answers.{pairs_few}
use Rattle.lent.specs.declared.Lent.{Lent}
use Rattle.lent.specs.Lent.{Case, Sheets, case_of, Fits, InCase, first_kid, kid_count, clauses_of, clause_at}
use Rattle.lent.specs.Reads.{lent_case, ReadsClause}

module _ {ws ts rs us : List ℕ} {form : RecordForm} {rform : RuleForm} (S : Sheets ws ts rs us form rform) where
  abbrev T : Case
  T = case_of whole ws ts rs us

  pub formed : RulesFormed rs rform
  formed = S.rules_read.laid.clauses_laid.schemas_laid.formed

  pub rows_are : form.rows ≡ rows_word ws
  rows_are = form_rows ws form S.record_read.laid.formed

  pub schemas_are : rform.m ≡ schemas_word rs
  schemas_are = form_m rs rform formed

  pub row_low : {p : Pair} → InCase T p → p.row < form.rows
  row_low I = omega (arith, rows_are, I.row_in)

  pub rule_low : {p : Pair} → InCase T p → p.rule < rform.m
  rule_low I = omega (arith, schemas_are, I.rule_in)

  -- ---- the clauses of a schema

  pub clauses_many : {p : Pair} {many : ℕ} → InCase T p → many ≡ (schema_at rs p.rule).count → many ≡ length (clauses_of T p)
  clauses_many {p} I e = e ∙ sym (clauses_long rs us p.rule I.rule_in)

  pub clause_has : {p : Pair} {i : ℕ} → InCase T p → i < (schema_at rs p.rule).count → Has (clause_at T p i) (clauses_of T p)
  clause_has {p} {i} I h = has (clauses_of T p) i (omega (arith, clauses_long rs us p.rule I.rule_in))
    where
      has : (l : List R.Clause) (k : ℕ) → k < length l → Has (get_or l k (asserts never)) l
      has [] k g = absurd (omega arith)
      has (x ∷ l) zero g = at_head refl
      has (x ∷ l) (suc k) g = in_Tail (has l k (omega arith))

  -- ---- the children

  module _ (p : Pair) {kids : Children} (K : ChildrenRead ws p.row kids) where
    pub kid_first : {x : ℕ} → x ≡ kids.first → x ≡ first_kid T p
    kid_first e = e ∙ K.first_is ts

    pub kid_many : {x : ℕ} → x ≡ kids.count → x ≡ kid_count T p
    kid_many e = e ∙ K.count_is ts

pub reads_clause : {L : Lent} {p : Pair} {i : ℕ} → InCase (lent_case L) p → i < (schema_at L.rules.now p.rule).count → ReadsClause L p i
reads_clause inside h = record { inside = inside; clause_inside = h }

-- ---- the writers, by the numbers that were read

-- the children of a row end within the rows
pub kids_small : {ws rs us : List ℕ} (ts : List ℕ) {p : Pair} {form : RecordForm} {rform : RuleForm} {kids : Children} → Sheets ws ts rs us form rform → InCase (case_of whole ws ts rs us) p
    → ChildrenRead ws p.row kids → kids.first < 4294967296 → kids.first + kids.count < 4294967296
kids_small {ws} ts {p} {form} {kids = kids} S inside K fits =
    ⊎_elim (λ (z : kids.count ≤ 0). omega arith)
    (λ (z : 0 < kids.count).
    let last = child_inside ws ts form S.record_read.laid p.row kids.first kids.count (kids.count - 1) (row_low S inside) (K.first_is ts) (K.count_is ts) (omega arith) in
    omega (arith, last))
    (le_or_lt kids.count 0)

pub lt_by : {i n k : ℕ} → i < n → n ≡ k → i < k
lt_by h e = omega arith

pub le_by : {i n k : ℕ} → n ≡ i → n ≤ k → i ≤ k
le_by e h = omega arith

-- ---- the size of the areas

module _ {ws ts rs us : List ℕ} {form : RecordForm} {rform : RuleForm} (S : Sheets ws ts rs us form rform) where
  pub size_is : {a b : ℕ} → a ≡ form.rows → b ≡ rform.m → a * b ≡ rows_word ws * schemas_word rs
  size_is e f = rw (e, f, rows_are S, schemas_are S)

  pub size_fits : {a b : ℕ} → Fits (case_of whole ws ts rs us) → a ≡ form.rows → b ≡ rform.m → a * b < 18446744073709551616
  size_fits fit e f =
      let few = pairs_few (rows_word ws) (schemas_word rs) fit.rows.few fit.few in
      rw (size_is e f) (omega arith)
