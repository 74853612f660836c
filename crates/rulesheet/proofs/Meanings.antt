-- What a clause stands for and what its tests say of it, by the row that was read.
--     of_number     a number whose words are in bounds is within the limits of exact arithmetic
--     decodes       a clause is decoded by the number of its code
--     means_by      a clause that was decoded from its row is the clause of the rules
--     tested_by     and what it holds is within its bounds
-- Assumes nothing.
use mathlib.Core.Bool.{true, ◌&&◌}
use mathlib.Core.List.{List}
use mathlib.Core.Logic.{⊎_elim}
use mathlib.Core.Path.{◌≡◌, sym, ap, subst, ◌∙◌}
use Prim.Native.Nat.{ℕ, ◌+◌, ◌^◌, ◌≤◌, ◌<◌}
use native.Mathlib.Omega.{arith}
use lib.Dec.{eqb, leb, ltb}
use lib.IntN.{nat_abs}
use borrow.Author.Tests.{lt-ltb, ltb-true, leb-true}
use Rattle.laws.proofs.Tests.{left, right}
use Rattle.decimal.specs.declared.Decimal.{Decimal}
use Rattle.decimal.specs.Value.{scale_max, signed, Plain, OfWord}
use Rattle.sheet.specs.Kinds.{number_max, number_ok}
use Rattle.rulesheet.specs.declared.code.Fields.{Fields}
use Rattle.rulesheet.specs.declared.code.Fields.TheVariants.{Number, Positive, Schema}
use Rattle.rulesheet.specs.declared.clause.Clause.{Clause}
use Rattle.rulesheet.specs.declared.form.ClauseRow.{ClauseRow}
use Rattle.rulesheet.specs.declared.form.RuleForm.{RuleForm}
use Rattle.rulesheet.specs.Codes.{shape_of}
use Rattle.rulesheet.specs.Sheet.{schemas_word, clauses_word, text_word, clause_at, entry_at, clause_of}
use Rattle.rulesheet.specs.Faults.{is_list, positive_ok, fields_ok, entry_ok, fields_at}
use Rattle.rulesheet.specs.Read.{ClausesLaid, RulesLaid}
use Rattle.rulesheet.specs.Clauses.{clause_means, Held, bare, number, schema, list, held, Bounded, Listed, Sized, Tested, Holds, Decoded}
use Rattle.rulesheet.proofs.Trailers.{form_m, form_c}
use Rattle.rulesheet.proofs.Taking.{clause_facts, entry_taken}
use Rattle.rulesheet.proofs.Walking.{list_inside}
use Rattle.rulesheet.proofs.Sizes.{clause_sized}

-- ---- numbers

module _ (first count : ℕ) (d : Decimal) (o : OfWord first count d) where
  by_size : nat_abs (signed first) ≤ number_max → count ≤ scale_max → Plain d
  by_size a b = record { small = omega (arith, o.size); few = omega (arith, o.same) }

  pub of_number : number_ok first count ≡ true → Plain d
  of_number t =
      let t1 = leb (nat_abs (signed first)) number_max in
      let t2 = leb count scale_max in
      by_size (leb-true (nat_abs (signed first)) number_max (left t1 t2 t)) (leb-true count scale_max (right t1 t2 t))

  itself : first ≤ number_max → nat_abs (signed first) ≡ first
  unfolding signed
  itself h = rw (lt-ltb first (2 ^ 31) (omega arith))

  of_positive : positive_ok first count ≡ true → Plain d
  of_positive t =
      let t1 = leb 1 first in
      let t2 = leb first number_max in
      let t3 = leb count scale_max in
      let rest = right t1 (t2 && t3) t in
      let a = leb-true first number_max (left t2 t3 rest) in
      by_size (omega (arith, itself a)) (leb-true count scale_max (right t2 t3 rest))

-- ---- a clause that was decoded

-- it is enough to decode the number that the code is
pub decodes : {code first count : ℕ} {clause : Clause} (n : ℕ) → code ≡ n → Decoded n first count clause → Decoded code first count clause
decodes {code} {first} {count} {clause} n e d = subst (λ (m : ℕ). Decoded m first count clause) (sym e) d

pub means_by : (ws : List ℕ) (k : ℕ) (row : ClauseRow) → row ≡ clause_at ws k → (clause : Clause) → Decoded row.code row.first row.count clause
    → (ts : List ℕ) → clause_means ws ts clause ≡ clause_of ws ts k
unfolding clause_of
means_by ws k row read clause d ts = d.means ws ts ∙ rw read

module _ (ws : List ℕ) (form : RuleForm) (k : ℕ) (h : k < form.c) (row : ClauseRow) (read : row ≡ clause_at ws k) (clause : Clause) (d : Decoded row.code row.first row.count clause) where
  abbrev fields : Fields
  fields = (shape_of row.code).fields

  fields_by : ClausesLaid ws form → fields_ok fields (schemas_word ws) row.first row.count ≡ true
  fields_by laid = rw read (clause_facts ws k (laid.clauses_fine k h)).fields_fine

  schema_inside : fields ≡ Schema → ClausesLaid ws form → row.first < form.m
  schema_inside f laid =
      let m = schemas_word ws in
      let t : fields_ok Schema m row.first row.count ≡ true = rw f at (fields_by laid) in
      let below = ltb-true row.first m (left (ltb row.first m) (eqb row.count 0) t) in
      omega (arith, form_m ws form laid.schemas_laid.formed)

  module _ (f : is_list fields ≡ true) where
    is_list_lem : is_list (fields_at ws k) ≡ true
    is_list_lem = sym (ap (λ (x : ClauseRow). is_list (shape_of x.code).fields) read) ∙ f

    entries_inside : ClausesLaid ws form → row.first + row.count ≤ form.e
    entries_inside laid = list_inside ws form laid h row read is_list_lem

    entries_fine_in : RulesLaid ws form → (i : ℕ) → i < row.count → entry_ok fields (text_word ws) (schemas_word ws) (entry_at ws (row.first + i)) ≡ true
    entries_fine_in laid i l =
        let under = laid.clauses_laid in
        let a = ap (λ (x : ClauseRow). x.first) read in
        let b = ap (λ (x : ClauseRow). x.count) read in
        let inside = entries_inside under in
        let fine = laid.entries_fine (row.first + i) (omega arith) in
        let below : k < clauses_word ws = omega (arith, form_c ws form under.schemas_laid.formed) in
        rw read (rw read at (sym (entry_taken ws form under k (row.first + i) below is_list_lem (omega arith) (omega arith)) ∙ fine))

  -- what it holds is within its bounds
  bounded_by : (what : Held) → Holds fields row.first row.count what → ClausesLaid ws form → Bounded form what
  bounded_by bare holds laid = tt
  bounded_by (number dec) holds laid =
      ⊎_elim
      (λ (e : fields ≡ Number). of_number row.first row.count dec holds.0 (rw e at (fields_by laid)))
      (λ (e : fields ≡ Positive). of_positive row.first row.count dec holds.0 (rw e at (fields_by laid)))
      holds.1
  bounded_by (schema it) holds laid = rw holds.0 (schema_inside holds.1 laid)
  bounded_by (list named es) holds laid = rw (holds.0, holds.1) (entries_inside holds.3 laid)

  listed_by : (what : Held) → Holds fields row.first row.count what → RulesLaid ws form → Listed ws what
  listed_by bare holds laid = tt
  listed_by (number dec) holds laid = tt
  listed_by (schema it) holds laid = tt
  listed_by (list named es) holds laid = λ i l. rw (holds.0, holds.2) (entries_fine_in holds.3 laid i (omega (arith, holds.1)))

  -- a list has as many entries as its fields fix
  sized_by : (what : Held) → Holds fields row.first row.count what → ClausesLaid ws form → Sized what
  sized_by bare holds laid = tt
  sized_by (number dec) holds laid = tt
  sized_by (schema it) holds laid = tt
  sized_by (list named es) holds laid =
      rw (holds.1, holds.2, read) (clause_sized ws k (laid.clauses_fine k h) (is_list_lem holds.3))

  pub tested_by : Tested ws form clause
  tested_by = record { bounded = bounded_by (held clause) d.holds; sized = sized_by (held clause) d.holds; listed = listed_by (held clause) d.holds }
