-- Clauses of a few codes.
--     plain_by, plain_none     a clause that was read by its code, and one that was not
--     read_by, never_by     a clause that was decoded was read as far as a question asks for it, and a code of which it is not asked as one that never holds
--     quiet             what is asked of a few codes is not asked of a clause of another
--     telling_few, told_few, applying_few, sparing_few     the few of each question
--     applies_by     whether a clause applies schemas, by its code
-- Assumes nothing.
use mathlib.Core.Bool.{Bool, true, false, true≢false}
use mathlib.Core.List.{List, [], ◌∷◌}
use mathlib.Core.Logic.{◌⊎◌, inl, inr, ⊎_elim}
use mathlib.Core.Path.{◌≡◌, refl, sym, ap, ◌∙◌}
use Prim.Native.Nat.{ℕ, ◌<◌}
use lib.Dec.{eqb, leb}
use borrow.Author.Tests.{eqb-true}
use Rattle.rulesheet.specs.declared.code.Fields.{Fields}
use Rattle.rulesheet.specs.declared.code.Fields.TheVariants.{Unknown}
use Rattle.rulesheet.specs.declared.form.RuleForm.{RuleForm}
use Rattle.rulesheet.specs.declared.form.ClauseRow.{ClauseRow}
use Rattle.rulesheet.specs.declared.clause.Clause.{Clause}
use Rattle.rulesheet.specs.declared.clause.Clause.TheVariants.{Never}
use Rattle.rulesheet.specs.Ruleset as R
use Rattle.rulesheet.specs.Ruleset.{asserts, never}
use Rattle.rulesheet.specs.Codes.{Parts, CodeLine, codes, unknown, pick_line, line_in, shape_of, means_of}
use Rattle.rulesheet.specs.Sheet.{schemas_word, clause_at, parts_of, clause_of}
use Rattle.rulesheet.specs.Faults.{fields_ok, fields_at, clause_fine}
use Rattle.rulesheet.specs.Clauses.{clause_means, Decoded}
use Rattle.rulesheet.proofs.Reaching.{Every, done, and, in_table}
use Rattle.rulesheet.proofs.Taking.{clause_facts}
use Rattle.rulesheet.proofs.Meanings.{means_by, tested_by}
use Rattle.few.specs.Asked.{telling, applying, told, sparing, applies_any, PlainRead, ReadBy}

-- ---- a clause that was read by its words

pub plain_by : (ws : List ℕ) (form : RuleForm) (k : ℕ) → k < form.c → (row : ClauseRow) → row ≡ clause_at ws k → (clause : Clause) → Decoded row.code row.first row.count clause → PlainRead ws form k clause
plain_by ws form k h row read clause d = record { means = λ known. means_by ws k row read clause d; tested = tested_by ws form k h row read clause d }

pub plain_none : {ws : List ℕ} {form : RuleForm} {k : ℕ} → PlainRead ws form k Never
plain_none = record { means = λ known. absurd (known refl); tested = record { bounded = λ laid. tt; sized = λ laid. tt; listed = λ laid. tt } }

module _ (f : R.Clause → R.Clause) {row : ClauseRow} where
  pub read_by : {clause : Clause} → Decoded row.code row.first row.count clause → ((ws ts : List ℕ) → clause_means ws ts clause ≡ f (clause_means ws ts clause)) → ReadBy f row clause
  read_by {clause} d kept =
      record {
        means = λ ws ts k read. kept ws ts ∙ ap f (means_by ws k row read clause d ts);
        tested = λ ws form k h read. tested_by ws form k h row read clause d;
      }

  pub never_by : ((p : Parts) → f (means_of row.code p) ≡ asserts never) → ReadBy f row Never
  unfolding clause_of
  never_by quiet =
      record {
        means = λ ws ts k read. sym (quiet (parts_of ws ts row.first row.count)) ∙ rw read;
        tested = λ ws form k h read. record { bounded = λ laid. tt; sized = λ laid. tt; listed = λ laid. tt };
      }

-- ---- a clause of another code

-- a line that is found has the code, or is none of the table
found : (lines : List CodeLine) (code : ℕ) → ((line_in lines code).code ≡ code) ⊎ (line_in lines code ≡ unknown)
unfolding line_in
found [] code = inr refl
found (line ∷ lines) code = pick (eqb code line.code) refl (found lines code)
  where
    pick : (b : Bool) → eqb code line.code ≡ b → ((line_in lines code).code ≡ code) ⊎ (line_in lines code ≡ unknown)
        → ((pick_line (eqb code line.code) line (line_in lines code)).code ≡ code) ⊎ (pick_line (eqb code line.code) line (line_in lines code) ≡ unknown)
    pick true e rest = inl (rw e (sym (eqb-true code line.code e)))
    pick false e rest = rw e rest

-- the code is none of these
abbrev pub Differs : ℕ → List ℕ → Type 0
Differs code [] = Unit
Differs code (n ∷ ns) = Differs code ns × (code ≡ n → ⊥)

module _ (f : R.Clause → R.Clause) (ns : List ℕ) where
  -- what f asks is not asked of this line unless its code is one of these
  Quiet : CodeLine → Type 0
  Quiet line = Differs line.code ns → (p : Parts) → f (line.means p) ≡ asserts never

  quiet : Every Quiet codes → f (asserts never) ≡ asserts never → (code : ℕ) → Differs code ns → (p : Parts) → f (means_of code p) ≡ asserts never
  unfolding Quiet
  quiet table still code differs p =
      ⊎_elim
      (λ (same : (line_in codes code).code ≡ code). in_table Quiet codes code (λ d q. still) table (rw same differs) p)
      (λ (none : line_in codes code ≡ unknown). rw none still)
      (found codes code)

abbrev pub telling_codes : List ℕ
telling_codes = 43 ∷ 40 ∷ []

pub telling_few : (code : ℕ) → Differs code telling_codes → (p : Parts) → telling (means_of code p) ≡ asserts never
unfolding Quiet telling
telling_few = quiet telling telling_codes (and (λ d p. refl) (and (λ d p. refl) (and (λ d p. refl) (and (λ d p. refl) (and (λ d p. refl) (and (λ d p. refl) (and (λ d p. refl) (and (λ d p. refl) (and (λ d p. refl) (and (λ d p. refl) (and (λ d p. refl) (and (λ d p. refl) (and (λ d p. refl) (and (λ d p. refl) (and (λ d p. refl) (and (λ d p. refl) (and (λ d p. refl) (and (λ d p. refl) (and (λ d p. refl) (and (λ d p. refl) (and (λ d p. refl) (and (λ d p. refl) (and (λ d p. absurd (d.0.1 refl)) (and (λ d p. refl) (and (λ d p. absurd (d.1 refl)) (and (λ d p. refl) (and (λ d p. refl) (and (λ d p. refl) (and (λ d p. refl) done))))))))))))))))))))))))))))) refl

abbrev pub told_codes : List ℕ
told_codes = 44 ∷ 42 ∷ []

pub told_few : (code : ℕ) → Differs code told_codes → (p : Parts) → told (means_of code p) ≡ asserts never
unfolding Quiet told
told_few = quiet told told_codes (and (λ d p. refl) (and (λ d p. refl) (and (λ d p. refl) (and (λ d p. refl) (and (λ d p. refl) (and (λ d p. refl) (and (λ d p. refl) (and (λ d p. refl) (and (λ d p. refl) (and (λ d p. refl) (and (λ d p. refl) (and (λ d p. refl) (and (λ d p. refl) (and (λ d p. refl) (and (λ d p. refl) (and (λ d p. refl) (and (λ d p. refl) (and (λ d p. refl) (and (λ d p. refl) (and (λ d p. refl) (and (λ d p. refl) (and (λ d p. refl) (and (λ d p. refl) (and (λ d p. absurd (d.0.1 refl)) (and (λ d p. refl) (and (λ d p. absurd (d.1 refl)) (and (λ d p. refl) (and (λ d p. refl) (and (λ d p. refl) done))))))))))))))))))))))))))))) refl

abbrev pub applying_codes : List ℕ
applying_codes = 61 ∷ 60 ∷ 45 ∷ 44 ∷ 43 ∷ 42 ∷ 40 ∷ 37 ∷ 36 ∷ 34 ∷ 33 ∷ 32 ∷ 31 ∷ 30 ∷ []

pub applying_few : (code : ℕ) → Differs code applying_codes → (p : Parts) → applying (means_of code p) ≡ asserts never
unfolding Quiet applying
applying_few = quiet applying applying_codes (and (λ d p. refl) (and (λ d p. refl) (and (λ d p. refl) (and (λ d p. refl) (and (λ d p. refl) (and (λ d p. refl) (and (λ d p. refl) (and (λ d p. refl) (and (λ d p. refl) (and (λ d p. refl) (and (λ d p. refl) (and (λ d p. refl) (and (λ d p. refl) (and (λ d p. refl) (and (λ d p. refl) (and (λ d p. absurd (d.0.0.0.0.0.0.0.0.0.0.0.0.0.1 refl)) (and (λ d p. absurd (d.0.0.0.0.0.0.0.0.0.0.0.0.1 refl)) (and (λ d p. absurd (d.0.0.0.0.0.0.0.0.0.0.0.1 refl)) (and (λ d p. absurd (d.0.0.0.0.0.0.0.0.0.0.1 refl)) (and (λ d p. absurd (d.0.0.0.0.0.0.0.0.0.1 refl)) (and (λ d p. absurd (d.0.0.0.0.0.0.0.0.1 refl)) (and (λ d p. absurd (d.0.0.0.0.0.0.0.1 refl)) (and (λ d p. absurd (d.0.0.0.0.0.0.1 refl)) (and (λ d p. absurd (d.0.0.0.0.0.1 refl)) (and (λ d p. absurd (d.0.0.0.0.1 refl)) (and (λ d p. absurd (d.0.0.0.1 refl)) (and (λ d p. absurd (d.0.0.1 refl)) (and (λ d p. absurd (d.0.1 refl)) (and (λ d p. absurd (d.1 refl)) done))))))))))))))))))))))))))))) refl

abbrev pub sparing_codes : List ℕ
sparing_codes = 45 ∷ 36 ∷ 33 ∷ 32 ∷ 31 ∷ []

pub sparing_few : (code : ℕ) → Differs code sparing_codes → (p : Parts) → sparing (means_of code p) ≡ asserts never
unfolding Quiet sparing
sparing_few = quiet sparing sparing_codes (and (λ d p. refl) (and (λ d p. refl) (and (λ d p. refl) (and (λ d p. refl) (and (λ d p. refl) (and (λ d p. refl) (and (λ d p. refl) (and (λ d p. refl) (and (λ d p. refl) (and (λ d p. refl) (and (λ d p. refl) (and (λ d p. refl) (and (λ d p. refl) (and (λ d p. refl) (and (λ d p. refl) (and (λ d p. refl) (and (λ d p. absurd (d.0.0.0.0.1 refl)) (and (λ d p. absurd (d.0.0.0.1 refl)) (and (λ d p. absurd (d.0.0.1 refl)) (and (λ d p. refl) (and (λ d p. absurd (d.0.1 refl)) (and (λ d p. refl) (and (λ d p. refl) (and (λ d p. refl) (and (λ d p. refl) (and (λ d p. refl) (and (λ d p. absurd (d.1 refl)) (and (λ d p. refl) (and (λ d p. refl) done))))))))))))))))))))))))))))) refl

-- ---- whether a clause applies schemas

-- a line's code is 30 or more exactly if its clause applies schemas
Parted : CodeLine → Type 0
Parted line = (p : Parts) → leb 30 line.code ≡ applies_any (line.means p)

table_parted : Every Parted codes
unfolding Parted applies_any
table_parted = and (λ p. refl) (and (λ p. refl) (and (λ p. refl) (and (λ p. refl) (and (λ p. refl) (and (λ p. refl) (and (λ p. refl) (and (λ p. refl) (and (λ p. refl) (and (λ p. refl) (and (λ p. refl) (and (λ p. refl) (and (λ p. refl) (and (λ p. refl) (and (λ p. refl) (and (λ p. refl) (and (λ p. refl) (and (λ p. refl) (and (λ p. refl) (and (λ p. refl) (and (λ p. refl) (and (λ p. refl) (and (λ p. refl) (and (λ p. refl) (and (λ p. refl) (and (λ p. refl) (and (λ p. refl) (and (λ p. refl) (and (λ p. refl) done))))))))))))))))))))))))))))

parted : (code : ℕ) → ((shape_of code).fields ≡ Unknown → ⊥) → (p : Parts) → leb 30 code ≡ applies_any (means_of code p)
unfolding Parted applies_any
parted code known p =
    ⊎_elim
    (λ (same : (line_in codes code).code ≡ code). ap (leb 30) (sym same) ∙ in_table Parted codes code (λ q. refl) table_parted p)
    (λ (none : line_in codes code ≡ unknown). absurd (known (ap (λ (line : CodeLine). line.shape.fields) none)))
    (found codes code)

known_by : (fields : Fields) (m first count : ℕ) → fields_ok fields m first count ≡ true → fields ≡ Unknown → ⊥
known_by fields m first count fine e = true≢false (sym fine ∙ ap (λ (f : Fields). fields_ok f m first count) e)

pub applies_by : {row : ClauseRow} {b : Bool} → b ≡ leb 30 row.code → (ws ts : List ℕ) (k : ℕ) → clause_fine ws k ≡ true → row ≡ clause_at ws k → b ≡ applies_any (clause_of ws ts k)
unfolding clause_of
applies_by {row} e ws ts k fine read =
    let known = known_by (fields_at ws k) (schemas_word ws) (clause_at ws k).first (clause_at ws k).count (clause_facts ws k fine).fields_fine in
    e ∙ ap (λ (r : ClauseRow). leb 30 r.code) read ∙ parted (clause_at ws k).code known (parts_of ws ts (clause_at ws k).first (clause_at ws k).count)
