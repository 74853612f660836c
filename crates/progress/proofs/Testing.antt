-- Clauses that only test.
--     claused_test                           a test was tried
--     applies_lent, applying_by, tries_by    whether a clause applies schemas, as its words tell
--     passes_many, claused_first             the first clauses are tests that the row passes
--     told_open, told_end                    and they are all: the pair is settled at once
-- Assumes nothing.
use mathlib.Core.Bool.{Bool, true, false, ◌&&◌, cond, true≢false}
use mathlib.Core.List.{List}
use mathlib.Core.Path.{◌≡◌, refl, sym, ap, ◌∙◌, subst}
use Prim.Native.Nat.{ℕ, zero, suc, ◌+◌, ◌≤◌, ◌<◌}
use native.Mathlib.Numerals.{add-one}
use native.Mathlib.Omega.{arith}
use lib.ListN.{length}
use Rattle.sheet.specs.Doc.{Doc}
use Rattle.rulesheet.specs.declared.form.ClauseRow.{ClauseRow}
use Rattle.rulesheet.specs.Ruleset as R
use Rattle.rulesheet.specs.Ruleset.{Test, never, asserts, in_place, if_then_else, dependent_schemas, contains, takes}
use Rattle.rulesheet.specs.Sheet as RS
use Rattle.rulesheet.specs.Sheet.{schema_at}
use Rattle.rulesheet.specs.Faults.{clause_fine}
use Rattle.few.specs.Asked.{applies_any}
use Rattle.rulesheet.proofs.Items.{clause_item}
use Rattle.meaning.specs.Rules.{Pair, stops, passes}
use Rattle.areas.specs.Cells.{cell_at, Unsettled}
use Rattle.areas.specs.Writers.{Open, Shut}
use Rattle.areas.proofs.Writers.{marked_same}
use Rattle.clause.specs.Read.{Tries, PassedFirst}
use Rattle.clause.proofs.Reading.{clause_low}
use Rattle.plan.specs.Plan.{steps_of, finish_of}
use Rattle.lent.specs.declared.Lent.{Lent}
use Rattle.lent.specs.Lent.{Case, InCase, clauses_of, clause_at, PassesFirst}
use Rattle.lent.specs.Reads.{lent_case, row_of}
use Rattle.lent.proofs.Ways.{goes_on_lem}
use Rattle.lent.proofs.Reading.{rule_low}
use Rattle.lent.proofs.Marks.{kept_all}
use Rattle.progress.specs.Steps.{many, Stepped}
use Rattle.progress.specs.declared.Done.{Done}
use Rattle.progress.specs.State.{rank_of, Ready, WhereDone, Judged}
use Rattle.progress.proofs.Pairs.{res_at}
use Rattle.progress.proofs.Going.{ready_as, stepped_none, stepped_end, going_unsettled, going_ready, going_open}
use Rattle.progress.proofs.Claused.{Claused, Clausing, claused_none, claused_more, claused_next, claused_end}

no_steps : (T : Case) (p : Pair) (i : ℕ) (t : Test) → clause_at T p i ≡ asserts t → 0 ≡ many T p i
unfolding steps_of
no_steps T p i t e = rw e

passes_finish : (T : Case) (p : Pair) (i : ℕ) (t : Test) (n : ℕ) → clause_at T p i ≡ asserts t → passes T.doc p.row t ≡ finish_of T.doc p (clause_at T p i) n
unfolding finish_of
passes_finish T p i t n e = rw e

pub claused_test : {T : Case} {p : Pair} {d₀ : List Pair} {c₀ l₀ : List ℕ} {i : ℕ} {c l : List ℕ} {n : ℕ} {ok ok' so : Bool}
    → Claused T p d₀ c₀ l₀ i c l n ok → stops T.way (res_at T p i) ≡ false → Tries T.doc p.row (clause_at T p i) so → ok' ≡ (ok && so)
    → Claused T p d₀ c₀ l₀ (i + 1) c l n ok'
claused_test {T} {p} {i = i} {c} {l} {n} {so = so} C on t e =
    let G = C.going in
    let R = going_ready G in
    let S : WhereDone T c l n (λ d. Stepped T p i d c l (many T p i) c l n 0) =
    λ d A. subst (λ (k : ℕ). Stepped T p i d c l k c l n 0) (no_steps T p i t.0 t.1) (stepped_none (ready_as R d A) (going_unsettled G)) in
    let r : Done = record { ok = so; count = n } in
    claused_more {r = r} C on (stepped_end {r = r} R S (t.2 ∙ passes_finish T p i t.0 0 t.1) refl) e

-- ---- whether a clause applies schemas, as its words tell

pub applies_lent : (L : Lent) {p : Pair} {i : ℕ} {row : ClauseRow} {r : Bool} → InCase (lent_case L) p → i < (schema_at L.rules.now p.rule).count → row ≡ row_of L p i
    → ((vs xs : List ℕ) (k : ℕ) → clause_fine vs k ≡ true → row ≡ RS.clause_at vs k → r ≡ applies_any (RS.clause_of vs xs k)) → r ≡ applies_any (clause_at (lent_case L) p i)
applies_lent L {p} {i} I h e f =
    let read = L.sheets.rules_read in
    let fine = read.laid.clauses_laid.clauses_fine _ (clause_low read (rule_low L.sheets I) refl h) in
    f L.rules.now L.rule_text.now _ fine e ∙ ap applies_any (sym (clause_item L.rules.now L.rule_text.now p.rule I.rule_in i (asserts never) h))

pub applying_by : (c : R.Clause) → applies_any c ≡ true → (t : Test) → c ≡ asserts t → ⊥
unfolding applies_any
applying_by c e t f = true≢false (sym e ∙ ap applies_any f)

pub tries_by : (d : Doc) (j : ℕ) (c : R.Clause) {ok : Bool} → applies_any c ≡ false → ((t : Test) → c ≡ asserts t → ok ≡ passes d j t) → Tries d j c ok
unfolding applies_any
tries_by d j (asserts t) e f = (t, refl, f t refl)
tries_by d j (in_place m ss) e f = absurd (true≢false e)
tries_by d j (if_then_else a b c) e f = absurd (true≢false e)
tries_by d j (dependent_schemas es) e f = absurd (true≢false e)
tries_by d j (contains s least most) e f = absurd (true≢false e)
tries_by d j (takes c) e f = absurd (true≢false e)

-- ---- the first clauses

pub passes_many : {d : Doc} {j : ℕ} {f : ℕ → R.Clause} {n m r : ℕ} → n ≡ m → PassedFirst d j f n r → PassedFirst d j f m r
passes_many e F = record { within = omega (arith, F.within); passed = F.passed }

module _ {T : Case} {p : Pair} {m : ℕ} {c l : List ℕ} {n r : ℕ} (R : Ready T (rank_of T p + 1) p c l n) (u : Unsettled T.m p c) (F : PassesFirst T p m r) where
  first : (k : ℕ) → k ≤ r → WhereDone T c l n (λ d. Clausing T p m d c l k c l n true)
  first zero h = claused_none R u
  first (suc k) h = λ d A.
      let low = F.within in
      let w : k < m = omega arith in
      let L : Clausing T p m d c l k c l n true = first k (omega arith) d A in
      subst (λ (x : ℕ). Clausing T p m d c l x c l n true) (add-one k)
      (claused_next (claused_test L.claused (L.unstopped w) (F.passed k (omega arith)) refl) w (ap (λ b. cond b (k + 1) m) (goes_on_lem T.way)))

  pub claused_first : WhereDone T c l n (λ d. Clausing T p m d c l r c l n true)
  claused_first = first r (omega arith)

  pub told_open : {x : ℕ} → x ≡ cell_at T.m p → Open c n x
  told_open at = going_open (claused_first R.done R.areas).claused.going at

  pub told_end : {x s : ℕ} {c₂ l₂ : List ℕ} → m ≡ length (clauses_of T p) → r ≡ m → x ≡ cell_at T.m p → Shut c l n x true c₂ l₂ s → Judged T p c l n c₂ l₂ s
  told_end d e at S = claused_end d (omega arith) R u (marked_same c (λ k a b. kept_all T.m c p.rule true k refl)) at S claused_first
