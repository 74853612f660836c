-- Steps of a clause that stand in a line, settled at once.
--     line_turned                           the clause stands at each of them
--     line_aim, line_open, line_judged, line_hands    what settling its pair asks, and handing on
--     line_more, line_unsettled             one step more is taken, and those after it are as they were
--     line_fewer                            fewer steps of a line
--     cells_room                            there are few pairs
-- Assumes nothing.
use mathlib.Core.Bool.{Bool, true, cond}
use mathlib.Core.List.{List, Memᴰ as Has}
use mathlib.Core.Path.{◌≡◌, refl, sym, ap, ◌∙◌}
use Prim.Native.Nat.{ℕ, ◌+◌, ◌*◌, ◌<◌, ◌≤◌}
use native.Mathlib.Omega.{arith}
use lib.ListN.{length, get_or}
use lib.Seq.{get_or-set_same, get_or-set_other}
use Rattle.sheet.specs.Doc.{Doc}
use Rattle.sheet.specs.declared.record.RecordRow.{RecordRow}
use Rattle.sheet.specs.declared.record.RuleRow.{RuleRow}
use Rattle.rulesheet.specs.Ruleset.{Clause}
use Rattle.meaning.specs.Rules.{Pair, Marks}
use Rattle.areas.specs.Cells.{cell_at, verd, Unsettled, settled_as}
use Rattle.areas.specs.Writers.{Open, Shut, Marked}
use Rattle.areas.proofs.Cells.{verd_settle, same_row}
use Rattle.plan.specs.Plan.{moved, after_miss}
use Rattle.steps.specs.Turns.{Turned}
use Rattle.line.specs.Lines.{InLine}
use Rattle.steps.proofs.Turns.{at, goes_on, skipped_none}
use Rattle.lent.specs.Lent.{Case, clauses_of, clause_at, before_of, first_kid, kid_count, PassesFirst, HandsOn, given_on, next_at}
use Rattle.meaning.proofs.Answers.{pairs_few}
use Rattle.progress.specs.State.{Ready, Judged}
use Rattle.progress.specs.Steps.{Standing}
use Rattle.progress.proofs.Going.{Aim}
use Rattle.progress.proofs.Turning.{first_open, Turning, turning, turning_aim, turning_ready, turning_hands, turning_more}
use Rattle.progress.proofs.Testing.{told_open, told_end}

module _ (T : Case) (p : Pair) (cl : ℕ) {first n s : ℕ} (L : InLine T.doc p (before_of T p cl) (clause_at T p cl) first n s) (few : n < 4294967296) {k : ℕ} (h : k < n) {row : RecordRow} {rule : RuleRow} (there : row.0 ≡ first + k) (schema : rule.0 ≡ s) where
  abbrev q : Pair
  q = record { row = row.0; rule = rule.0 }

  line_turned : {κ : Marks} {t : ℕ} → Turned T.doc p (before_of T p cl) (clause_at T p cl) k κ t (at k row rule)
  line_turned =
      let w = L.within in
      goes_on refl (sym (L.hits_none (omega arith))) (sym (L.branches_none (omega arith))) (omega arith) (omega arith) (omega arith) (skipped_none (omega arith)) (L.goes k h _ _) (rw (there, schema) (sym (L.aims k h)))

  module _ {d₀ : List Pair} {c₀ l₀ : List ℕ} {c l : List ℕ} {count : ℕ} (Z : Standing T p cl d₀ c₀ l₀ k c l count 0) (has : Has (clause_at T p cl) (clauses_of T p)) where
    abbrev stands : Turning T p cl d₀ c₀ l₀ c l count 0 (at k row rule)
    stands = turning Z line_turned

    pub line_aim : Aim T p q
    line_aim = turning_aim stands refl has

    module _ {m : ℕ} (u : Unsettled T.m q c) (F : PassesFirst T q m m) {x : ℕ} (cell : x ≡ cell_at T.m q) where
      pub line_open : Open c count x
      line_open = told_open (turning_ready stands refl has) u F cell

      module _ (all : m ≡ length (clauses_of T q)) {c₁ l₁ : List ℕ} {r : ℕ} (S : Shut c l count x true c₁ l₁ r) where
        line_judged : Judged T q c l count c₁ l₁ r
        line_judged = told_end (turning_ready stands refl has) u F all refl cell S

        pub line_hands : HandsOn T.m (first_kid T p) (kid_count T p) p.row p.rule q.row q.rule c₁
        line_hands = turning_hands stands refl has line_judged

        held : 1 ≡ verd (get_or c₁ (cell_at T.m q) 0)
        unfolding settled_as Unsettled
        held = sym (ap (λ (y : ℕ). verd (get_or c₁ y 0)) (sym cell) ∙ ap (λ (l : List ℕ). verd (get_or l x 0)) S.cell ∙ ap verd (get_or-set_same c x _ 0 line_open.in_cells) ∙ verd_settle (get_or c x 0) true line_open.unsettled)

        pub line_more : {c₂ : List ℕ} → Marked T.m (first_kid T p) (kid_count T p) p.rule (given_on true T.m c₁ p.row p.rule q.row q.rule) c₁ c₂ → Standing T p cl d₀ c₀ l₀ (k + 1) c₂ l₁ r 0
        unfolding moved
        line_more M = turning_more stands refl has line_judged held refl M next
          where
            next : k + 1 ≡ next_at T p cl k 0
            next = sym (ap (λ (b : Bool). cond b (after_miss (clause_at T p cl) k) (k + 1)) (first_open T.way))

        -- those after it are as they were
        pub line_unsettled : {c₂ : List ℕ} → Marked T.m (first_kid T p) (kid_count T p) p.rule (given_on true T.m c₁ p.row p.rule q.row q.rule) c₁ c₂
            → (j : ℕ) → k < j → Unsettled T.m (record { row = first + j; rule = s }) c → Unsettled T.m (record { row = first + j; rule = s }) c₂
        unfolding Unsettled
        line_unsettled M j later e =
            M.verdicts (cell_at T.m (record { row = first + j; rule = s }))
            ∙ ap (λ (l : List ℕ). verd (get_or l (cell_at T.m (record { row = first + j; rule = s })) 0)) S.cell
            ∙ ap verd (get_or-set_other c x (cell_at T.m (record { row = first + j; rule = s })) _ 0 apart)
            ∙ e
          where
            apart : cell_at T.m (record { row = first + j; rule = s }) ≡ x → ⊥
            apart z =
                let low : rule.0 < T.m = line_aim.inside.rule_in in
                let same : first + j ≡ row.0 = same_row T.m (first + j) s row.0 rule.0 (rw schema at low) low (z ∙ cell) in
                omega arith

-- fewer steps of a line
pub line_fewer : {D : Doc} {p : Pair} {before : List Clause} {c : Clause} {first n r s : ℕ} → r ≤ n → InLine D p before c first n s → InLine D p before c first r s
line_fewer h L =
    let w = L.within in
    record {
      within = omega arith;
      aims = λ x a. L.aims x (omega arith);
      goes = λ x a. L.goes x (omega arith);
      hits_none = λ a. L.hits_none (omega arith);
      branches_none = λ a. L.branches_none (omega arith);
    }

-- the cells are as many as there are pairs, and few
pub cells_room : {T : Case} {t : ℕ} {p : Pair} {c l : List ℕ} {n : ℕ} → Ready T t p c l n → (T.n * T.m ≤ length c) × (length c < 4294967296)
cells_room {T} R =
    let A = R.areas in
    let e = A.long in
    let few = pairs_few T.n T.m R.fit.rows.few R.fit.few in
    (omega arith, omega arith)
