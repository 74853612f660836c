-- A clause of a pair in progress between two of its steps: the loop over the pairs that it applies.
--     Turning, turning          the clause stands where a turn says
--     Standing, standing-first, standing-asks, standing-turn     so many of its steps are taken
--     standing_count, standing_cells, standing_list              and what that says of the areas
--     turning_more              a pair that it applies was judged
--     turning_aim, turning_ready      that pair, and what applying it asks
--     turning_hands             what handing on asks
--     falls_by                  the number that falls to that pair
--     cell_asks                 what reading a pair's cell asks
-- Assumes nothing.
use mathlib.Core.Bool.{Bool, true, false, not, ◌&&◌, ◌||◌, cond}
use mathlib.Core.List.{List, Memᴰ as Has}
use mathlib.Core.Logic.{⊎_elim}
use mathlib.Core.Path.{◌≡◌, refl, sym, ap, ap₂, ◌∙◌, subst}
use Prim.Native.Nat.{ℕ, ◌+◌, ◌-◌, ◌*◌, ◌<◌, ◌≤◌}
use native.Mathlib.Omega.{arith}
use lib.Dec.{eqb}
use lib.ListN.{length, get_or}
use Rattle.std.specs.Prelude.{Option, Some, None}
use Rattle.sheet.specs.Doc.{Doc}
use Rattle.rulesheet.specs.Ruleset.{Ruleset}
use Rattle.meaning.specs.Rules.{Pair, Marks, Way, whole, cut}
use Rattle.meaning.specs.Fit.{rank}
use Rattle.areas.specs.Cells.{pair_is, cell_at, verd, Unsettled, column}
use Rattle.areas.specs.Writers.{Marked}
use Rattle.areas.proofs.Cells.{settled_le}
use Rattle.steps.specs.declared.turn.Turn.{Turn}
use Rattle.plan.specs.Plan.{counts_hits, branches, moved, finish_of, way_of, stops_by}
use Rattle.told.specs.Read.{Started}
use Rattle.steps.specs.Turns.{is_hits, is_branches, Skipped, Turned}
use Rattle.lent.specs.Lent.{Case, Fits, InCase, first_kid, kid_count, clauses_of, clause_at, before_of, Turns, TurnsTo, next_at, HandsOn, given_on}
use Rattle.meaning.proofs.Answers.{pairs_few}
use Rattle.progress.specs.Steps.{many, aims, stopped, fresh, goes, Stepped, Standing}
use Rattle.progress.specs.declared.Done.{Done}
use Rattle.progress.specs.State.{Named, rank_of, bits_of, Areas, Ready, WhereDone, Judged, ClauseJudged}
use Rattle.progress.proofs.State.{areas_cell, areas_long}
use Rattle.progress.proofs.Going.{Aim, ready_as, stepped_none, stepped_few, stepped_go, stepped_goes, stepped_aim, stepped_skips, stepped_stops, stepped_went, stepped_hands, stepped_end, going_unsettled, going_aimed, going_apply}
use Rattle.laws.proofs.Tests.{decide}
use Rattle.plan.proofs.Plans.{Aimed, after_miss_lem}
use Rattle.progress.proofs.Named.{standing_marked}
use Rattle.progress.proofs.Claused.{cells_kept}

-- ---- the clause stands where `at` says

pub record Turning (T : Case) (p : Pair) (cl : ℕ) (d₀ : List Pair) (c₀ l₀ : List ℕ) (cells list : List ℕ) (count tally : ℕ) (r : Option Turn) : Type 0 where
  pub goes_on : {at : Turn} → r ≡ Some at → Stepped T p cl d₀ c₀ l₀ at.step cells list count tally
      × ((at.step < many T p cl) × (at.step < 4294967295) × (true ≡ goes T p cl (bits_of T.m c₀ p) at.step) × (pair_is at.pair ≡ aims T p cl at.step) × (is_hits at.counts ≡ counts_hits (clause_at T p cl)) × (is_branches at.counts ≡ branches (clause_at T p cl)))
  pub ends : r ≡ None → Stepped T p cl d₀ c₀ l₀ (many T p cl) cells list count tally

pub turning : {T : Case} {p : Pair} {cl : ℕ} {d₀ : List Pair} {c₀ l₀ : List ℕ} {x : ℕ} {c l : List ℕ} {n tally : ℕ} {r : Option Turn} → Standing T p cl d₀ c₀ l₀ x c l n tally
    → Turned T.doc p (before_of T p cl) (clause_at T p cl) x (column T.m c p.rule) tally r → Turning T p cl d₀ c₀ l₀ c l n tally r
turning {T} {p} {cl} {d₀} {c₀} {l₀} {x} {c} {l} {n} {tally} {r} Z t =
    let low = Z.low in
    record {
      goes_on =
          λ {at} e.
          let G = t.goes e in
          let R = reach at.step G.ahead (let w = G.within in omega arith) G.skipped in
          let on : stopped T p cl tally ≡ false = Z.unstopped (let w = G.within in let a = G.ahead in omega arith) in
          let g = stepped_go R G.within (sym G.applied) in
          (R, (G.within, G.small, stepped_goes R (g ∙ sym (ap (λ (b : Bool). not b && fresh T p cl (bits_of T.m c₀ p) at.step tally) on)), G.aim_is, G.hits_is, G.branch_is));
      ends = λ e. reach (many T p cl) low (omega arith) (t.ends e);
    }
  where
    reach : (y : ℕ) → x ≤ y → y ≤ many T p cl → Skipped T.doc p (before_of T p cl) (clause_at T p cl) (column T.m c p.rule) tally x y
        → Stepped T p cl d₀ c₀ l₀ y c l n tally
    reach y a b f =
        let e : x + (y - x) ≡ y = omega arith in
        subst (λ (z : ℕ). Stepped T p cl d₀ c₀ l₀ z c l n tally) e (stepped_skips (y - x) Z.steps (omega arith) (record { idle = λ k u v. f.idle k u (omega arith) }))

pub first_open : (v : Way) → stops_by v 0 ≡ false
unfolding stops_by
first_open whole = refl
first_open cut = refl

pub standing_first : {T : Case} {p : Pair} {cl : ℕ} {c l : List ℕ} {n : ℕ} → Ready T (rank_of T p) p c l n → Unsettled T.m p c → WhereDone T c l n (λ d. Standing T p cl d c l 0 c l n 0)
standing_first {T} {p} {cl} R u = λ d A. record { steps = stepped_none (ready_as R d A) u; low = omega arith; unstopped = λ h. first_open (way_of T.way (clause_at T p cl)) }

module _ {T : Case} {p : Pair} {cl : ℕ} {d₀ : List Pair} {c₀ l₀ : List ℕ} {x : ℕ} {c l : List ℕ} {n tally : ℕ} (Z : Standing T p cl d₀ c₀ l₀ x c l n tally) where
  -- what working out where the clause stands asks
  pub standing_asks : {from : ℕ} → Named T p cl c₀ → Started (before_of T p cl) (clause_at T p cl) from → Turns T p cl from x c
  standing_asks named started =
      let e = Z.steps.going.areas.long in
      record { started = started; marked = standing_marked Z.steps named started; room = omega arith; unsettled = going_unsettled Z.steps.going }

  pub standing_turn : {r : Option Turn} → TurnsTo T p cl x tally c r → Turning T p cl d₀ c₀ l₀ c l n tally r
  standing_turn t = turning Z t

  -- no more pairs are settled than there are
  pub standing_count : n < 4294967296
  standing_count =
      let fit = Z.steps.going.fit in
      let A = Z.steps.going.areas in
      omega (arith, pairs_few T.n T.m fit.rows.few fit.few, A.long, A.counted, settled_le c)

  -- the areas keep their lengths
  pub standing_cells : {h₀ : Pair → Marks} {a : List ℕ} {n₀ : ℕ} → Areas T d₀ h₀ a c₀ l₀ n₀ → length c ≡ length c₀
  standing_cells A = cells_kept A Z.steps.going.areas

  pub standing_list : length l ≡ length l₀
  standing_list = areas_long Z.steps.going.areas

-- what reading a pair's cell asks
pub cell_asks : {T : Case} {q : Pair} {d : List Pair} {h : Pair → Marks} {l₀ c l : List ℕ} {n : ℕ} → Fits T → InCase T q → Areas T d h l₀ c l n
    → (cell_at T.m q < length c) × (length c < 4294967296)
cell_asks {T} {q} fit I A =
    (areas_cell A q I, omega (arith, pairs_few T.n T.m fit.rows.few fit.few, A.long))

-- ---- a pair that it applies

-- the cycle's falling number, from a clause to a pair of lower rank
pub falls_by : {D : Doc} {R : Ruleset} {n m : ℕ} {p q : Pair} {t : ℕ} → 3 * rank D R p + 0 ≡ t → Aimed D R n m p q → 3 * rank D R q + 2 < t
falls_by e z = let g = z.lower in omega arith

module _ {T : Case} {p : Pair} {cl : ℕ} {d₀ : List Pair} {c₀ l₀ : List ℕ} {c l : List ℕ} {n tally : ℕ} {r : Option Turn} {at : Turn} (W : Turning T p cl d₀ c₀ l₀ c l n tally r) (go : r ≡ Some at) where
  pub turning_low : (at.step < 4294967295) × (tally ≤ at.step)
  turning_low = let G = W.goes_on go in (G.1.1, stepped_few G.0)

  pub turning_within : at.step < many T p cl
  turning_within = (W.goes_on go).1.0

  -- the step that is next is ahead
  pub turning_ahead : (h : ℕ) {x : ℕ} → x ≡ next_at T p cl at.step h → (at.step < x) × (x ≤ many T p cl)
  turning_ahead h {x} f =
      let F = (W.goes_on go).0.going in
      by (stops_by (way_of T.way (clause_at T p cl)) h) turning_within
      (f ∙ after_miss_lem T.doc T.rules T.n T.m F.fit p F.inside.row_in (before_of T p cl) (bits_of T.m c₀ p) T.way (clause_at T p cl) at.step h)
    where
      by : (s : Bool) → at.step < many T p cl → x ≡ cond s (many T p cl) (at.step + 1) → (at.step < x) × (x ≤ many T p cl)
      by true w e = (omega arith, omega arith)
      by false w e = (omega arith, omega arith)

  module _ (has : Has (clause_at T p cl) (clauses_of T p)) where
    pub turning_aim : Aim T p (pair_is at.pair)
    turning_aim = let G = W.goes_on go in subst (Aim T p) (sym G.1.3) (stepped_aim G.0 G.1.0 has G.1.2)

    pub turning_ready : Ready T (rank_of T (pair_is at.pair) + 1) (pair_is at.pair) c l n
    turning_ready = going_aimed (W.goes_on go).0.going turning_aim

    -- the pair was judged: v is its verdict
    module _ {c₁ l₁ : List ℕ} {n₁ : ℕ} (J : Judged T (pair_is at.pair) c l n c₁ l₁ n₁) where
      pub turning_cell : (cell_at T.m (pair_is at.pair) < length c₁) × (length c₁ < 4294967296)
      turning_cell = cell_asks (W.goes_on go).0.going.fit turning_aim.inside (going_apply (W.goes_on go).0.going turning_aim J).areas

      pub turning_hands : HandsOn T.m (first_kid T p) (kid_count T p) p.row p.rule (pair_is at.pair).row (pair_is at.pair).rule c₁
      turning_hands = stepped_hands (going_apply (W.goes_on go).0.going turning_aim J) turning_aim

      -- its marks were handed on
      module _ {v h : ℕ} {c₂ : List ℕ} (read : v ≡ verd (get_or c₁ (cell_at T.m (pair_is at.pair)) 0)) (e : h ≡ moved (is_hits at.counts) (is_branches at.counts) at.step tally (eqb v 1))
          (M : Marked T.m (first_kid T p) (kid_count T p) p.rule (given_on (not (is_hits at.counts) || eqb v 1) T.m c₁ p.row p.rule (pair_is at.pair).row (pair_is at.pair).rule) c₁ c₂) where
        stepped : Stepped T p cl d₀ c₀ l₀ (at.step + 1) c₂ l₁ n₁ h
        stepped =
            let G = W.goes_on go in
            stepped_went G.0 G.1.2 G.1.3 turning_aim J read M (ap (λ (x : Bool). not x || eqb v 1) G.1.4) (e ∙ ap₂ (λ (x y : Bool). moved x y at.step tally (eqb v 1)) G.1.4 G.1.5)

        -- and the clause goes on with the next step, or stops
        pub turning_more : {x : ℕ} → x ≡ next_at T p cl at.step h → Standing T p cl d₀ c₀ l₀ x c₂ l₁ n₁ h
        turning_more {x} f =
            let w = turning_within in
            let v = way_of T.way (clause_at T p cl) in
            let F = (W.goes_on go).0.going in
            let next : x ≡ cond (stops_by v h) (many T p cl) (at.step + 1) =
            f ∙ after_miss_lem T.doc T.rules T.n T.m F.fit p F.inside.row_in (before_of T p cl) (bits_of T.m c₀ p) T.way (clause_at T p cl) at.step h in
            ⊎_elim
            (λ (s : stops_by v h ≡ true).
            let z : x ≡ many T p cl = next ∙ ap (λ b. cond b (many T p cl) (at.step + 1)) s in
            let y : (at.step + 1) + (many T p cl - (at.step + 1)) ≡ x = omega arith in
            record {
              steps = subst (λ (k : ℕ). Stepped T p cl d₀ c₀ l₀ k c₂ l₁ n₁ h) y (stepped_stops (many T p cl - (at.step + 1)) stepped s);
              low = omega arith;
              unstopped = λ k. absurd (omega arith);
            })
            (λ (s : stops_by v h ≡ false).
            let z : x ≡ at.step + 1 = next ∙ ap (λ b. cond b (many T p cl) (at.step + 1)) s in
            record { steps = subst (λ (k : ℕ). Stepped T p cl d₀ c₀ l₀ k c₂ l₁ n₁ h) (sym z) stepped; low = omega arith; unstopped = λ k. s })
            (decide (stops_by v h))

-- ---- it ends

pub turning_end : {T : Case} {t : ℕ} {p : Pair} {cl : ℕ} {c₀ l₀ : List ℕ} {n₀ : ℕ} {c l : List ℕ} {n tally : ℕ} {at : Option Turn} {r : Done}
    → Ready T t p c₀ l₀ n₀ → WhereDone T c₀ l₀ n₀ (λ d. Turning T p cl d c₀ l₀ c l n tally at)
    → at ≡ None → r.ok ≡ finish_of T.doc p (clause_at T p cl) tally → r.count ≡ n → ClauseJudged T p cl c₀ l₀ n₀ c l r
turning_end R W e f q = stepped_end R (λ d A. (W d A).ends e) f q
