-- The clauses of a pair, and a pair that is settled already.
--     Claused, Clausing, claused_none, claused_more, claused_next, claused_shut, claused_end     the loop over the clauses
--     known                                                              a pair that is settled already: its cell answers
--     cells_kept, list_kept                                              the areas keep their lengths
-- Assumes nothing.
use mathlib.Core.Bool.{Bool, true, false, not, ◌&&◌, ◌||◌, cond, true≢false}
use mathlib.Core.List.{List, [], ◌∷◌, ◌++◌}
use mathlib.Core.Logic.{⊎_elim}
use mathlib.Core.Path.{◌≡◌, refl, sym, ap, ◌∙◌, subst}
use Prim.Native.Nat.{ℕ, ◌+◌, ◌-◌, ◌≤◌, ◌<◌}
use native.Mathlib.Numerals.{add-one}
use native.Mathlib.Omega.{arith}
use lib.ListN.{length, get_or}
use Rattle.laws.proofs.Tests.{decide}
use Rattle.meaning.specs.Rules.{Pair, Marks, ◌∪◌, Result, answer, applied, Way, whole, cut, stops, clause}
use Rattle.meaning.specs.Settling.{same_pair, in_turn}
use Rattle.meaning.proofs.Settled.{same_pair_lem}
use Rattle.areas.specs.Cells.{verd, cell_at, Unsettled}
use Rattle.areas.specs.Writers.{Shut, Marked}
use Rattle.plan.proofs.Plans.{clause_same}
use Rattle.lent.specs.Lent.{Case, goes_on, Kid, first_kid, kid_count, clauses_of, clause_at, before_of, kept}
use Rattle.progress.specs.Steps.{Going}
use Rattle.progress.specs.declared.Done.{Done}
use Rattle.progress.specs.State.{rank_of, truth_of, settle_of, bits_of, overlay, Areas, Quiet, Ready, WhereDone, Judged, ClauseJudged}
use Rattle.progress.proofs.Pairs.{start, both, shut, res_at, done_at, res_stays, done_stays, res_next, done_next, truth_at, settle_old, settle_at, settle_self, turn_new, turn_grows}
use Rattle.progress.proofs.State.{overlay_self, overlay_other, areas_self, areas_bits, areas_listed, areas_free, areas_said, areas_then, areas_settle, areas_long}
use Rattle.progress.proofs.Going.{ready_as, going_pair, going_bits, going_mark, going_open, open_bits}

-- i clauses of p were judged, or passed over since a failure has stopped it
pub record Claused (T : Case) (p : Pair) (d₀ : List Pair) (c₀ l₀ : List ℕ) (i : ℕ) (cells list : List ℕ) (count : ℕ) (ok : Bool) : Type 0 where
  pub going : Going T p (bits_of T.m c₀) l₀ (done_at T p d₀ i) (res_at T p i).marks cells list count
  pub holds : ok ≡ (res_at T p i).holds

-- and where one is left of `many`, none has stopped it
pub record Clausing (T : Case) (p : Pair) (many : ℕ) (d₀ : List Pair) (c₀ l₀ : List ℕ) (i : ℕ) (cells list : List ℕ) (count : ℕ) (ok : Bool) : Type 0 where
  pub claused : Claused T p d₀ c₀ l₀ i cells list count ok
  pub low : i ≤ many
  pub unstopped : i < many → stops T.way (res_at T p i) ≡ false

start_on : (w : Way) → stops w start ≡ false
unfolding stops
start_on whole = refl
start_on cut = refl

pub claused_none : {T : Case} {p : Pair} {many : ℕ} {c l : List ℕ} {n : ℕ} → Ready T (rank_of T p + 1) p c l n → Unsettled T.m p c
    → WhereDone T c l n (λ d. Clausing T p many d c l 0 c l n true)
unfolding res_at done_at
claused_none {T} a u = λ d A. record { claused = record { going = going_pair (ready_as a d A) u; holds = refl }; low = omega arith; unstopped = λ h. start_on T.way }

pub claused_more : {T : Case} {p : Pair} {d₀ : List Pair} {c₀ l₀ : List ℕ} {i : ℕ} {c l c' l' : List ℕ} {n : ℕ} {ok ok' : Bool} {r : Done}
    → Claused T p d₀ c₀ l₀ i c l n ok → stops T.way (res_at T p i) ≡ false → ClauseJudged T p i c l n c' l' r → ok' ≡ (ok && r.ok) → Claused T p d₀ c₀ l₀ (i + 1) c' l' r.count ok'
unfolding both ◌∪◌ Quiet Unsettled
claused_more {T} {p} {d₀} {c₀} {l₀} {i} {c} {l} {c'} {l'} {n} {ok} {ok'} {r} C on j e =
    let G = C.going in
    let held = bits_of T.m c₀ in
    let κ = (res_at T p i).marks in
    let bf = before_of T p i in
    let J = clause T.doc T.way p bf κ (clause_at T p i) in
    let D = done_at T p d₀ i in
    let same : clause T.doc T.way p bf (bits_of T.m c p) (clause_at T p i) ≡ J =
    clause_same T.doc T.rules T.n T.m G.fit p G.inside.row_in T.way bf (bits_of T.m c p) κ (clause_at T p i) (λ k ch. going_bits G k ch) in
    let B : Areas T (in_turn (settle_of T) (applied (truth_of T) J) D) (overlay p (bits_of T.m c p ∪ (answer (truth_of T) J).marks) (bits_of T.m c)) l c' l' r.count =
    rw same at (j.areas D (areas_self G.areas)) in
    let κ' : Marks = λ k. κ k || (answer (truth_of T) J).marks k in
    let A : Areas T (in_turn (settle_of T) (applied (truth_of T) J) D) (overlay p κ' held) l₀ c' l' r.count =
    areas_then G.areas B (turn_grows T (applied (truth_of T) J) D)
    (λ q k h ch z.
    ⊎_elim
    (λ d. subst (λ (x : Pair). Kid T x.row k → overlay p (bits_of T.m c p ∪ (answer (truth_of T) J).marks) (bits_of T.m c) x k ≡ overlay p κ' held x k) (sym (same_pair_lem q p d)) (λ ch'. overlay_self p _ (bits_of T.m c) k ∙ ap (λ (b : Bool). b || (answer (truth_of T) J).marks k) (going_bits G k ch') ∙ sym (overlay_self p κ' held k)) ch)
    (λ d. overlay_other p q _ (bits_of T.m c) k d ∙ areas_bits G.areas q k h ch (turn_new T G.fit (applied (truth_of T) J) q D z) ∙ overlay_other p q κ held k d ∙ sym (overlay_other p q κ' held k d))
    (decide (same_pair q p))) in
    let N : Going T p held l₀ (in_turn (settle_of T) (applied (truth_of T) J) D) κ' c' l' r.count =
    record {
      fit = G.fit;
      inside = G.inside;
      areas = A;
      free = areas_free A p G.inside j.free;
      quiet = λ q k h g z ch. G.quiet q k h g (turn_new T G.fit (applied (truth_of T) J) q D z) ch;
    } in
    rw (add-one i)
    (record {
      going = rw (done_next T p d₀ i on, res_next T p i on) N;
      holds = e ∙ rw (res_next T p i on, C.holds, j.said, same);
    })

-- ---- the clause that is next

still_on : (w : Way) (ok : Bool) (r : Result) → ok ≡ r.holds → goes_on w ok ≡ true → stops w r ≡ false
unfolding stops
still_on whole ok r e h = refl
still_on cut ok r e h = ap not (sym e ∙ h)

stopped : (w : Way) (ok : Bool) (r : Result) → ok ≡ r.holds → goes_on w ok ≡ false → stops w r ≡ true
unfolding stops
stopped whole ok r e h = absurd (true≢false h)
stopped cut ok r e h = ap not (sym e ∙ h)

pub claused_next : {T : Case} {p : Pair} {many : ℕ} {d₀ : List Pair} {c₀ l₀ : List ℕ} {i r : ℕ} {c l : List ℕ} {n : ℕ} {ok : Bool}
    → Claused T p d₀ c₀ l₀ (i + 1) c l n ok → i < many → r ≡ cond (goes_on T.way ok) (i + 1) many → Clausing T p many d₀ c₀ l₀ r c l n ok
claused_next {T} {p} {many} {d₀} {c₀} {l₀} {i} {r} {c} {l} {n} {ok} C h e =
    ⊎_elim
    (λ (g : goes_on T.way ok ≡ true).
    let f : r ≡ i + 1 = e ∙ ap (λ b. cond b (i + 1) many) g in
    record { claused = rw f C; low = omega arith; unstopped = λ k. rw f (still_on T.way ok (res_at T p (i + 1)) C.holds g) })
    (λ (g : goes_on T.way ok ≡ false).
    let f : r ≡ many = e ∙ ap (λ b. cond b (i + 1) many) g in
    let s = stopped T.way ok (res_at T p (i + 1)) C.holds g in
    let m : (i + 1) + (many - (i + 1)) ≡ many = omega arith in
    let res : res_at T p many ≡ res_at T p (i + 1) = ap (res_at T p) (sym m) ∙ res_stays T p (i + 1) (many - (i + 1)) s in
    let done : done_at T p d₀ many ≡ done_at T p d₀ (i + 1) = ap (done_at T p d₀) (sym m) ∙ done_stays T p d₀ (i + 1) (many - (i + 1)) s in
    record { claused = rw f (record { going = rw (res, done) C.going; holds = C.holds ∙ ap (λ (x : Result). x.holds) (sym res) }); low = omega arith; unstopped = λ k. absurd (omega arith) })
    (decide (goes_on T.way ok))

-- the marks of p are shut: a pair that fails has none
pub claused_shut : {T : Case} {p : Pair} {d₀ : List Pair} {c₀ l₀ : List ℕ} {i : ℕ} {c l c₁ : List ℕ} {n : ℕ} {ok : Bool} → Claused T p d₀ c₀ l₀ i c l n ok
    → Marked T.m (first_kid T p) (kid_count T p) p.rule (kept T.m c p.rule ok) c c₁
    → Going T p (bits_of T.m c₀) l₀ (done_at T p d₀ i) (shut (res_at T p i)).marks c₁ l n
unfolding kept shut
claused_shut {T} {p} {i = i} {c = c} {ok = ok} C M =
    going_mark C.going (λ k. (res_at T p i).holds && (res_at T p i).marks k) M
    (λ k ch. rw (C.holds, open_bits T c p k (going_bits C.going k ch)))

shut_holds : (r : Result) → r.holds ≡ (shut r).holds
unfolding shut
shut_holds r = refl

-- and p is settled
module _ {T : Case} {p : Pair} {many : ℕ} {c₀ l₀ : List ℕ} {n₀ i : ℕ} {c l c₁ c₂ l₂ : List ℕ} {n x r : ℕ} {ok : Bool}
    (d : many ≡ length (clauses_of T p)) (b : many ≤ i) (R : Ready T (rank_of T p + 1) p c₀ l₀ n₀) (u : Unsettled T.m p c₀)
    (M : Marked T.m (first_kid T p) (kid_count T p) p.rule (kept T.m c p.rule ok) c c₁)
    (at : x ≡ cell_at T.m p) (S : Shut c₁ l n x ok c₂ l₂ r) where
  ended : WhereDone T c₀ l₀ n₀ (λ D. Clausing T p many D c₀ l₀ i c l n ok → Areas T (settle_of T p D) (bits_of T.m c₀) l₀ c₂ l₂ r)
  unfolding Unsettled
  ended D A L =
      let C = L.claused in
      let low = L.low in
      let w : i ≡ length (clauses_of T p) = omega arith in
      let G = claused_shut C M in
      let t : truth_of T p ≡ shut (res_at T p i) = rw w (truth_at T G.fit p) in
      let h : ok ≡ (truth_of T p).holds = C.holds ∙ shut_holds (res_at T p i) ∙ ap (λ (y : Result). y.holds) (sym t) in
      let f = areas_free A p R.inside u in
      let s : done_at T p D i ++ p ∷ [] ≡ settle_of T p D = rw w (sym (settle_at T G.fit p D f)) in
      rw s at (areas_settle (bits_of T.m c₀) (shut (res_at T p i)).marks G.inside G.areas G.free (λ k ch. ap (λ (y : Result). y.marks k) (sym t)) h at (going_open G at) S)

  pub claused_end : WhereDone T c₀ l₀ n₀ (λ D. Clausing T p many D c₀ l₀ i c l n ok) → Judged T p c₀ l₀ n₀ c₂ l₂ r
  claused_end L =
      record {
        areas = λ D A. ended D A (L D A);
        settled = areas_said (ended R.done R.areas (L R.done R.areas)) p R.inside (settle_self T R.fit p R.done);
      }

-- a pair that is settled already
pub known : {T : Case} {p : Pair} {c l : List ℕ} {n v : ℕ} → Ready T (rank_of T p + 1) p c l n
    → v ≡ verd (get_or c (cell_at T.m p) 0) → (v ≡ 0 → ⊥) → Judged T p c l n c l n
known {T} {p} {c} {l} {n} {v} R d f =
    record {
      areas = λ D A. rw (settle_old T R.fit p D (areas_listed A p R.inside (λ y. f (d ∙ y)))) A;
      settled = areas_said R.areas p R.inside (areas_listed R.areas p R.inside (λ y. f (d ∙ y)));
    }

pub unsettled_by : (m : ℕ) (p : Pair) (c : List ℕ) {v : ℕ} → v ≡ verd (get_or c (cell_at m p) 0) → v ≡ 0 → Unsettled m p c
unfolding Unsettled
unsettled_by m p c d z = sym d ∙ z

-- the areas keep their lengths
module _ {T : Case} {d₀ d : List Pair} {h₀ h : Pair → Marks} {a c₀ l₀ c l : List ℕ} {n₀ n : ℕ} (A : Areas T d₀ h₀ a c₀ l₀ n₀) (B : Areas T d h l₀ c l n) where
  pub cells_kept : length c ≡ length c₀
  cells_kept = B.long ∙ sym A.long

  pub list_kept : length l ≡ length l₀
  list_kept = areas_long B
