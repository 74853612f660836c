-- A pair in progress: the steps of a clause.
--     Going                       a pair in progress: its marks, and the pairs settled
--     ready_as, going_clause, going_pair    it begins
--     going_ready, going_aimed    what judging one of its clauses, or a pair that it applies, asks
--     going_apply, going_mark     a pair that it applies was judged; its marks were written
--     going_writes, going_open    what writing its marks, and settling it, asks
--     Stepped, stepped-none, stepped-go, stepped-goes, stepped-skip, stepped-skips, stepped-stops, stepped-went, stepped-hands, stepped-end     the steps of a clause
-- Assumes nothing.
use mathlib.Core.Bool.{Bool, true, false, not, ◌&&◌, ◌||◌, cond}
use mathlib.Core.List.{List, Memᴰ as Has}
use mathlib.Core.Logic.{⊎_elim}
use mathlib.Core.Path.{◌≡◌, refl, sym, ap, ap₂, ◌∙◌, subst}
use Prim.Native.Nat.{ℕ, zero, suc, ◌+◌, ◌<◌, ◌≤◌}
use native.Mathlib.Nat.{le_refl}
use native.Mathlib.Numerals.{add-one}
use native.Mathlib.Omega.{arith}
use lib.Dec.{eqb}
use lib.ListN.{get_or}
use borrow.Author.Tests.{eqb-true}
use Rattle.laws.proofs.Tests.{decide}
use Rattle.meaning.specs.Rules.{Pair, Marks, nothing, ◌∪◌, Judgement, answer, applied, clause}
use Rattle.meaning.specs.Settling.{same_pair, listed, in_turn}
use Rattle.meaning.proofs.Words.{row_inside}
use Rattle.meaning.proofs.Settled.{same_pair_lem}
use Rattle.areas.specs.Cells.{verd, column, cell_at, Unsettled}
use Rattle.areas.specs.Writers.{Open, Writes, Marked}
use Rattle.areas.proofs.Cells.{settled_as_read, settled_room}
use Rattle.plan.specs.Folds.{tally_by, gives, marks_by, done_by}
use Rattle.plan.specs.Plan.{counts_hits, branches, moved, go_of, finish_of}
use Rattle.steps.specs.Turns.{Skipped}
use Rattle.plan.proofs.Folds.{or_no, tally_few, done_picked}
use Rattle.plan.proofs.Plans.{Aimed, applied_is, holds_is, marks_is, go_is, go_same, aimed}
use Rattle.lent.specs.Lent.{Case, InCase, Kid, first_kid, kid_count, clauses_of, clause_at, before_of, handed_on, HandsOn, given_on}
use Rattle.meaning.proofs.Answers.{pairs_few}
use Rattle.progress.specs.Steps.{Going, aims, stopped, fresh, goes, keeps, many, Stepped}
use Rattle.progress.specs.declared.Done.{Done}
use Rattle.progress.specs.State.{rank_of, truth_of, settle_of, bits_of, overlay, Areas, Quiet, Ready, WhereDone, Judged, ClauseJudged}
use Rattle.progress.proofs.Pairs.{settle_self, settle_still, settle_new, settle_grows}
use Rattle.progress.proofs.State.{cond_else, not_same, overlay_self, overlay_other, areas_bits, areas_marks, areas_self, areas_free, areas_unsettled, areas_cell, areas_then, areas_mark}

lower_other : (T : Case) (p q : Pair) → rank_of T q < rank_of T p → same_pair q p ≡ false
lower_other T p q h = not_same p q (λ e. let z : rank_of T q ≡ rank_of T p = ap (rank_of T) e in omega arith)

abbrev pub Aim : Case → Pair → Pair → Type 0
Aim T p q = Aimed T.doc T.rules T.n T.m p q

-- ---- a pair comes into progress, and another is judged

pub quiet_as : {T : Case} {t : ℕ} {p : Pair} {c l : List ℕ} {n : ℕ} → Ready T t p c l n → WhereDone T c l n (λ done. Quiet T t done (bits_of T.m c))
unfolding Quiet Unsettled
quiet_as R done A = λ q k i h e ch. R.quiet q k i h (areas_free R.areas q i (areas_unsettled A q i e)) ch

-- whatever pairs the areas show settled, in whatever order
abbrev pub ready_as : {T : Case} {t : ℕ} {p : Pair} {c l : List ℕ} {n : ℕ} → Ready T t p c l n → WhereDone T c l n (λ done. Ready T t p c l n)
ready_as R done A = record { fit = R.fit; inside = R.inside; done = done; areas = A; quiet = quiet_as R done A }

pub going_clause : {T : Case} {p : Pair} {c l : List ℕ} {n : ℕ} (a : Ready T (rank_of T p) p c l n) → Unsettled T.m p c
    → Going T p (bits_of T.m c) l a.done (bits_of T.m c p) c l n
unfolding Unsettled
going_clause {T} {p} {c} {l} {n} a u =
    record {
      fit = a.fit;
      inside = a.inside;
      areas =
          areas_then a.areas a.areas (le_refl _)
          (λ q k i ch e.
          ⊎_elim
          (λ d. subst (λ (x : Pair). bits_of T.m c x k ≡ overlay p (bits_of T.m c p) (bits_of T.m c) x k) (sym (same_pair_lem q p d)) (sym (overlay_self p (bits_of T.m c p) (bits_of T.m c) k)))
          (λ d. sym (overlay_other p q (bits_of T.m c p) (bits_of T.m c) k d))
          (decide (same_pair q p)));
      free = areas_free a.areas p a.inside u;
      quiet = a.quiet;
    }

pub going_pair : {T : Case} {p : Pair} {c l : List ℕ} {n : ℕ} (a : Ready T (rank_of T p + 1) p c l n) → Unsettled T.m p c
    → Going T p (bits_of T.m c) l a.done nothing c l n
unfolding Unsettled Quiet nothing
going_pair {T} {p} {c} {l} {n} a u =
    let f = areas_free a.areas p a.inside u in
    record {
      fit = a.fit;
      inside = a.inside;
      areas =
          areas_then a.areas a.areas (le_refl _)
          (λ q k i ch e.
          ⊎_elim
          (λ d. subst (λ (x : Pair). InCase T x → Kid T x.row k → bits_of T.m c x k ≡ overlay p nothing (bits_of T.m c) x k) (sym (same_pair_lem q p d)) (λ i' ch'. a.quiet p k i' (omega arith) f ch' ∙ sym (overlay_self p nothing (bits_of T.m c) k)) i ch)
          (λ d. sym (overlay_other p q nothing (bits_of T.m c) k d))
          (decide (same_pair q p)));
      free = f;
      quiet = λ q k i h e ch. a.quiet q k i (omega arith) e ch;
    }

module _ {T : Case} {p : Pair} {held : Pair → Marks} {l₀ : List ℕ} {done : List Pair} {κ : Marks} {c l : List ℕ} {n : ℕ} (G : Going T p held l₀ done κ c l n) where
  pub going_bits : (k : ℕ) → Kid T p.row k → bits_of T.m c p k ≡ κ k
  going_bits k ch = areas_bits G.areas p k G.inside ch G.free ∙ overlay_self p κ held k

  going_quiet : Quiet T (rank_of T p) done (bits_of T.m c)
  unfolding Quiet
  going_quiet q k i h e ch = areas_bits G.areas q k i ch e ∙ overlay_other p q κ held k (lower_other T p q h) ∙ G.quiet q k i h e ch

  pub going_unsettled : Unsettled T.m p c
  going_unsettled = areas_unsettled G.areas p G.inside G.free

  pub going_ready : Ready T (rank_of T p) p c l n
  going_ready = record { fit = G.fit; inside = G.inside; done = done; areas = areas_self G.areas; quiet = going_quiet }

  pub going_aimed : {q : Pair} → Aim T p q → Ready T (rank_of T q + 1) q c l n
  unfolding Quiet
  going_aimed z =
      record {
        fit = G.fit;
        inside = z.inside;
        done = done;
        areas = areas_self G.areas;
        quiet = λ q k i h e ch. let g = z.lower in going_quiet q k i (omega arith) e ch;
      }

  -- a pair that p applies was judged
  pub going_apply : {q : Pair} {c' l' : List ℕ} {n' : ℕ} → Aim T p q → Judged T q c l n c' l' n' → Going T p held l₀ (settle_of T q done) κ c' l' n'
  unfolding Quiet
  going_apply {q} {c'} {l'} {n'} z j =
      record {
        fit = G.fit;
        inside = G.inside;
        areas =
            areas_then G.areas (j.areas done (areas_self G.areas)) (settle_grows T q done)
            (λ x k i ch e. areas_bits G.areas x k i ch (settle_new T G.fit q x done e));
        free = settle_still T G.fit p q done z.lower G.free;
        quiet = λ x k i h e ch. G.quiet x k i h (settle_new T G.fit q x done e) ch;
      }

  -- marks of p were written
  pub going_mark : {c' : List ℕ} {to : Marks} (κ' : Marks) → Marked T.m (first_kid T p) (kid_count T p) p.rule to c c'
      → ((k : ℕ) → Kid T p.row k → to k ≡ κ' k) → Going T p held l₀ done κ' c' l n
  going_mark κ' M f =
      record {
        fit = G.fit;
        inside = G.inside;
        areas = areas_mark held κ κ' G.fit G.inside G.areas G.free M f;
        free = G.free;
        quiet = G.quiet;
      }

  -- other words for them
  pub going_as : (κ' : Marks) → ((k : ℕ) → Kid T p.row k → κ k ≡ κ' k) → Going T p held l₀ done κ' c l n
  going_as κ' f =
      record {
        fit = G.fit;
        inside = G.inside;
        areas =
            let A = G.areas in
            record {
              long = A.long;
              small = A.small;
              said = A.said;
              shown =
                  λ q k i ch.
                  A.shown q k i ch
                  ∙ cond_else (listed q done) _ (overlay p κ held q k) (overlay p κ' held q k)
                  (λ e.
                  ⊎_elim
                  (λ d. subst (λ (x : Pair). Kid T x.row k → overlay p κ held x k ≡ overlay p κ' held x k) (sym (same_pair_lem q p d)) (λ ch'. overlay_self p κ held k ∙ f k ch' ∙ sym (overlay_self p κ' held k)) ch)
                  (λ d. overlay_other p q κ held k d ∙ sym (overlay_other p q κ' held k d))
                  (decide (same_pair q p)));
              top = A.top;
              lists = A.lists;
              counts = A.counts;
              counted = A.counted;
            };
        free = G.free;
        quiet = G.quiet;
      }

  -- what writing the marks of p asks
  pub going_writes : (from : ℕ) → from < T.m → Writes T.m (first_kid T p) (kid_count T p) p.rule from c
  going_writes from h =
      record {
        rule_in = G.inside.rule_in;
        from_in = h;
        rows_in =
            λ k a b.
            let z = G.fit.rows.child_inside p.row k G.inside.row_in (record { after = a; within = b }) in
            let w = row_inside T.n T.m k z in
            let e = G.areas.long in
            omega arith;
      }

  -- what settling p asks
  pub going_open : {i : ℕ} → i ≡ cell_at T.m p → Open c n i
  unfolding Unsettled
  going_open {i} e =
      let A = G.areas in
      let h = areas_cell A p G.inside in
      let u : verd (get_or c i 0) ≡ 0 = ap (λ (x : ℕ). verd (get_or c x 0)) e ∙ going_unsettled in
      let s = settled_room c i (omega arith) u in
      let q = A.counted in
      let w = A.long in
      record {
        in_cells = omega arith;
        unsettled = u;
        narrow = omega (arith, pairs_few T.n T.m G.fit.rows.few G.fit.few);
        few = omega (arith, pairs_few T.n T.m G.fit.rows.few G.fit.few);
      }

-- ---- the steps of a clause

pub stepped_none : {T : Case} {p : Pair} {cl : ℕ} {c l : List ℕ} {n : ℕ} (a : Ready T (rank_of T p) p c l n) → Unsettled T.m p c → Stepped T p cl a.done c l 0 c l n 0
unfolding done_by marks_by tally_by
stepped_none a u = record { going = going_clause a u; carried = refl }

pub open_bits : (T : Case) (c : List ℕ) (p : Pair) (k : ℕ) {b : Bool} → bits_of T.m c p k ≡ b → column T.m c p.rule k ≡ b
unfolding bits_of
open_bits T c p k e = e

-- the marks that a pair hands on are those that it gives
handed_gives : {T : Case} {p q : Pair} {held : Pair → Marks} {l₀ : List ℕ} {done : List Pair} {κ : Marks} {c l : List ℕ} {n : ℕ}
    → Going T p held l₀ done κ c l n → InCase T q → listed q done ≡ true → (k : ℕ) → Kid T p.row k
    → handed_on T.m c p.row p.rule q.row q.rule k ≡ (κ k || gives (truth_of T) p q k)
unfolding handed_on gives
handed_gives {T} {p} {q} {κ = κ} {c} G i e k ch = rw own_bits (ap (λ (b : Bool). κ k || b) (second (eqb q.row p.row) refl))
  where
    own_bits : column T.m c p.rule k ≡ κ k
    own_bits = open_bits T c p k (going_bits G k ch)

    second : (b : Bool) → eqb q.row p.row ≡ b → cond b (column T.m c q.rule k) (eqb k q.row) ≡ cond b ((truth_of T q).marks k) (eqb k q.row)
    second true d = open_bits T c q k (areas_marks G.areas q k i (subst (λ (x : ℕ). Kid T x k) (sym (eqb-true q.row p.row d)) ch) e)
    second false d = refl

-- what is handed on, or not, is what is given
given_gives : {T : Case} {p q : Pair} {held : Pair → Marks} {l₀ : List ℕ} {done : List Pair} {κ : Marks} {c l : List ℕ} {n : ℕ}
    → Going T p held l₀ done κ c l n → InCase T q → listed q done ≡ true → (kept : Bool) (k : ℕ) → Kid T p.row k
    → given_on kept T.m c p.row p.rule q.row q.rule k ≡ (κ k || (kept && gives (truth_of T) p q k))
unfolding given_on
given_gives G i e true k ch = handed_gives G i e k ch
given_gives {T} {p} {c = c} G i e false k ch = open_bits T c p k (going_bits G k ch) ∙ sym (or_no _)

module _ {T : Case} {p : Pair} {cl : ℕ} {d₀ : List Pair} {c₀ l₀ : List ℕ} {i : ℕ} {c l : List ℕ} {n tally : ℕ} (S : Stepped T p cl d₀ c₀ l₀ i c l n tally) where
  abbrev κ₀ : Marks
  κ₀ = bits_of T.m c₀ p

  pub stepped_few : tally ≤ i
  stepped_few = rw S.carried (tally_few (truth_of T) (aims T p cl) _ (counts_hits (clause_at T p cl)) (branches (clause_at T p cl)) i)

  -- a step that looks at the cells sees what it would have seen before the clause
  pub stepped_go : {g : Bool} → i < many T p cl
      → g ≡ go_of T.doc p (before_of T p cl) (clause_at T p cl) i (column T.m c p.rule (aims T p cl i).row) tally → g ≡ fresh T p cl κ₀ i tally
  stepped_go h w =
      let G = S.going in
      w
      ∙ go_same T.doc T.rules T.n T.m G.fit p G.inside.row_in (before_of T p cl) κ₀ (clause_at T p cl) i _ _ tally h
      (λ ch. open_bits T c p (aims T p cl i).row (going_bits G (aims T p cl i).row ch))
      ∙ go_is T.doc T.rules T.n T.m G.fit p G.inside.row_in (before_of T p cl) κ₀ (truth_of T) (clause_at T p cl) (goes T p cl κ₀) i tally h

  -- whether it goes, by what is carried
  pub stepped_goes : {b : Bool} → b ≡ (not (stopped T p cl tally) && fresh T p cl κ₀ i tally) → b ≡ goes T p cl κ₀ i
  stepped_goes e = e ∙ ap (λ (t : ℕ). not (stopped T p cl t) && fresh T p cl κ₀ i t) S.carried

  -- where a step that is applied leads
  pub stepped_aim : i < many T p cl → Has (clause_at T p cl) (clauses_of T p) → true ≡ goes T p cl κ₀ i → Aim T p (aims T p cl i)
  stepped_aim h has w =
      let G = S.going in
      aimed T.doc T.rules T.n T.m G.fit p G.inside.row_in (before_of T p cl) κ₀ (truth_of T) T.way G.inside.rule_in (clause_at T p cl) i has h (sym w)

  -- a step that applies nothing
  pub stepped_skip : false ≡ goes T p cl κ₀ i → Stepped T p cl d₀ c₀ l₀ (i + 1) c l n tally
  unfolding done_by marks_by tally_by
  stepped_skip d =
      let z : goes T p cl κ₀ i ≡ false = sym d in
      rw (add-one i)
      (record {
        going =
            rw z
            (going_as S.going
            (λ k. marks_by (truth_of T) p (keeps T p cl) (goes T p cl κ₀) (aims T p cl) κ₀ i k || (goes T p cl κ₀ i && ((keeps T p cl || (truth_of T (aims T p cl i)).holds) && gives (truth_of T) p (aims T p cl i) k)))
            (λ k ch. sym (rw z (or_no _))));
        carried = S.carried ∙ sym (rw z);
      })

  -- a step that applies a pair
  pub stepped_went : {v h : ℕ} {kept : Bool} {q : Pair} {c₁ c₂ l₁ : List ℕ} {n₁ : ℕ} → true ≡ goes T p cl κ₀ i → q ≡ aims T p cl i
      → Aim T p q → Judged T q c l n c₁ l₁ n₁ → v ≡ verd (get_or c₁ (cell_at T.m q) 0)
      → Marked T.m (first_kid T p) (kid_count T p) p.rule (given_on kept T.m c₁ p.row p.rule q.row q.rule) c₁ c₂
      → kept ≡ (keeps T p cl || eqb v 1)
      → h ≡ moved (counts_hits (clause_at T p cl)) (branches (clause_at T p cl)) i tally (eqb v 1)
      → Stepped T p cl d₀ c₀ l₀ (i + 1) c₂ l₁ n₁ h
  unfolding done_by marks_by tally_by
  stepped_went {v} {h} {kept} {q} {c₁} {c₂} {l₁} {n₁} d same z j read M keep u =
      let w : goes T p cl κ₀ i ≡ true = sym d in
      let κ = marks_by (truth_of T) p (keeps T p cl) (goes T p cl κ₀) (aims T p cl) κ₀ i in
      let G = going_apply S.going z j in
      let D = done_by (settle_of T) (goes T p cl κ₀) (aims T p cl) d₀ i in
      let b : eqb v 1 ≡ (truth_of T (aims T p cl i)).holds = settled_as_read (truth_of T q).holds v (read ∙ j.settled) ∙ ap (λ (x : Pair). (truth_of T x).holds) same in
      let kb : kept ≡ (keeps T p cl || (truth_of T (aims T p cl i)).holds) = keep ∙ ap (λ (x : Bool). keeps T p cl || x) b in
      let H = going_mark G (λ k. κ k || (goes T p cl κ₀ i && ((keeps T p cl || (truth_of T (aims T p cl i)).holds) && gives (truth_of T) p (aims T p cl i) k))) M
      (λ k ch.
      given_gives G z.inside (settle_self T S.going.fit q D) kept k ch ∙ ap (λ (x : Pair). κ k || (kept && gives (truth_of T) p x k)) same ∙ sym (rw (w, ← kb))) in
      let f : settle_of T q D ≡ cond (goes T p cl κ₀ i) (settle_of T (aims T p cl i) D) D = ap (λ (x : Pair). settle_of T x D) same ∙ sym (rw w) in
      rw (add-one i)
      (record {
        going = subst (λ (x : List Pair). Going T p (bits_of T.m c₀) l₀ x (λ k. κ k || (goes T p cl κ₀ i && ((keeps T p cl || (truth_of T (aims T p cl i)).holds) && gives (truth_of T) p (aims T p cl i) k))) c₂ l₁ n₁) f H;
        carried = u ∙ ap₂ (moved (counts_hits (clause_at T p cl)) (branches (clause_at T p cl)) i) S.carried b ∙ sym (rw w);
      })

no_go : (a : Bool) {b : Bool} → b ≡ false → (a && b) ≡ false
no_go true e = e
no_go false e = refl

-- steps that apply nothing
pub stepped_skips : {T : Case} {p : Pair} {cl : ℕ} {d₀ : List Pair} {c₀ l₀ : List ℕ} {x : ℕ} {c l : List ℕ} {n tally : ℕ} (d : ℕ) → Stepped T p cl d₀ c₀ l₀ x c l n tally
    → x + d ≤ many T p cl → Skipped T.doc p (before_of T p cl) (clause_at T p cl) (column T.m c p.rule) tally x (x + d)
    → Stepped T p cl d₀ c₀ l₀ (x + d) c l n tally
stepped_skips {T} {p} {cl} {d₀} {c₀} {l₀} {x} {c} {l} {n} {tally} zero S h f = subst (λ (y : ℕ). Stepped T p cl d₀ c₀ l₀ y c l n tally) (omega arith) S
stepped_skips {T} {p} {cl} {d₀} {c₀} {l₀} {x} {c} {l} {n} {tally} (suc d) S h f =
    let R = stepped_skips d S (omega arith) (record { idle = λ k a b. f.idle k a (omega arith) }) in
    let g : false ≡ fresh T p cl (bits_of T.m c₀ p) (x + d) tally = stepped_go R (omega arith) (sym (f.idle (x + d) (omega arith) (omega arith))) in
    subst (λ (y : ℕ). Stepped T p cl d₀ c₀ l₀ y c l n tally) (omega arith) (stepped_skip R (stepped_goes R (sym (no_go (not (stopped T p cl tally)) (sym g)))))

-- steps that are not taken, since what is carried has stopped the clause
pub stepped_stops : {T : Case} {p : Pair} {cl : ℕ} {d₀ : List Pair} {c₀ l₀ : List ℕ} {x : ℕ} {c l : List ℕ} {n tally : ℕ} (d : ℕ) → Stepped T p cl d₀ c₀ l₀ x c l n tally
    → stopped T p cl tally ≡ true → Stepped T p cl d₀ c₀ l₀ (x + d) c l n tally
stepped_stops {T} {p} {cl} {d₀} {c₀} {l₀} {x} {c} {l} {n} {tally} zero S e = subst (λ (y : ℕ). Stepped T p cl d₀ c₀ l₀ y c l n tally) (omega arith) S
stepped_stops {T} {p} {cl} {d₀} {c₀} {l₀} {x} {c} {l} {n} {tally} (suc d) S e =
    let R = stepped_stops d S e in
    subst (λ (y : ℕ). Stepped T p cl d₀ c₀ l₀ y c l n tally) (omega arith)
    (stepped_skip R (stepped_goes R (sym (ap (λ (b : Bool). not b && fresh T p cl (bits_of T.m c₀ p) (x + d) tally) e))))

-- what handing on asks
pub stepped_hands : {T : Case} {p q : Pair} {held : Pair → Marks} {l₀ : List ℕ} {done : List Pair} {κ : Marks} {c l : List ℕ} {n : ℕ}
    → Going T p held l₀ done κ c l n → Aim T p q → HandsOn T.m (first_kid T p) (kid_count T p) p.row p.rule q.row q.rule c
stepped_hands {T} {p} {q} G z =
    record {
      writes = going_writes G q.rule z.inside.rule_in;
      child = λ f. let k = z.child f in (k.after, k.within);
    }

-- all steps were taken: what that comes to
module _ {T : Case} {p : Pair} {cl : ℕ} {d₀ : List Pair} {c₀ l₀ : List ℕ} {c l : List ℕ} {n tally : ℕ} (S : Stepped T p cl d₀ c₀ l₀ (many T p cl) c l n tally) where
  abbrev J₀ : Judgement
  J₀ = clause T.doc T.way p (before_of T p cl) (bits_of T.m c₀ p) (clause_at T p cl)

  ended_areas : Areas T (in_turn (settle_of T) (applied (truth_of T) J₀) d₀) (overlay p (bits_of T.m c₀ p ∪ (answer (truth_of T) J₀).marks) (bits_of T.m c₀)) l₀ c l n
  unfolding ◌∪◌
  ended_areas =
      let G = S.going in
      let κ = bits_of T.m c₀ p in
      let bf = before_of T p cl in
      let cls = clause_at T p cl in
      let H = going_as G (λ k. κ k || (answer (truth_of T) J₀).marks k)
      (λ k ch. sym (marks_is T.doc T.rules T.n T.m G.fit p G.inside.row_in bf κ (truth_of T) T.way cls k)) in
      let d : done_by (settle_of T) (goes T p cl κ) (aims T p cl) d₀ (many T p cl) ≡ in_turn (settle_of T) (applied (truth_of T) J₀) d₀ =
      sym (ap (λ x. in_turn (settle_of T) x d₀) (applied_is T.doc T.rules T.n T.m G.fit p G.inside.row_in bf κ (truth_of T) T.way cls)
      ∙ done_picked (settle_of T) (goes T p cl κ) (aims T p cl) d₀ (many T p cl)) in
      rw (← d) H.areas

  ended_said : finish_of T.doc p (clause_at T p cl) tally ≡ (answer (truth_of T) J₀).holds
  ended_said =
      let G = S.going in
      ap (finish_of T.doc p (clause_at T p cl)) S.carried
      ∙ sym (holds_is T.doc T.rules T.n T.m G.fit p G.inside.row_in (before_of T p cl) (bits_of T.m c₀ p) (truth_of T) T.way (clause_at T p cl))

pub stepped_end : {T : Case} {t : ℕ} {p : Pair} {cl : ℕ} {c₀ l₀ : List ℕ} {n₀ : ℕ} {c l : List ℕ} {n tally : ℕ} {r : Done}
    → Ready T t p c₀ l₀ n₀ → WhereDone T c₀ l₀ n₀ (λ d₀. Stepped T p cl d₀ c₀ l₀ (many T p cl) c l n tally)
    → r.ok ≡ finish_of T.doc p (clause_at T p cl) tally → r.count ≡ n → ClauseJudged T p cl c₀ l₀ n₀ c l r
stepped_end R S f q =
    let one = S R.done R.areas in
    record {
      areas = λ d A. rw q (ended_areas (S d A));
      said = f ∙ ended_said one;
      free = going_unsettled one.going;
    }
