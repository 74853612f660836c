-- The worklist: what a visit leaves, and what is marked at the end.
--     marked_most, none_marked, tail_most, blank_tidy     counting marks
--     visited_none, visited_more, visit_old, visit_new, tail_room     visits
--     Working, begin, turn, next_low, said     the whole of a search from schema s, and what it says of s
-- Assumes nothing.
use mathlib.Core.Bool.{Bool, true, false, false≢true}
use mathlib.Core.List.Memᴰ.{append_cases as in_split}
use mathlib.Core.List.Memᴰ.{append_left as in_left}
use mathlib.Core.List.Memᴰ.{append_right as in_right}
use mathlib.Core.List.Memᴰ.{eq_of_singleton as in_one}
use mathlib.Core.List.Memᴰ.{head as at_head}
use mathlib.Core.List.Memᴰ.{not-nil as in_none}
use mathlib.Core.List.{List, [], ◌∷◌, ◌++◌, Memᴰ as In}
use mathlib.Core.Logic.{◌⊎◌, inl, inr, ⊎_elim}
use mathlib.Core.Path.{◌≡◌, refl, sym, ap, ◌∙◌, subst}
use Prim.Native.Nat.{ℕ, zero, suc, ◌+◌, ◌≤◌, ◌<◌}
use native.Mathlib.Decide.{ℕ_discrete}
use native.Mathlib.Omega.{arith}
use lib.ListN.{length, get_or, set, length-set}
use lib.Seq.{get_or-set_same, get_or-set_other}
use borrow.Author.Count.{below_more}
use Rattle.laws.proofs.Tests.{decide}
use Rattle.rulesheet.specs.Faults.{schemas_max}
use Rattle.unguarded.specs.Graph.{Path, here, step, Reached, on_loop}
use Rattle.unguarded.specs.Worklist.{mark_count, Marked, Tidy, Visited}
use Rattle.unguarded.proofs.Lists.{is_false}
use Rattle.unguarded.proofs.Paths.{edge, reached_on}
use Rattle.unguarded.proofs.Agreement.{on_loop_lem, loop_on}

-- ---- counting

marked_most : (l : List Bool) → mark_count l ≤ length l
unfolding mark_count
marked_most [] = omega arith
marked_most (false ∷ l) = omega (arith, marked_most l)
marked_most (true ∷ l) = omega (arith, marked_most l)

marked_room : (l : List Bool) (t : ℕ) → t < length l → get_or l t false ≡ false → mark_count l < length l
unfolding mark_count
marked_room [] t h e = absurd (omega arith)
marked_room (false ∷ l) t h e = omega (arith, marked_most l)
marked_room (true ∷ l) zero h e = cc
marked_room (true ∷ l) (suc t) h e = omega (arith, marked_room l t (omega arith) e)

marked_set : (l : List Bool) (t : ℕ) → t < length l → get_or l t false ≡ false → mark_count (set l t true) ≡ suc (mark_count l)
unfolding mark_count
marked_set [] t h e = absurd (omega arith)
marked_set (false ∷ l) zero h e = refl
marked_set (false ∷ l) (suc t) h e = marked_set l t (omega arith) e
marked_set (true ∷ l) zero h e = cc
marked_set (true ∷ l) (suc t) h e = ap suc (marked_set l t (omega arith) e)

pub none_marked : (l : List Bool) → mark_count l ≡ 0 → (t : ℕ) → get_or l t false ≡ false
unfolding mark_count
none_marked [] e t = refl
none_marked (false ∷ l) e zero = refl
none_marked (false ∷ l) e (suc t) = none_marked l e t
none_marked (true ∷ l) e t = absurd (omega arith)

pub tail_most : {seen : List Bool} {queue : List ℕ} {tail : ℕ} → Tidy seen queue tail → tail ≤ schemas_max
tail_most {seen = seen} d = omega (arith, marked_most seen, d.counted, d.seen_long)

pub blank_tidy : (seen : List Bool) (queue : List ℕ) → length seen ≡ schemas_max → length queue ≡ schemas_max → mark_count seen ≡ 0 → Tidy seen queue 0
blank_tidy seen queue a b e =
    record {
      seen_long = a;
      queue_long = b;
      counted = e;
      listed = λ t h. absurd (false≢true (sym (none_marked seen e t) ∙ h));
      queued = λ i h. absurd (omega arith);
    }

-- ---- visits

pub visited_none : (seen : List Bool) (queue : List ℕ) (tail : ℕ) → Tidy seen queue tail → Visited [] seen queue tail seen queue tail
visited_none seen queue tail d =
    record { tidy = d; more = omega arith; kept = λ t h. h; fixed = λ i h. refl; all = λ t h. absurd (in_none h); only = λ t h. inl h }

pub visited_more : {ts us : List ℕ} {a : List Bool} {q : List ℕ} {n : ℕ} {b : List Bool} {r : List ℕ} {k : ℕ} {c : List Bool} {s : List ℕ} {l : ℕ}
    → Visited ts a q n b r k → Visited us b r k c s l → Visited (ts ++ us) a q n c s l
visited_more {ts = ts} {us = us} f g =
    record {
      tidy = g.tidy;
      more = omega (arith, f.more, g.more);
      kept = λ t h. g.kept t (f.kept t h);
      fixed = λ i h. g.fixed i (omega (arith, f.more)) ∙ f.fixed i h;
      all = λ t h. ⊎_elim (λ i. g.kept t (f.all t i)) (λ i. g.all t i) (in_split ts h);
      only = λ t h. ⊎_elim (λ m. ⊎_elim (λ x. inl x) (λ i. inr (in_left us i)) (f.only t m)) (λ i. inr (in_right ts i)) (g.only t h);
    }

module _ (seen : List Bool) (queue : List ℕ) (tail t : ℕ) (d : Tidy seen queue tail) where
  pub visit_old : Marked seen t → Visited (t ∷ []) seen queue tail seen queue tail
  visit_old h =
      record { tidy = d; more = omega arith; kept = λ u k. k; fixed = λ i k. refl; all = λ u i. rw (in_one i) h; only = λ u k. inl k }

  module _ (low : t < schemas_max) (new : get_or seen t false ≡ false) where
    in_seen : t < length seen
    in_seen = omega (arith, d.seen_long)

    pub tail_room : tail < schemas_max
    tail_room = omega (arith, marked_room seen t in_seen new, d.counted, d.seen_long)

    in_queue : tail < length queue
    in_queue = omega (arith, d.queue_long, tail_room)

    now : Marked (set seen t true) t
    now = get_or-set_same seen t true false in_seen

    keeps : (u : ℕ) → Marked seen u → Marked (set seen t true) u
    keeps u h = elim (ℕ_discrete u t) [ yes e ↦ rw e now | no e ↦ rw (get_or-set_other seen t u true false e) h ]

    stays : (i : ℕ) → i < tail → get_or (set queue tail t) i 0 ≡ get_or queue i 0
    stays i h = get_or-set_other queue tail i t 0 (λ e. omega arith)

    adds : (u : ℕ) → Marked (set seen t true) u → Marked seen u ⊎ (u ≡ t)
    adds u h = elim (ℕ_discrete u t) [ yes e ↦ inr e | no e ↦ inl (rw (get_or-set_other seen t u true false e) at h) ]

    pub visit_new : Visited (t ∷ []) seen queue tail (set seen t true) (set queue tail t) (tail + 1)
    visit_new =
        record {
          tidy = record {
            seen_long = simp length-set d.seen_long;
            queue_long = simp length-set d.queue_long;
            counted = marked_set seen t in_seen new ∙ omega (arith, d.counted);
            listed = λ u h. ⊎_elim
                (λ m. let r = d.listed u m in (r.0, (omega (arith, r.1.0), stays r.0 r.1.0 ∙ r.1.1)))
                (λ e. (tail, (omega arith, get_or-set_same queue tail t 0 in_queue ∙ sym e)))
                (adds u h);
            queued = below_more (λ i. Marked (set seen t true) (get_or (set queue tail t) i 0)) tail
                (λ i h. rw (stays i h) (keeps (get_or queue i 0) (d.queued i h)))
                (rw (get_or-set_same queue tail t 0 in_queue) now);
          };
          more = omega arith;
          kept = keeps;
          fixed = stays;
          all = λ u i. rw (in_one i) now;
          only = λ u h. ⊎_elim (λ m. inl m) (λ e. inr (at_head e)) (adds u h);
        }

-- ---- all that s reaches

-- what holds once the schemas at the first `head` places of the queue had their steps visited
pub record Working (next : ℕ → List ℕ) (s : ℕ) (seen : List Bool) (queue : List ℕ) (tail head : ℕ) : Type 0 where
  pub tidy : Tidy seen queue tail
  pub low : head ≤ tail
  pub sound : (t : ℕ) → Marked seen t → Reached next s t
  pub start : (t : ℕ) → In t (next s) → Marked seen t
  pub done : (i : ℕ) → i < head → (t : ℕ) → In t (next (get_or queue i 0)) → Marked seen t

module _ (next : ℕ → List ℕ) (s : ℕ) where
  pub begin : {seen₀ seen : List Bool} {queue₀ queue : List ℕ} {tail : ℕ} → mark_count seen₀ ≡ 0
      → Visited (next s) seen₀ queue₀ 0 seen queue tail → Working next s seen queue tail 0
  begin {seen₀ = seen₀} blank f =
      record {
        tidy = f.tidy;
        low = omega arith;
        sound = λ t h. ⊎_elim (λ m. absurd (false≢true (sym (none_marked seen₀ blank t) ∙ m))) (λ i. edge next i) (f.only t h);
        start = f.all;
        done = λ i h. absurd (omega arith);
      }

  pub turn : {seen seen' : List Bool} {queue queue' : List ℕ} {tail head tail' : ℕ} → Working next s seen queue tail head → head < tail
      → Visited (next (get_or queue head 0)) seen queue tail seen' queue' tail' → Working next s seen' queue' tail' (head + 1)
  turn {seen = seen} {seen' = seen'} {queue = queue} {queue' = queue'} {head = head} w h f =
      record {
        tidy = f.tidy;
        low = omega (arith, f.more);
        sound = λ t k. ⊎_elim (λ m. w.sound t m) (λ i. reached_on next (w.sound (get_or queue head 0) (w.tidy.queued head h)) i) (f.only t k);
        start = λ t i. f.kept t (w.start t i);
        done = below_more (λ i. (t : ℕ) → In t (next (get_or queue' i 0)) → Marked seen' t) head
            (λ i k t m. f.kept t (w.done i k t (subst (λ x. In t (next x)) (f.fixed i (omega (arith, w.low))) m)))
            (λ t m. f.all t (subst (λ x. In t (next x)) (f.fixed head h) m));
      }

  module _ {seen : List Bool} {queue : List ℕ} {tail head : ℕ} (w : Working next s seen queue tail head) (e : tail ≤ head) where
    closed : (t u : ℕ) → Marked seen t → In u (next t) → Marked seen u
    closed t u h i =
        let l = w.tidy.listed t h in
        w.done l.0 (omega (arith, l.1.0)) u (subst (λ x. In u (next x)) (sym l.1.1) i)

    along : (j t u : ℕ) → Path next u j t → Marked seen t → Marked seen u
    along zero t u here h = h
    along (suc j) t u (step {t = v} i p) h = along j v u p (closed t v h i)

    from_start : (j u : ℕ) → Path next u (suc j) s → Marked seen u
    from_start j u (step {t = v} i p) = along j v u p (w.start v i)

    complete : (u : ℕ) → Reached next s u → Marked seen u
    complete u r = from_start r.0 u r.1

  module _ (m : ℕ) (inside : (s t : ℕ) → In t (next s) → t < m) where
    ends_inside : (j u t : ℕ) → Path next t (suc j) u → t < m
    ends_inside zero u t (step i here) = inside u t i
    ends_inside (suc j) u t (step {t = v} i p) = ends_inside j v t p

    -- what is next in the queue is a schema
    pub next_low : {seen : List Bool} {queue : List ℕ} {tail head : ℕ} → Working next s seen queue tail head → head < tail → get_or queue head 0 < m
    next_low {queue = queue} {head = head} w h =
        let r = w.sound (get_or queue head 0) (w.tidy.queued head h) in
        ends_inside r.0 s (get_or queue head 0) r.1

    -- at the end the mark of s tells
    pub said : {seen : List Bool} {queue : List ℕ} {tail head : ℕ} → Working next s seen queue tail head → tail ≤ head
        → get_or seen s false ≡ on_loop m next s
    said {seen = seen} w e =
        ⊎_elim
        (λ (q : get_or seen s false ≡ true). q ∙ sym (loop_on m next inside s (w.sound s q)))
        (λ (q : get_or seen s false ≡ false). q ∙ sym (is_false (on_loop m next s) (λ h. false≢true (sym q ∙ complete w e s (on_loop_lem m next s h)))))
        (decide (get_or seen s false))
