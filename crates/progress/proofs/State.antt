-- The areas while a record is judged: each step of the judging loops is one of these laws.
--     written-…        words written over a list
--     areas_self, areas_bits, areas_marks, areas_listed, areas_free, areas_said    what the areas show
--     areas_then       one run after another
--     areas_mark       marks were written
--     areas_settle     a pair was settled
-- Assumes nothing.
use mathlib.Core.Bool.{Bool, true, false, cond, true≢false}
use mathlib.Core.List.{List, [], ◌∷◌, ◌++◌, map}
use mathlib.Core.Logic.{⊎_elim}
use mathlib.Core.Path.{◌≡◌, refl, sym, ap, ◌∙◌, subst}
use Prim.Native.Nat.{ℕ, suc, ◌+◌, ◌*◌, ◌<◌, ◌≤◌}
use native.Mathlib.Omega.{arith}
use lib.ListN.{length, get_or, set, drop, length-append, length-map, length-set}
use lib.Seq.{get_or-set_same, get_or-set_other}
use borrow.Author.Tests.{eq-eqb}
use Rattle.laws.proofs.Tests.{decide}
use Rattle.meaning.specs.Rules.{Pair, Marks}
use Rattle.meaning.specs.Settling.{same_pair, listed, shown}
use Rattle.meaning.proofs.Words.{row_inside, word_inside}
use Rattle.meaning.proofs.Settled.{same_pair_lem, self, in_listed, last_in}
use Rattle.plan.proofs.Folds.{map_append, eq_or}
use Rattle.areas.specs.Cells.{verd, bit, settled_as, column, cell_at, Unsettled}
use Rattle.areas.specs.Writers.{Open, Shut, Writes, Marked}
use Rattle.areas.proofs.Cells.{settled_as_some, same_row, same_rule, verd_settle, bit_settle, settle_small, settled_set, settled_same}
use Rattle.lent.specs.Lent.{Case, Fits, InCase, Kid, first_kid, kid_count}
use Rattle.progress.specs.State.{truth_of, bits_of, overlay, written, Areas}

-- ---- tests

pub cond_else : {A : Type 0} (b : Bool) (x y z : A) → (b ≡ false → y ≡ z) → cond b x y ≡ cond b x z
cond_else true x y z f = refl
cond_else false x y z f = f refl

cond_idem : {A : Type 0} (b : Bool) (x y : A) (v : A) → v ≡ cond b x y → v ≡ cond b x v
cond_idem true x y v e = e
cond_idem false x y v e = refl

no_true : (b : Bool) → (b ≡ true → ⊥) → b ≡ false
no_true true h = absurd (h refl)
no_true false h = refl

pub overlay_self : (p : Pair) (κ : Marks) (held : Pair → Marks) (k : ℕ) → overlay p κ held p k ≡ κ k
unfolding overlay
overlay_self p κ held k = rw (self p)

pub overlay_other : (p q : Pair) (κ : Marks) (held : Pair → Marks) (k : ℕ) → same_pair q p ≡ false → overlay p κ held q k ≡ held q k
unfolding overlay
overlay_other p q κ held k e = rw e

pub not_same : (p q : Pair) → (q ≡ p → ⊥) → same_pair q p ≡ false
not_same p q f = no_true _ (λ e. f (same_pair_lem q p e))

pub together : (q p : Pair) → q.row ≡ p.row → q.rule ≡ p.rule → same_pair q p ≡ true
unfolding same_pair
together q p a b = rw (eq-eqb q.row p.row a, eq-eqb q.rule p.rule b)

-- ---- the list

pub listed_last : (xs : List Pair) (p : Pair) → listed p (xs ++ p ∷ []) ≡ true
listed_last xs p = in_listed p (last_in xs p)

pub listed_other : (xs : List Pair) (p q : Pair) → same_pair q p ≡ false → listed q (xs ++ p ∷ []) ≡ listed q xs
unfolding listed
listed_other [] p q e = rw e
listed_other (x ∷ xs) p q e = rw (listed_other xs p q e)

-- ---- words written over a list

written_long : (ws l : List ℕ) → length (written ws l) ≡ length l
unfolding written
written_long [] l = refl
written_long (w ∷ ws) [] = refl
written_long (w ∷ ws) (x ∷ l) = ap suc (written_long ws l)

-- more words, written over these
written_later : (ws vs l : List ℕ) → length ws ≤ length vs → written vs (written ws l) ≡ written vs l
unfolding written
written_later [] vs l h = refl
written_later (w ∷ ws) [] l h = absurd (omega arith)
written_later (w ∷ ws) (v ∷ vs) [] h = refl
written_later (w ∷ ws) (v ∷ vs) (x ∷ l) h = ap (λ y. v ∷ y) (written_later ws vs l (omega arith))

-- one more, at the place after them
written_one : (ws l : List ℕ) (k : ℕ) → set (written ws l) (length ws) k ≡ written (ws ++ k ∷ []) l
unfolding written
written_one [] [] k = refl
written_one [] (x ∷ l) k = refl
written_one (w ∷ ws) [] k = refl
written_one (w ∷ ws) (x ∷ l) k = ap (λ y. w ∷ y) (written_one ws l k)

written_again : (ws l : List ℕ) → written ws (written ws l) ≡ written ws l
written_again ws l = written_later ws ws l (omega arith)

-- where there are places for all of them
pub written_room : (ws l : List ℕ) → length ws ≤ length l → written ws l ≡ ws ++ drop (length ws) l
unfolding written
written_room [] l h = refl
written_room (w ∷ ws) [] h = absurd (omega arith)
written_room (w ∷ ws) (x ∷ l) h = ap (λ y. w ∷ y) (written_room ws l (omega arith))

pub written_none : (ws l : List ℕ) → length l ≡ 0 → written ws l ≡ l
unfolding written
written_none [] l h = refl
written_none (w ∷ ws) [] h = refl
written_none (w ∷ ws) (x ∷ l) h = absurd (omega arith)

module _ {T : Case} {done : List Pair} {held : Pair → Marks} {l₀ c l : List ℕ} {n : ℕ} (A : Areas T done held l₀ c l n) where
  pub areas_bits : (q : Pair) (k : ℕ) → InCase T q → Kid T q.row k → listed q done ≡ false → bits_of T.m c q k ≡ held q k
  unfolding bits_of
  areas_bits q k i ch e = A.shown q k i ch ∙ rw e

  pub areas_marks : (q : Pair) (k : ℕ) → InCase T q → Kid T q.row k → listed q done ≡ true → bits_of T.m c q k ≡ (truth_of T q).marks k
  unfolding bits_of
  areas_marks q k i ch e = A.shown q k i ch ∙ rw e

  -- the areas by themselves
  pub areas_self : Areas T done (bits_of T.m c) l c l n
  unfolding bits_of
  areas_self = record {
    long = A.long;
    small = A.small;
    said = A.said;
    shown = λ q k i ch. cond_idem (listed q done) ((truth_of T q).marks k) (held q k) _ (A.shown q k i ch);
    top = A.top;
    lists = A.lists ∙ sym (ap (written (map (cell_at T.m) done)) A.lists ∙ written_again (map (cell_at T.m) done) l₀);
    counts = A.counts;
    counted = A.counted;
  }

  pub areas_listed : (q : Pair) → InCase T q → (verd (get_or c (cell_at T.m q) 0) ≡ 0 → ⊥) → listed q done ≡ true
  areas_listed q i f = ⊎_elim (λ e. e) (λ e. absurd (f (A.said q i ∙ rw e))) (decide (listed q done))

  pub areas_free : (q : Pair) → InCase T q → verd (get_or c (cell_at T.m q) 0) ≡ 0 → listed q done ≡ false
  areas_free q i e = no_true _ (λ g. settled_as_some (truth_of T q).holds (sym (A.said q i ∙ rw g) ∙ e))

  pub areas_unsettled : (q : Pair) → InCase T q → listed q done ≡ false → Unsettled T.m q c
  unfolding Unsettled
  areas_unsettled q i e = A.said q i ∙ rw e

  pub areas_said : (q : Pair) → InCase T q → listed q done ≡ true → verd (get_or c (cell_at T.m q) 0) ≡ settled_as (truth_of T q).holds
  areas_said q i e = A.said q i ∙ rw e

  pub areas_cell : (q : Pair) → InCase T q → cell_at T.m q < length c
  areas_cell q i = let h = word_inside T.n T.m q.row q.rule i.row_in i.rule_in in let e = A.long in omega arith

  pub areas_long : length l ≡ length l₀
  areas_long = ap length A.lists ∙ written_long (map (cell_at T.m) done) l₀

  -- one run after another
  pub areas_then : {d' : List Pair} {held' held₂ : Pair → Marks} {c₂ l₂ : List ℕ} {n₂ : ℕ} → Areas T d' held' l c₂ l₂ n₂ → length done ≤ length d'
      → ((q : Pair) (k : ℕ) → InCase T q → Kid T q.row k → listed q d' ≡ false → held' q k ≡ held₂ q k)
      → Areas T d' held₂ l₀ c₂ l₂ n₂
  areas_then {d'} {held'} {held₂} B g f = record {
    long = B.long;
    small = B.small;
    said = B.said;
    shown = λ q k i ch. B.shown q k i ch ∙ cond_else (listed q d') _ (held' q k) (held₂ q k) (f q k i ch);
    top = B.top;
    lists = B.lists ∙ ap (written (map (cell_at T.m) d')) A.lists
        ∙ written_later (map (cell_at T.m) done) (map (cell_at T.m) d') l₀ (let x = length-map done (cell_at T.m) in let y = length-map d' (cell_at T.m) in omega arith);
    counts = B.counts;
    counted = B.counted;
  }

-- ---- marks are written

pub areas_mark : {T : Case} {done : List Pair} (held : Pair → Marks) {l₀ c c' l : List ℕ} {n : ℕ} {p : Pair} (κ κ' : Marks) {to : Marks} → Fits T → InCase T p
    → Areas T done (overlay p κ held) l₀ c l n → listed p done ≡ false
    → Marked T.m (first_kid T p) (kid_count T p) p.rule to c c'
    → ((k : ℕ) → Kid T p.row k → to k ≡ κ' k)
    → Areas T done (overlay p κ' held) l₀ c' l n
areas_mark {T} {done} held {l₀} {c} {c'} {p = p} κ κ' {to} fit inside A free M f = record {
  long = M.len ∙ A.long;
  small = M.small A.small;
  said = λ q i. M.verdicts (cell_at T.m q) ∙ A.said q i;
  shown = λ q k i ch. ⊎_elim (λ e. mine q k i ch (same_pair_lem q p e)) (λ e. other q k i ch e) (decide (same_pair q p));
  top = λ s h.
      let z : 0 * T.m + s ≡ s = omega arith in
      let w = M.there 0 s h (λ e u v. let y = fit.rows.child_after p.row 0 inside.row_in (record { after = u; within = v }) in omega arith) in
      ap bit (ap (λ (x : ℕ). get_or c' x 0) (sym z) ∙ w ∙ ap (λ (x : ℕ). get_or c x 0) z) ∙ A.top s h;
  lists = A.lists;
  counts = A.counts;
  counted = settled_same c' c M.len M.verdicts ∙ A.counted;
}
  where
    at_p : (k : ℕ) → Kid T p.row k → column T.m c' p.rule k ≡ cond (listed p done) ((truth_of T p).marks k) (overlay p κ' held p k)
    at_p k ch = M.here k ch.after ch.within ∙ f k ch ∙ sym (rw free (overlay_self p κ' held k))

    mine : (q : Pair) (k : ℕ) → InCase T q → Kid T q.row k → q ≡ p → column T.m c' q.rule k ≡ cond (listed q done) ((truth_of T q).marks k) (overlay p κ' held q k)
    mine q k i ch e = subst (λ (x : Pair). Kid T x.row k → column T.m c' x.rule k ≡ cond (listed x done) ((truth_of T x).marks k) (overlay p κ' held x k)) (sym e) (at_p k) ch

    other : (q : Pair) (k : ℕ) → InCase T q → Kid T q.row k → same_pair q p ≡ false → column T.m c' q.rule k ≡ cond (listed q done) ((truth_of T q).marks k) (overlay p κ' held q k)
    other q k i ch e =
        ap bit (M.there k q.rule i.rule_in (λ d u v.
        let a = fit.rows.child_owner q.row k i.row_in ch in
        let b = fit.rows.child_owner p.row k inside.row_in (record { after = u; within = v }) in
        let s : same_pair q p ≡ true = together q p (sym a ∙ b) d in
        true≢false (sym s ∙ e)))
        ∙ A.shown q k i ch ∙ cond_else (listed q done) _ (overlay p κ held q k) (overlay p κ' held q k) (λ z. overlay_other p q κ held k e ∙ sym (overlay_other p q κ' held k e))

-- ---- a pair is settled

pub areas_settle : {T : Case} {done : List Pair} (held : Pair → Marks) {l₀ c c' l l' : List ℕ} {n r i : ℕ} {p : Pair} (κ : Marks) {ok : Bool} → InCase T p
    → Areas T done (overlay p κ held) l₀ c l n → listed p done ≡ false
    → ((k : ℕ) → Kid T p.row k → κ k ≡ (truth_of T p).marks k)
    → ok ≡ (truth_of T p).holds
    → i ≡ cell_at T.m p
    → Open c n i → Shut c l n i ok c' l' r
    → Areas T (done ++ p ∷ []) held l₀ c' l' r
areas_settle {T} {done} held {l₀} {c} {c'} {l} {l'} {n} {r} {i} {p} κ {ok} inside A free f e at O S = record {
  long = ap length S.cell ∙ length-set c i _ ∙ A.long;
  small = λ j. ⊎_elim (λ d. let a = cell_same j d in let b = settle_small x ok O.unsettled (A.small i) in omega arith) (λ d. let a = cell_other j d in let b = A.small j in omega arith) (eq_or j i);
  said = λ q h. ⊎_elim
      (λ d. subst (λ (y : Pair). verd (get_or c' (cell_at T.m y) 0) ≡ cond (listed y (done ++ p ∷ [])) (settled_as (truth_of T y).holds) 0) (sym (same_pair_lem q p d)) said_p)
      (λ d. ap verd (cell_other _ (apart q h d)) ∙ A.said q h ∙ rw (listed_other done p q d))
      (decide (same_pair q p));
  shown = λ q k h ch. ⊎_elim
      (λ d. subst (λ (y : Pair). Kid T y.row k → column T.m c' y.rule k ≡ cond (listed y (done ++ p ∷ [])) ((truth_of T y).marks k) (held y k)) (sym (same_pair_lem q p d)) (shown_p k) ch)
      (λ d. bits _ ∙ A.shown q k h ch ∙ rw (listed_other done p q d, overlay_other p q κ held k d))
      (decide (same_pair q p));
  top = λ s h. bits s ∙ A.top s h;
  lists = S.entry ∙ listing;
  counts = S.one_more ∙ ap (λ (y : ℕ). y + 1) A.counts ∙ sym (length-append done (p ∷ []));
  counted = ap shown S.cell ∙ settled_set c i (x + settled_as ok) O.in_cells O.unsettled (λ z. settled_as_some ok (sym (verd_settle x ok O.unsettled) ∙ z)) ∙ ap (λ (y : ℕ). y + 1) A.counted ∙ sym S.one_more;
}
  where
    x : ℕ
    x = get_or c i 0

    cell_same : (j : ℕ) → j ≡ i → get_or c' j 0 ≡ x + settled_as ok
    cell_same j d = ap (λ (y : ℕ). get_or c' y 0) d ∙ ap (λ (y : List ℕ). get_or y i 0) S.cell ∙ get_or-set_same c i (x + settled_as ok) 0 O.in_cells

    cell_other : (j : ℕ) → (j ≡ i → ⊥) → get_or c' j 0 ≡ get_or c j 0
    cell_other j d = ap (λ (y : List ℕ). get_or y j 0) S.cell ∙ get_or-set_other c i j (x + settled_as ok) 0 d

    bits : (j : ℕ) → bit (get_or c' j 0) ≡ bit (get_or c j 0)
    bits j = ⊎_elim (λ d. ap bit (cell_same j d) ∙ bit_settle x ok O.unsettled ∙ ap (λ (y : ℕ). bit (get_or c y 0)) (sym d)) (λ d. ap bit (cell_other j d)) (eq_or j i)

    apart : (q : Pair) → InCase T q → same_pair q p ≡ false → cell_at T.m q ≡ i → ⊥
    apart q h d z = true≢false (sym (together q p (same_row T.m q.row q.rule p.row p.rule h.rule_in inside.rule_in (z ∙ at)) (same_rule T.m q.row q.rule p.row p.rule h.rule_in inside.rule_in (z ∙ at))) ∙ d)

    said_p : verd (get_or c' (cell_at T.m p) 0) ≡ cond (listed p (done ++ p ∷ [])) (settled_as (truth_of T p).holds) 0
    said_p = ap verd (cell_same _ (sym at)) ∙ verd_settle x ok O.unsettled ∙ ap settled_as e ∙ sym (rw (listed_last done p))

    shown_p : (k : ℕ) → Kid T p.row k → column T.m c' p.rule k ≡ cond (listed p (done ++ p ∷ [])) ((truth_of T p).marks k) (held p k)
    shown_p k ch = bits _ ∙ A.shown p k inside ch ∙ rw (free, listed_last done p) (overlay_self p κ held k ∙ f k ch)

    listing : set l n i ≡ written (map (cell_at T.m) (done ++ p ∷ [])) l₀
    listing =
        let z : n ≡ length (map (cell_at T.m) done) = A.counts ∙ sym (length-map done (cell_at T.m)) in
        ap (λ (y : List ℕ). set y n i) A.lists
        ∙ ap (λ (y : ℕ). set (written (map (cell_at T.m) done) l₀) y i) z
        ∙ written_one (map (cell_at T.m) done) l₀ i
        ∙ ap (λ (y : List ℕ). written y l₀) (ap (λ (y : ℕ). map (cell_at T.m) done ++ y ∷ []) at ∙ sym (map_append (cell_at T.m) done (p ∷ [])))

-- the rows of the children of a row, in the cells
pub areas_writes : {T : Case} {done : List Pair} {held : Pair → Marks} {l₀ c l : List ℕ} {n : ℕ} {p : Pair} → Areas T done held l₀ c l n → Fits T → InCase T p → Writes T.m (first_kid T p) (kid_count T p) p.rule p.rule c
areas_writes {T} {p = p} A fit i = record {
  rule_in = i.rule_in;
  from_in = i.rule_in;
  rows_in = λ k a b. let z = fit.rows.child_inside p.row k i.row_in (record { after = a; within = b }) in let w = row_inside T.n T.m k z in let e = A.long in omega arith;
}
