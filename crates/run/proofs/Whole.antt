-- The whole run: from cleared cells to the specification's cells, list and marked count.
--     fresh_ready       the root pair can be applied where the cells are cleared
--     judged_all        what is left once it was
--     part_exact, part_judged     the same in longer areas, of which the run takes the first n × m places
-- Assumes nothing.
use mathlib.Core.Bool.{Bool, true, false, ◌&&◌, cond}
use mathlib.Core.List.{List, [], ◌∷◌, ◌++◌, map, append_assoc, append-nil}
use mathlib.Core.Logic.{⊎_elim}
use mathlib.Core.Path.{◌≡◌, refl, sym, ap, ◌∙◌}
use Prim.Native.Nat.{ℕ, zero, suc, ◌+◌, ◌*◌, ◌-◌, ◌<◌, ◌≤◌}
use native.Mathlib.Omega.{arith}
use lib.Dec.{eqb, ltb}
use lib.ListN.{length, get_or, take, drop, length-map, length-drop, take-append-drop}
use lib.Seq.{ext_get_or, length-take-le}
use borrow.Author.Tests.{lt-ltb, le-ltb}
use Rattle.laws.proofs.Tests.{le_or_lt}
use Rattle.meaning.specs.Lists.{range, keep}
use Rattle.sheet.specs.Doc.{Doc}
use Rattle.rulesheet.specs.Ruleset.{Ruleset}
use Rattle.meaning.specs.Rules.{Pair, Way, whole, cut}
use Rattle.meaning.specs.Fit.{Fit}
use Rattle.meaning.specs.Settling.{listed, root, settled, word, list, cell, cells, marked}
use Rattle.meaning.specs.Answer.{Left, verdict, list_room, list_left, judged}
use Rattle.meaning.proofs.Trees.{once}
use Rattle.meaning.proofs.Rows.{by_rows}
use Rattle.areas.specs.Cells.{Unsettled, cell_of, verd, bit, four, settled_as, column, marked_by, Cleared, cell_at}
use Rattle.areas.specs.Writers.{Writes}
use Rattle.areas.proofs.Cells.{settled_as_read, whole as both_parts, zero_verd, zero_bit, settled_blank}
use Rattle.run.specs.declared.Verdict.{Verdict}
use Rattle.lent.specs.Lent.{Case, pair, Fits, InCase, first_kid, kid_count}
use Rattle.progress.specs.State.{truth_of, settle_of, bits_of, written, Areas, Quiet, Ready, Judged}
use Rattle.run.specs.Whole.{Exact, Fresh, Roomy, left_by, judged_of}
use Rattle.progress.proofs.Pairs.{settle_self}
use Rattle.progress.proofs.State.{written_room, written_none, areas_marks, areas_writes}
use Rattle.progress.proofs.Going.{open_bits}

-- ---- the run begins

pub root_in : (T : Case) → Fits T → InCase T root
unfolding root
root_in T fit = record { row_in = fit.rows.some; rule_in = fit.some }

fresh_areas : {T : Case} {c l : List ℕ} → Fresh T c l → Areas T [] (bits_of T.m c) l c l 0
unfolding bits_of listed written
fresh_areas {T} {c} {l} F =
    record {
      long = F.exact.cells_long;
      counts = refl;
      counted = settled_blank c F.blank;
      small = λ i. let z = F.blank i in omega arith;
      said = λ p h. zero_verd _ (F.blank _);
      shown = λ p k h ch. refl;
      top = λ s h. zero_bit _ (F.blank s);
      lists = refl;
    }

pub fresh_ready : {T : Case} {c l : List ℕ} {t : ℕ} → Fresh T c l → Ready T t root c l 0
unfolding Quiet bits_of
fresh_ready {T} {c} {l} F =
    record {
      fit = F.exact.fit;
      inside = root_in T F.exact.fit;
      done = [];
      areas = fresh_areas F;
      quiet = λ q k h g e ch. zero_bit _ (F.blank _);
    }

pub cleared_fresh : {T : Case} {c₀ c l : List ℕ} → Exact T c₀ l → Cleared c₀ c → Fresh T c l
cleared_fresh a z =
    record {
      exact = record { fit = a.fit; cells_long = z.len ∙ a.cells_long; list_long = a.list_long };
      blank = z.blank;
    }

-- ---- the cells

or_four : (j : ℕ) (L M : Bool) (x : ℕ) → 0 < j → bit x ≡ cond L M false → four (bit x) ≡ cond (ltb 0 j && L && M) 4 0
unfolding four
or_four j true M x h e = rw (e, lt-ltb 0 j h)
or_four j false M x h e = rw (e, lt-ltb 0 j h)

no_four : (j : ℕ) (L M : Bool) (x : ℕ) → j ≤ 0 → bit x ≡ false → four (bit x) ≡ cond (ltb 0 j && L && M) 4 0
unfolding four
no_four j L M x h e = rw (e, le-ltb 0 j h)

top_row : (j m s : ℕ) → j ≤ 0 → cell_of m j s ≡ s
top_row j m s h = let z : j ≡ 0 = omega arith in rw z (omega arith)

celled_at : {T : Case} {done : List Pair} {c₀ l₀ c l : List ℕ} {n : ℕ} → Fresh T c₀ l₀ → Areas T done (bits_of T.m c₀) l₀ c l n
    → (j s : ℕ) → j < T.n → s < T.m → get_or c (cell_of T.m j s) 0 ≡ cell T.doc T.rules T.n T.m done (record { row = j; rule = s })
unfolding cell bits_of settled_as
celled_at {T} {done} {c₀} {c = c} F A j s h g =
    let x = get_or c (cell_of T.m j s) 0 in
    let up : Pair = record { row = T.doc.owner j; rule = s } in
    let own : Pair = record { row = j; rule = s } in
    let a : verd x ≡ cond (listed own done) (settled_as (truth_of T own).holds) 0 = A.said own (record { row_in = h; rule_in = g }) in
    let b : four (bit x) ≡ cond (ltb 0 j && listed up done && (truth_of T up).marks j) 4 0 =
    ⊎_elim
    (λ (z : j ≤ 0). no_four j (listed up done) ((truth_of T up).marks j) x z (ap (λ (y : ℕ). bit (get_or c y 0)) (top_row j T.m s z) ∙ A.top s g))
    (λ (z : 0 < j).
    let before = F.exact.fit.rows.owner_before j z h in
    or_four j (listed up done) ((truth_of T up).marks j) x z
    (A.shown up j (record { row_in = omega arith; rule_in = g }) (F.exact.fit.rows.placed j z h)
    ∙ ap (cond (listed up done) ((truth_of T up).marks j)) (zero_bit _ (F.blank _))))
    (le_or_lt j 0) in
    both_parts x (A.small _) ∙ rw (a, b)

kept_same : (g h : ℕ → Bool) (x n : ℕ) → ((k : ℕ) → x ≤ k → k < x + n → g k ≡ h k) → keep g (range x n) ≡ keep h (range x n)
unfolding keep range
kept_same g h x zero f = refl
kept_same g h x (suc n) f = rw (f x (omega arith) (omega arith), kept_same g h (suc x) n (λ k a b. f k (omega arith) (omega arith)))

-- the places of a part, and then those after it
drop_part : (i k : ℕ) (l : List ℕ) → i ≤ k → k ≤ length l → drop i (take k l) ++ drop k l ≡ drop i l
drop_part zero k l h g = take-append-drop k l
drop_part (suc i) zero l h g = absurd (omega arith)
drop_part (suc i) (suc k) [] h g = absurd (omega arith)
drop_part (suc i) (suc k) (x ∷ l) h g = drop_part i k l (omega arith) (omega arith)

-- ---- the list

module _ (D : Doc) (R : Ruleset) (n m : ℕ) (fit : Fit D R n m) where
  list_left_lem : (w : Way) (l : List ℕ) → length l ≡ list_room w (n * m) → written (map (cell_at m) (settled D R w)) l ≡ list_left w D R n m l
  unfolding list word
  list_left_lem whole l e =
      let k = length-map (settled D R whole) (cell_at m) in
      let few = (once D R n m fit).at_most in
      written_room (map (cell_at m) (settled D R whole)) l (omega arith) ∙ ap (λ (x : ℕ). map (cell_at m) (settled D R whole) ++ drop x l) k
  list_left_lem cut l e = written_none (map (cell_at m) (settled D R cut)) l e

  -- in a part of a longer list, and then what is after it
  list_part : (w : Way) (k : ℕ) (l : List ℕ) → k ≡ list_room w (n * m) → k ≤ length l → list_left w D R n m (take k l) ++ drop k l ≡ list_left w D R n m l
  list_part whole k l e room =
      let few = (once D R n m fit).at_most in
      append_assoc (list D R n m) (drop (length (settled D R whole)) (take k l)) (drop k l)
      ∙ ap (λ y. list D R n m ++ y) (drop_part (length (settled D R whole)) k l (omega arith) room)
  list_part cut k l e room = take-append-drop k l

-- ---- all that is left, in areas of exactly n × m places

verdict_by : (b b' : Bool) (n n' k k' : ℕ) → b ≡ b' → n ≡ n' → k ≡ k' → verdict b n k ≡ verdict b' n' k'
verdict_by b b' n n' k k' e f g = rw (e, f, g)

none_after : (k : ℕ) (l : List ℕ) → length l ≡ k → drop k l ≡ []
none_after k l e = ext_get_or 0 (drop k l) [] (length-drop k l ∙ (let z : length l - k ≡ 0 = omega arith in z)) (λ i h. absurd (none i h))
  where
    none : (i : ℕ) → i < length (drop k l) → ⊥
    none i h = let z = length-drop k l in omega arith

pub judged_all : {T : Case} {c₀ l₀ c l : List ℕ} {n : ℕ} (r : Verdict) {x y : ℕ} → Fresh T c₀ l₀ → Judged T root c₀ l₀ 0 c l n
    → r.ok ≡ (truth_of T root).holds → r.count ≡ n → x ≡ first_kid T root → y ≡ kid_count T root → r.marked ≡ marked_by T.m c x y
    → left_by r c l ≡ judged_of T c₀ l₀
unfolding judged settled settle_of cells marked_by marked root
judged_all {T} {c₀} {l₀} {c} {l} {n} r {x} {y} F j e f u v w =
    let A = j.areas [] (fresh_areas F) in
    let done = settle_of T root [] in
    let fit = F.exact.fit in
    let marks : r.marked ≡ marked T.doc T.rules T.n T.m =
    w
    ∙ rw (u, v)
    (ap length
    (kept_same (column T.m c 0) (truth_of T root).marks (first_kid T root) (kid_count T root)
    (λ k a b. open_bits T c root k (areas_marks A root k (root_in T fit) (record { after = a; within = b }) (settle_self T fit root []))))) in
    let cells_are : c ≡ cells T.doc T.rules T.n T.m T.way ++ drop (T.n * T.m) c₀ =
    by_rows (λ i s. cell T.doc T.rules T.n T.m done (record { row = i; rule = s })) T.m 0 T.n c A.long
    (λ i s h g. let z : 0 + i ≡ i = omega arith in rw z (celled_at F A i s h g))
    ∙ sym (rw (none_after (T.n * T.m) c₀ F.exact.cells_long) (append-nil _)) in
    let answers : verdict r.ok r.count r.marked ≡ verdict (truth_of T root).holds (length done) (marked T.doc T.rules T.n T.m) =
    verdict_by _ _ _ _ _ _ e (f ∙ A.counts) marks in
    let list_is : l ≡ list_left T.way T.doc T.rules T.n T.m l₀ = A.lists ∙ list_left_lem T.doc T.rules T.n T.m fit T.way l₀ F.exact.list_long in
    λ i. record { answer = answers i; cells = cells_are i; list = list_is i }

-- ---- in longer areas

pub part_exact : {T : Case} {k q : ℕ} {c l : List ℕ} → k ≡ T.n * T.m → q ≡ list_room T.way k → Roomy T c l → Exact T (take k c) (take q l)
part_exact {T} {k} {q} {c} {l} e f a =
    let g : q ≡ list_room T.way (T.n * T.m) = f ∙ ap (list_room T.way) e in
    record {
      fit = a.fit;
      cells_long = length-take-le k c (let z = a.cells_long in omega arith) ∙ e;
      list_long = length-take-le q l (let z = a.list_long in omega arith) ∙ g;
    }

pub part_judged : {T : Case} {k q : ℕ} {c₀ l₀ c l : List ℕ} (r : Verdict) → k ≡ T.n * T.m → q ≡ list_room T.way k → Roomy T c₀ l₀
    → left_by r c l ≡ judged_of T (take k c₀) (take q l₀) → left_by r (c ++ drop k c₀) (l ++ drop q l₀) ≡ judged_of T c₀ l₀
unfolding judged
part_judged {T} {k} {q} {c₀} {l₀} {c} {l} r e f a h =
    let D = T.doc in
    let R = T.rules in
    let g : q ≡ list_room T.way (T.n * T.m) = f ∙ ap (list_room T.way) e in
    let room : k ≤ length c₀ = (let z = a.cells_long in omega arith) in
    let room' : q ≤ length l₀ = (let z = a.list_long in omega arith) in
    let none : drop (T.n * T.m) (take k c₀) ≡ [] = rw (← e) (none_after k (take k c₀) (length-take-le k c₀ room)) in
    let cs : c ++ drop k c₀ ≡ cells D R T.n T.m T.way ++ drop (T.n * T.m) c₀ =
    ap (λ (x : Left). x.cells ++ drop k c₀) h ∙ rw none (rw append-nil (ap (λ (i : ℕ). cells D R T.n T.m T.way ++ drop i c₀) e)) in
    let ls : l ++ drop q l₀ ≡ list_left T.way D R T.n T.m l₀ =
    ap (λ (x : Left). x.list ++ drop q l₀) h ∙ list_part D R T.n T.m a.fit T.way q l₀ g room' in
    let answers = ap (λ (x : Left). x.answer) h in
    λ i. record { answer = answers i; cells = cs i; list = ls i }

-- ---- the root pair, as the code names it

pub root_ready : {T : Case} {c l : List ℕ} {t : ℕ} → Fresh T c l → Ready T t (pair 0 0) c l 0
unfolding root
root_ready F = fresh_ready F

pub root_unsettled : {T : Case} {c l : List ℕ} → Fresh T c l → Unsettled T.m (pair 0 0) c
unfolding Unsettled
root_unsettled F = zero_verd _ (F.blank _)

-- what cells of exactly n × m places held before does not matter
same_left : (T : Case) (c c₀ l₀ : List ℕ) → length c ≡ T.n * T.m → length c₀ ≡ T.n * T.m → judged_of T c₀ l₀ ≡ judged_of T c l₀
unfolding judged
same_left T c c₀ l₀ a b =
    ap (λ rest. record { answer = verdict (truth_of T root).holds (length (settled T.doc T.rules T.way)) (marked T.doc T.rules T.n T.m); cells = cells T.doc T.rules T.n T.m T.way ++ rest; list = list_left T.way T.doc T.rules T.n T.m l₀ })
    (none_after (T.n * T.m) c₀ b ∙ sym (none_after (T.n * T.m) c a))

pub root_judged : {T : Case} {c₁ c₀ l₀ c l : List ℕ} {n z : ℕ} (r : Verdict) {x y k : ℕ} → Exact T c₁ l₀ → Fresh T c₀ l₀ → Judged T (pair 0 0) c₀ l₀ 0 c l n
    → z ≡ verd (get_or c (cell_at T.m (pair 0 0)) 0) → r.ok ≡ eqb z 1 → r.count ≡ n → x ≡ first_kid T (pair 0 0) → y ≡ kid_count T (pair 0 0) → k ≡ T.m → r.marked ≡ marked_by k c x y
    → left_by r c l ≡ judged_of T c₁ l₀
unfolding root
root_judged {T} {c₁} {c₀} {l₀} {c} {z = z} r {x} {y} E F j read e f u v m w =
    judged_all r F j (e ∙ settled_as_read (truth_of T (pair 0 0)).holds z (read ∙ j.settled)) f u v (w ∙ ap (λ (i : ℕ). marked_by i c x y) m) ∙ same_left T c₁ c₀ l₀ E.cells_long F.exact.cells_long

-- what is left is what the areas of a run show
pub root_areas : {T : Case} {c₀ l₀ c l : List ℕ} {n : ℕ} → Fresh T c₀ l₀ → Judged T (pair 0 0) c₀ l₀ 0 c l n → Areas T (settle_of T (pair 0 0) []) (bits_of T.m c₀) l₀ c l n
root_areas F j = j.areas [] (fresh_areas F)

pub root_writes : {T : Case} {c₀ l₀ c l : List ℕ} {n : ℕ} → Fresh T c₀ l₀ → Judged T (pair 0 0) c₀ l₀ 0 c l n → Fits T → Writes T.m (first_kid T (pair 0 0)) (kid_count T (pair 0 0)) 0 0 c
root_writes F j fit = areas_writes (j.areas [] (fresh_areas F)) fit (record { row_in = fit.rows.some; rule_in = fit.some })
