-- What the first n steps come to, from their end and from their start.
--     picked_first, picked_same, picked_none     the pairs picked, by the first step; by tests and aims that agree; none
--     kept_picked, run_picked            some of a run of rows, and all of it
--     done_picked                        settling them in turn
--     count_hits, all_hits, any_count     what their verdicts say, by the number of hits
--     unions_marks, these_marks, held_marks, marks_later     their marks
--     tally_told, tally_misses, tally_hits, tally_few        what is carried: by the steps that went, steps that fail, steps that hold, never more than there were
--     three_picked, some_picked, holding_picked  a condition with its branch; those of a list that pass a test; those that hold
-- Assumes nothing.
use mathlib.Core.Bool.{Bool, true, false, not, ◌&&◌, ◌||◌, cond, or_assoc}
use mathlib.Core.List.{List, [], ◌∷◌, ◌++◌, map, append-nil, append_assoc}
use mathlib.Core.Logic.{◌⊎◌, inl, inr, ⊎_elim}
use mathlib.Core.Path.{◌≡◌, refl, sym, ap, ◌∙◌}
use Prim.Native.Nat.{ℕ, zero, suc, ◌+◌, ◌<◌, ◌≤◌}
use native.Mathlib.Omega.{arith}
use lib.Dec.{eqb, ltb}
use lib.ListN.{length, get_or}
use borrow.Author.Tests.{eqb-true, eqb-false, eq-eqb, ne_eqb, lt-ltb}
use Rattle.laws.proofs.Tests.{decide}
use Rattle.meaning.specs.Lists.{all, any, count, range, elem, keep, concat_map}
use Rattle.meaning.specs.Rules.{Pair, Marks, nothing, ◌∪◌, these, Result, unions, verdicts, holding}
use Rattle.meaning.specs.Settling.{in_turn}
use Rattle.areas.specs.Cells.{plus}
use Rattle.plan.specs.Plan.{moved}
use Rattle.plan.specs.Folds.{picked, tally_by, hits_by, gives, marks_by, done_by}

-- ---- lists by their end

pub map_append : {A B : Type 0} (f : A → B) (xs ys : List A) → map f (xs ++ ys) ≡ map f xs ++ map f ys
map_append f [] ys = refl
map_append f (x ∷ xs) ys = ap (λ l. f x ∷ l) (map_append f xs ys)

pub and_assoc : (a b c : Bool) → ((a && b) && c) ≡ (a && (b && c))
and_assoc true b c = refl
and_assoc false b c = refl

pub or_no : (b : Bool) → (b || false) ≡ b
or_no true = refl
or_no false = refl

all_append : (xs ys : List Bool) → all (xs ++ ys) ≡ (all xs && all ys)
unfolding all
all_append [] ys = refl
all_append (x ∷ xs) ys = ap (λ b. x && b) (all_append xs ys) ∙ sym (and_assoc x (all xs) (all ys))

count_last : (xs : List Bool) (b : Bool) → count (xs ++ b ∷ []) ≡ plus (count xs) b
unfolding count plus
count_last [] true = refl
count_last [] false = refl
count_last (true ∷ xs) true = omega (arith, count_last xs true)
count_last (true ∷ xs) false = ap suc (count_last xs false)
count_last (false ∷ xs) b = count_last xs b

unions_append : (xs ys : List Result) (k : ℕ) → unions (xs ++ ys) k ≡ (unions xs k || unions ys k)
unfolding unions nothing ◌∪◌
unions_append [] ys k = refl
unions_append (x ∷ xs) ys k = ap (λ b. x.marks k || b) (unions_append xs ys k) ∙ sym (or_assoc (x.marks k) (unions xs k) (unions ys k))

pub elem_append : (k : ℕ) (xs ys : List ℕ) → elem k (xs ++ ys) ≡ (elem k xs || elem k ys)
unfolding elem
elem_append k [] ys = refl
elem_append k (x ∷ xs) ys = rw (elem_append k xs ys) (sym (or_assoc (eqb k x) (elem k xs) (elem k ys)))

-- ---- the pairs picked

pub picked_first : (go : ℕ → Bool) (aim : ℕ → Pair) (n : ℕ)
    → picked go aim (suc n) ≡ cond (go 0) (aim 0 ∷ []) [] ++ picked (λ i. go (suc i)) (λ i. aim (suc i)) n
unfolding picked
picked_first go aim zero = sym (append-nil _)
picked_first go aim (suc n) =
    ap (λ l. l ++ cond (go (suc n)) (aim (suc n) ∷ []) []) (picked_first go aim n)
    ∙ append_assoc (cond (go 0) (aim 0 ∷ []) []) (picked (λ i. go (suc i)) (λ i. aim (suc i)) n) (cond (go (suc n)) (aim (suc n) ∷ []) [])

pub picked_same : (go go' : ℕ → Bool) (aim aim' : ℕ → Pair) (n : ℕ) → ((i : ℕ) → i < n → go i ≡ go' i) → ((i : ℕ) → i < n → aim i ≡ aim' i)
    → picked go aim n ≡ picked go' aim' n
unfolding picked
picked_same go go' aim aim' zero f g = refl
picked_same go go' aim aim' (suc n) f g =
    rw (picked_same go go' aim aim' n (λ i h. f i (omega arith)) (λ i h. g i (omega arith)), f n (omega arith), g n (omega arith))

pub picked_none : (go : ℕ → Bool) (aim : ℕ → Pair) (n : ℕ) → ((i : ℕ) → i < n → go i ≡ false) → picked go aim n ≡ []
unfolding picked
picked_none go aim zero f = refl
picked_none go aim (suc n) f = rw (picked_none go aim n (λ i h. f i (omega arith)), f n (omega arith))

-- those of a run of rows that pass a test
pub kept_picked : (f : ℕ → Pair) (g : ℕ → Bool) (n x : ℕ) → map f (keep g (range x n)) ≡ picked (λ i. g (x + i)) (λ i. f (x + i)) n
unfolding picked range keep
kept_picked f g zero x = refl
kept_picked f g (suc n) x =
    let z : x + 0 ≡ x = omega arith in
    taken (g x) (kept_picked f g n (suc x)
    ∙ picked_same (λ i. g (suc x + i)) (λ i. g (x + suc i)) (λ i. f (suc x + i)) (λ i. f (x + suc i)) n
    (λ i h. let e : suc x + i ≡ x + suc i = omega arith in rw e) (λ i h. let e : suc x + i ≡ x + suc i = omega arith in rw e))
    ∙ sym (rw (picked_first (λ i. g (x + i)) (λ i. f (x + i)) n, z))
  where
    taken : (b : Bool) → map f (keep g (range (suc x) n)) ≡ picked (λ i. g (x + suc i)) (λ i. f (x + suc i)) n
        → map f (cond b (x ∷ keep g (range (suc x) n)) (keep g (range (suc x) n))) ≡ cond b (f x ∷ []) [] ++ picked (λ i. g (x + suc i)) (λ i. f (x + suc i)) n
    taken true e = ap (λ l. f x ∷ l) e
    taken false e = e

-- all of a run of rows
pub run_picked : (f : ℕ → Pair) (n x : ℕ) → map f (range x n) ≡ picked (λ i. true) (λ i. f (x + i)) n
unfolding picked range
run_picked f zero x = refl
run_picked f (suc n) x =
    let z : x + 0 ≡ x = omega arith in
    ap (λ l. f x ∷ l)
    (run_picked f n (suc x)
    ∙ picked_same (λ i. true) (λ i. true) (λ i. f (suc x + i)) (λ i. f (x + suc i)) n (λ i h. refl)
    (λ i h. let e : suc x + i ≡ x + suc i = omega arith in rw e))
    ∙ sym (rw (picked_first (λ i. true) (λ i. f (x + i)) n, z))

-- ---- settling

pub turn_append : (f : Pair → List Pair → List Pair) (xs ys d : List Pair) → in_turn f (xs ++ ys) d ≡ in_turn f ys (in_turn f xs d)
unfolding in_turn
turn_append f [] ys d = refl
turn_append f (x ∷ xs) ys d = turn_append f xs ys (f x d)

turn_one : (f : Pair → List Pair → List Pair) (b : Bool) (q : Pair) (d : List Pair) → in_turn f (cond b (q ∷ []) []) d ≡ cond b (f q d) d
unfolding in_turn
turn_one f true q d = refl
turn_one f false q d = refl

pub done_picked : (f : Pair → List Pair → List Pair) (go : ℕ → Bool) (aim : ℕ → Pair) (d : List Pair) (n : ℕ)
    → in_turn f (picked go aim n) d ≡ done_by f go aim d n
unfolding picked done_by in_turn
done_picked f go aim d zero = refl
done_picked f go aim d (suc i) =
    turn_append f (picked go aim i) _ d ∙ rw (done_picked f go aim d i) (turn_one f (go i) (aim i) (done_by f go aim d i))

-- ---- verdicts

pub eq_or : (i k : ℕ) → (i ≡ k) ⊎ (i ≡ k → ⊥)
eq_or i k = ⊎_elim (λ e. inl (eqb-true i k e)) (λ e. inr (eqb-false i k e)) (decide (eqb i k))

module _ (sub : Pair → Result) (aim : ℕ → Pair) where
  verdicts_more : (go : ℕ → Bool) (n : ℕ)
      → verdicts (map sub (picked go aim (suc n))) ≡ verdicts (map sub (picked go aim n)) ++ cond (go n) ((sub (aim n)).holds ∷ []) []
  unfolding picked verdicts
  verdicts_more go n =
      ap (λ l. map (λ (r : Result). r.holds) l) (map_append sub (picked go aim n) (cond (go n) (aim n ∷ []) []))
      ∙ map_append (λ (r : Result). r.holds) (map sub (picked go aim n)) (map sub (cond (go n) (aim n ∷ []) []))
      ∙ ap (λ l. map (λ (r : Result). r.holds) (map sub (picked go aim n)) ++ l) (last (go n))
    where
      last : (b : Bool) → map (λ (r : Result). r.holds) (map sub (cond b (aim n ∷ []) [])) ≡ cond b ((sub (aim n)).holds ∷ []) []
      last true = refl
      last false = refl

  pub count_hits : (n : ℕ) → count (verdicts (map sub (picked (λ i. true) aim n))) ≡ hits_by sub (λ i. true) aim n
  unfolding hits_by count verdicts picked
  count_hits zero = refl
  count_hits (suc n) =
      ap count (verdicts_more (λ i. true) n)
      ∙ count_last (verdicts (map sub (picked (λ i. true) aim n))) (sub (aim n)).holds
      ∙ ap (λ x. plus x (sub (aim n)).holds) (count_hits n)

  pub hits_le : (go : ℕ → Bool) (n : ℕ) → hits_by sub go aim n ≤ n
  unfolding hits_by plus
  hits_le go zero = omega arith
  hits_le go (suc n) = up (not (go n) || (sub (aim n)).holds) (hits_le go n)
    where
      up : (b : Bool) → hits_by sub go aim n ≤ n → plus (hits_by sub go aim n) b ≤ suc n
      up true h = omega arith
      up false h = omega arith

  all_step : (go h : Bool) (x n : ℕ) → x ≤ n → (eqb x n && all (cond go (h ∷ []) [])) ≡ eqb (plus x (not go || h)) (suc n)
  unfolding plus all
  all_step true true x n l =
      ⊎_elim (λ (e : x ≡ n). rw (eq-eqb x n e) (sym (eq-eqb (x + 1) (suc n) (omega arith))))
      (λ (e : x ≡ n → ⊥). rw (ne_eqb x n e) (sym (ne_eqb (x + 1) (suc n) (λ z. e (omega arith)))))
      (eq_or x n)
  all_step true false x n l =
      ⊎_elim (λ (e : x ≡ n). rw (eq-eqb x n e) (sym (ne_eqb x (suc n) (λ z. omega arith))))
      (λ (e : x ≡ n → ⊥). rw (ne_eqb x n e) (sym (ne_eqb x (suc n) (λ z. omega arith))))
      (eq_or x n)
  all_step false h x n l =
      ⊎_elim (λ (e : x ≡ n). rw (eq-eqb x n e) (sym (eq-eqb (x + 1) (suc n) (omega arith))))
      (λ (e : x ≡ n → ⊥). rw (ne_eqb x n e) (sym (ne_eqb (x + 1) (suc n) (λ z. e (omega arith)))))
      (eq_or x n)

  pub all_hits : (go : ℕ → Bool) (n : ℕ) → all (verdicts (map sub (picked go aim n))) ≡ eqb (hits_by sub go aim n) n
  unfolding hits_by all verdicts picked
  all_hits go zero = refl
  all_hits go (suc n) =
      ap all (verdicts_more go n)
      ∙ all_append (verdicts (map sub (picked go aim n))) (cond (go n) ((sub (aim n)).holds ∷ []) [])
      ∙ rw (all_hits go n) (all_step (go n) (sub (aim n)).holds (hits_by sub go aim n) n (hits_le go n))

  -- ---- marks

  pub unions_marks : (p : Pair) (go : ℕ → Bool) (κ : Marks) (k n : ℕ) → ((i : ℕ) → i < n → (aim i).row ≡ p.row)
      → (κ k || unions (map sub (picked go aim n)) k) ≡ marks_by sub p true go aim κ n k
  unfolding marks_by gives unions nothing ◌∪◌ picked
  unions_marks p go κ k zero f = or_no (κ k)
  unions_marks p go κ k (suc n) f =
      ap (λ l. κ k || unions l k) (map_append sub (picked go aim n) (cond (go n) (aim n ∷ []) []))
      ∙ ap (λ b. κ k || b) (unions_append (map sub (picked go aim n)) (map sub (cond (go n) (aim n ∷ []) [])) k)
      ∙ sym (or_assoc (κ k) (unions (map sub (picked go aim n)) k) _)
      ∙ rw (unions_marks p go κ k n (λ i h. f i (omega arith))) (ap (λ b. marks_by sub p true go aim κ n k || b) (last (go n)))
    where
      last : (b : Bool) → unions (map sub (cond b (aim n ∷ []) [])) k ≡ (b && cond (eqb (aim n).row p.row) ((sub (aim n)).marks k) (eqb k (aim n).row))
      last true = rw (eq-eqb (aim n).row p.row (f n (omega arith))) (or_no ((sub (aim n)).marks k))
      last false = refl

  -- where every pair that is applied is of another row
  pub these_marks : (p : Pair) (go : ℕ → Bool) (κ : Marks) (k n : ℕ) → ((i : ℕ) → i < n → go i ≡ true → (aim i).row ≡ p.row → ⊥)
      → (κ k || these (map (λ (q : Pair). q.row) (picked go aim n)) k) ≡ marks_by sub p true go aim κ n k
  unfolding marks_by gives these elem picked
  these_marks p go κ k zero f = or_no (κ k)
  these_marks p go κ k (suc n) f =
      ap (λ l. κ k || elem k l) (map_append (λ (q : Pair). q.row) (picked go aim n) (cond (go n) (aim n ∷ []) []))
      ∙ ap (λ b. κ k || b) (elem_append k (map (λ (q : Pair). q.row) (picked go aim n)) (map (λ (q : Pair). q.row) (cond (go n) (aim n ∷ []) [])))
      ∙ sym (or_assoc (κ k) (elem k (map (λ (q : Pair). q.row) (picked go aim n))) _)
      ∙ rw (these_marks p go κ k n (λ i h. f i (omega arith))) (ap (λ b. marks_by sub p true go aim κ n k || b) (last (go n) (f n (omega arith))))
    where
      last : (b : Bool) → (b ≡ true → (aim n).row ≡ p.row → ⊥)
          → elem k (map (λ (q : Pair). q.row) (cond b (aim n ∷ []) [])) ≡ (b && cond (eqb (aim n).row p.row) ((sub (aim n)).marks k) (eqb k (aim n).row))
      last true h = rw (ne_eqb (aim n).row p.row (h refl)) (or_no (eqb k (aim n).row))
      last false h = refl

  -- a row that no step before n aims at is not marked by them
  pub marks_later : (p : Pair) (keeps : Bool) (go : ℕ → Bool) (κ : Marks) (k n : ℕ) → ((i : ℕ) → i < n → ((aim i).row ≡ p.row → ⊥) × (k ≡ (aim i).row → ⊥))
      → marks_by sub p keeps go aim κ n k ≡ κ k
  unfolding marks_by gives
  marks_later p keeps go κ k zero f = refl
  marks_later p keeps go κ k (suc n) f =
      let z = f n (omega arith) in
      rw (marks_later p keeps go κ k n (λ i h. f i (omega arith)), ne_eqb (aim n).row p.row z.0, ne_eqb k (aim n).row z.1) (no (κ k) (go n) (keeps || (sub (aim n)).holds))
    where
      no : (a b c : Bool) → (a || (b && (c && false))) ≡ a
      no true b c = refl
      no false true true = refl
      no false true false = refl
      no false false c = refl

  -- where those that fail give nothing, those that hold are all that are applied
  pub held_marks : (p : Pair) (κ : Marks) (k n : ℕ) → marks_by sub p true (λ i. (sub (aim i)).holds) aim κ n k ≡ marks_by sub p false (λ i. true) aim κ n k
  unfolding marks_by
  held_marks p κ k zero = refl
  held_marks p κ k (suc n) = ap (λ b. b || ((sub (aim n)).holds && gives sub p (aim n) k)) (held_marks p κ k n)

  holding_append : (xs ys : List Pair) → holding (xs ++ ys) (map sub (xs ++ ys)) ≡ holding xs (map sub xs) ++ holding ys (map sub ys)
  unfolding holding
  holding_append [] ys = refl
  holding_append (x ∷ xs) ys = pick (sub x).holds (holding_append xs ys)
    where
      pick : (b : Bool) → holding (xs ++ ys) (map sub (xs ++ ys)) ≡ holding xs (map sub xs) ++ holding ys (map sub ys)
          → cond b (x ∷ holding (xs ++ ys) (map sub (xs ++ ys))) (holding (xs ++ ys) (map sub (xs ++ ys))) ≡ cond b (x ∷ holding xs (map sub xs)) (holding xs (map sub xs)) ++ holding ys (map sub ys)
      pick true e = ap (λ l. x ∷ l) e
      pick false e = e

  pub holding_picked : (n : ℕ) → holding (picked (λ i. true) aim n) (map sub (picked (λ i. true) aim n)) ≡ picked (λ i. (sub (aim i)).holds) aim n
  unfolding picked holding
  holding_picked zero = refl
  holding_picked (suc n) = holding_append (picked (λ i. true) aim n) (aim n ∷ []) ∙ rw (holding_picked n)

  -- ---- what is carried

  -- the steps that went tell it
  pub tally_told : (go : ℕ → ℕ → Bool) (move : ℕ → ℕ → Bool → ℕ) (n : ℕ) → tally_by sub go aim move n ≡ tally_by sub (λ i t. go i (tally_by sub go aim move i)) aim move n
  unfolding tally_by
  tally_told go move zero = refl
  tally_told go move (suc n) = ap (λ (t : ℕ). cond (go n (tally_by sub go aim move n)) (move n t (sub (aim n)).holds) t) (tally_told go move n)

  -- of a clause that counts the steps that fail
  pub tally_misses : (go : ℕ → Bool) (n : ℕ) → hits_by sub go aim n + tally_by sub (λ i t. go i) aim (moved false false) n ≡ n
  unfolding hits_by tally_by moved plus
  tally_misses go zero = refl
  tally_misses go (suc n) = step (go n) (sub (aim n)).holds (hits_by sub go aim n) (tally_by sub (λ i t. go i) aim (moved false false) n) (tally_misses go n)
    where
      step : (g h : Bool) (x y : ℕ) → x + y ≡ n → plus x (not g || h) + cond g (cond h y (y + 1)) y ≡ suc n
      step true true x y e = omega arith
      step true false x y e = omega arith
      step false h x y e = omega arith

  -- of one that counts those that hold
  pub tally_hits : (n : ℕ) → tally_by sub (λ i t. true) aim (moved true false) n ≡ hits_by sub (λ i. true) aim n
  unfolding hits_by tally_by moved plus
  tally_hits zero = refl
  tally_hits (suc n) = step (sub (aim n)).holds (tally_hits n)
    where
      step : (h : Bool) {x y : ℕ} → x ≡ y → cond h (x + 1) x ≡ plus y h
      step true e = ap (λ z. z + 1) e
      step false e = e

  pub tally_few : (go : ℕ → ℕ → Bool) (hits branch : Bool) (n : ℕ) → tally_by sub go aim (moved hits branch) n ≤ n
  unfolding tally_by moved
  tally_few go hits branch zero = omega arith
  tally_few go hits branch (suc n) = step (go n (tally_by sub go aim (moved hits branch) n)) hits branch (sub (aim n)).holds (tally_by sub go aim (moved hits branch) n) (tally_few go hits branch n)
    where
      fails : (b : Bool) (t : ℕ) → t ≤ n → cond b (cond (eqb n 0) 1 2) (t + 1) ≤ suc n
      fails false t h = omega arith
      fails true t h = ⊎_elim (λ (z : n ≡ 0). rw (eq-eqb n 0 z) (omega arith)) (λ (z : n ≡ 0 → ⊥). rw (ne_eqb n 0 z) (some z)) (eq_or n 0)
        where
          some : (n ≡ 0 → ⊥) → 2 ≤ suc n
          some z = omega arith

      step : (g c b h : Bool) (t : ℕ) → t ≤ n → cond g (cond c (cond h (t + 1) t) (cond h t (cond b (cond (eqb n 0) 1 2) (t + 1)))) t ≤ suc n
      step false c b h t l = omega arith
      step true true b true t l = omega arith
      step true true b false t l = omega arith
      step true false b true t l = omega arith
      step true false b false t l = fails b t l

-- ---- a condition and its branch, and some of a list

pub three_picked : (go : ℕ → Bool) (aim : ℕ → Pair) (h : Bool) → go 0 ≡ true → go 1 ≡ h → go 2 ≡ not h → picked go aim 3 ≡ aim 0 ∷ aim (cond h 1 2) ∷ []
unfolding picked
three_picked go aim true a b c = rw (a, b, c)
three_picked go aim false a b c = rw (a, b, c)

pub some_picked : {A : Type 0} (f : A → Pair) (t : A → Bool) (xs : List A) (d : A)
    → concat_map (λ x. cond (t x) (f x ∷ []) []) xs ≡ picked (λ i. t (get_or xs i d)) (λ i. f (get_or xs i d)) (length xs)
unfolding picked concat_map
some_picked f t [] d = refl
some_picked f t (x ∷ xs) d =
    ap (λ l. cond (t x) (f x ∷ []) [] ++ l) (some_picked f t xs d) ∙ sym (picked_first (λ i. t (get_or (x ∷ xs) i d)) (λ i. f (get_or (x ∷ xs) i d)) (length xs))

-- ---- what verdicts say, by how many hold

pub any_count : (bs : List Bool) → any bs ≡ ltb 0 (count bs)
unfolding any count
any_count [] = refl
any_count (true ∷ bs) = sym (lt-ltb 0 (suc (count bs)) (omega arith))
any_count (false ∷ bs) = any_count bs

pub not_some : (x : ℕ) → not (ltb 0 x) ≡ eqb x 0
not_some zero = refl
not_some (suc x) = rw (lt-ltb 0 (suc x) (omega arith), ne_eqb (suc x) 0 (λ z. omega arith))
