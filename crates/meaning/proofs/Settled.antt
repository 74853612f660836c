-- The settling list, for a record and rules that fit, whole or cut, by the pairs that each pair applies; `Trees` says the same of derivations.
--     listed_in, in_listed                the test of the list is membership
--     all_distinct                        no pair stands in it twice
--     reached_listed, listed_reached      it holds each pair that is reached from the root, and no other
--     all_ordered                         each pair stands after those that it applies
--     all_inside, all_few                 its pairs are of the n × m, and at most so many
--     words_distinct                      no word stands in it twice
--     settle_is                           settling is its own equation, with no depth in it
-- Assumes nothing.
use mathlib.Core.Bool.{Bool, true, false, ◌&&◌, ◌||◌, cond, true≢false, or-true}
use mathlib.Core.List.Memᴰ.{head as at_head}
use mathlib.Core.List.Memᴰ.{tail as in_Tail}
use mathlib.Core.List.{List, [], ◌∷◌, ◌++◌, map, Memᴰ as In}
use mathlib.Core.List.Memᴰ
use mathlib.Core.Logic.{◌⊎◌, inl, inr, ⊎_elim, ⊎_map}
use mathlib.Core.Path.{◌≡◌, refl, sym, ap, ◌∙◌, subst}
use Prim.Native.Nat.{ℕ, zero, suc, ◌+◌, ◌*◌, ◌/◌, ◌%◌, ◌≤◌, ◌<◌}
use native.Mathlib.Nat.{not-suc-le-zero}
use native.Mathlib.Omega.{arith}
use lib.Dec.{eqb}
use lib.ListN.{length, length-map}
use borrow.Author.Tests.{eqb-true, eq-eqb}
use Rattle.laws.proofs.Tests.{decide, either, left, right}
use Rattle.sheet.specs.Doc.{Doc}
use Rattle.rulesheet.specs.Ruleset.{Ruleset}
use Rattle.meaning.specs.Rules.{Pair, Way, depth, applies}
use Rattle.meaning.specs.Settling.{same_pair, listed, in_turn, root, Reached, itself, further, settle, settled, word}
use Rattle.meaning.specs.Fit.{Fit, Inside, rank}
use Rattle.meaning.specs.Once.{Distinct}
use Rattle.meaning.proofs.Lists.{Every, every_nil, every_cons, every_map, every_in, in_every, every_image, by_test}
use Rattle.meaning.proofs.Words.{row_of, rule_of, word_inside}
use Rattle.meaning.proofs.Distinct.{distinct_last, distinct_image, few}
use Rattle.meaning.proofs.Steps.{deep}
use Rattle.meaning.proofs.Truth.{applies_fall, applies_inside}

-- ---- the test of the list is membership

pub same_pair_lem : (p q : Pair) → same_pair p q ≡ true → p ≡ q
unfolding same_pair
same_pair_lem p q h =
    let a = eqb-true p.row q.row (left (eqb p.row q.row) (eqb p.rule q.rule) h) in
    let b = eqb-true p.rule q.rule (right (eqb p.row q.row) (eqb p.rule q.rule) h) in
    λ i. record { row = a i; rule = b i }

pub self : (p : Pair) → same_pair p p ≡ true
unfolding same_pair
self p = rw (eq-eqb p.row p.row refl, eq-eqb p.rule p.rule refl)

pub listed_in : (q : Pair) (l : List Pair) → listed q l ≡ true → In q l
unfolding listed
listed_in q [] h = absurd (true≢false (sym h))
listed_in q (x ∷ xs) h = ⊎_elim (λ e. at_head (same_pair_lem q x e)) (λ e. in_Tail (listed_in q xs e)) (either (same_pair q x) (listed q xs) h)

pub in_listed : (q : Pair) {l : List Pair} → In q l → listed q l ≡ true
unfolding listed
in_listed q (at_head {x = x} e) = rw (← e, self q)
in_listed q (in_Tail i) = rw (in_listed q i, or-true)

pub not_listed : (q : Pair) (l : List Pair) → listed q l ≡ false → In q l → ⊥
not_listed q l e i = true≢false (sym (in_listed q i) ∙ e)

-- ---- a list with one more at its end

pub last_in : {A : Type 0} (xs : List A) (y : A) → In y (xs ++ y ∷ [])
last_in xs y = Memᴰ.append_right xs (at_head refl)

in_last : {A : Type 0} {x : A} (xs : List A) (y : A) → In x (xs ++ y ∷ []) → In x xs ⊎ (x ≡ y)
in_last xs y i = ⊎_map (λ j. j) (λ j. Memᴰ.eq_of_singleton j) (Memᴰ.append_cases xs i)

nothing_before : {A : Type 0} (xs ys : List A) (r : A) → [] ≡ xs ++ r ∷ ys → ⊥
nothing_before [] ys r e = let z : ◌≡◌ {A = ℕ} 0 (suc (length ys)) = ap length e in omega arith
nothing_before (x ∷ xs) ys r e = let z : ◌≡◌ {A = ℕ} 0 (suc (length (xs ++ r ∷ ys))) = ap length e in omega arith

-- where it can be parted
parted : {A : Type 0} (l xs ys : List A) (p r : A) → l ++ p ∷ [] ≡ xs ++ r ∷ ys → ((r ≡ p) × (xs ≡ l)) ⊎ ((zs : List A) × (l ≡ xs ++ r ∷ zs))
parted [] [] ys p r e = inl (heads e, refl)
  where
    heads : p ∷ [] ≡ r ∷ ys → r ≡ p
    heads f = cc
parted [] (x ∷ xs) ys p r e = absurd (nothing_before xs ys r (tails e))
  where
    tails : p ∷ [] ≡ x ∷ (xs ++ r ∷ ys) → [] ≡ xs ++ r ∷ ys
    tails f = cc
parted (a ∷ l) [] ys p r e = inr (l, heads e)
  where
    heads : a ∷ (l ++ p ∷ []) ≡ r ∷ ys → a ∷ l ≡ r ∷ l
    heads f = cc
parted {A} (a ∷ l) (x ∷ xs) ys p r e =
    ⊎_elim (λ h. inl (h.0, whole e h.1)) (λ h. inr (h.0, more e h.0 h.1)) (parted l xs ys p r (tails e))
  where
    tails : a ∷ (l ++ p ∷ []) ≡ x ∷ (xs ++ r ∷ ys) → l ++ p ∷ [] ≡ xs ++ r ∷ ys
    tails f = cc

    whole : a ∷ (l ++ p ∷ []) ≡ x ∷ (xs ++ r ∷ ys) → xs ≡ l → x ∷ xs ≡ a ∷ l
    whole f g = cc

    more : a ∷ (l ++ p ∷ []) ≡ x ∷ (xs ++ r ∷ ys) → (zs : List A) → l ≡ xs ++ r ∷ zs → a ∷ l ≡ x ∷ (xs ++ r ∷ zs)
    more f zs g = cc

-- each pair stands after all those that it applies
abbrev Ordered : Doc → Ruleset → Way → List Pair → Type 0
Ordered D R w l = (before after : List Pair) (p q : Pair) → l ≡ before ++ p ∷ after → In q (applies D R w p) → In q before

module _ (D : Doc) (R : Ruleset) (w : Way) where
  ordered_last : (l : List Pair) (p : Pair) → Ordered D R w l → ((q : Pair) → In q (applies D R w p) → In q l) → Ordered D R w (l ++ p ∷ [])
  ordered_last l p h all before after r q e i =
      ⊎_elim (λ s. rw s.1 (all q (rw (← s.0) i))) (λ s. h before s.0 r q s.1 i) (parted l before after p r e)

  -- ---- settling, by what the list shows

  abbrev turn : ℕ → List Pair → List Pair → List Pair
  turn f ps done = in_turn (λ q d. settle D R w f q d) ps done

  pub settle_cases : (f : ℕ) (p : Pair) (done : List Pair) (P : List Pair → Type 0)
      → (listed p done ≡ true → P done)
      → (listed p done ≡ false → P (turn f (applies D R w p) done ++ p ∷ []))
      → P (settle D R w (suc f) p done)
  unfolding settle
  settle_cases f p done P a b = by_test P (listed p done) done _ a b

  -- what is listed stays
  turn_kept : (f : ℕ) → ((p : Pair) (done : List Pair) (q : Pair) → In q done → In q (settle D R w f p done))
      → (ps done : List Pair) (q : Pair) → In q done → In q (turn f ps done)
  unfolding in_turn
  turn_kept f one [] done q h = h
  turn_kept f one (p ∷ ps) done q h = turn_kept f one ps (settle D R w f p done) q (one p done q h)

  pub kept : (f : ℕ) (p : Pair) (done : List Pair) (q : Pair) → In q done → In q (settle D R w f p done)
  unfolding settle
  kept zero p done q h = h
  kept (suc f) p done q h =
      settle_cases f p done (λ l. In q l) (λ e. h) (λ e. Memᴰ.append_left (p ∷ []) (turn_kept f (kept f) (applies D R w p) done q h))

  -- what is new is reached
  abbrev New : (Pair → Type 0) → List Pair → List Pair → Type 0
  New P done l = (q : Pair) → In q l → In q done ⊎ P q

  turn_new : (f : ℕ) (P : Pair → Type 0) {ps : List Pair} (done : List Pair)
      → Every (λ p. (d : List Pair) → New P d (settle D R w f p d)) ps → New P done (turn f ps done)
  unfolding in_turn
  turn_new f P done every_nil q h = inl h
  turn_new f P done (every_cons {x = p} one ls) q h = ⊎_elim (λ i. one done q i) (λ i. inr i) (turn_new f P (settle D R w f p done) ls q h)

  pub new : (f : ℕ) (p : Pair) (done : List Pair) → New (λ q. Reached D R w q p) done (settle D R w f p done)
  unfolding settle
  new zero p done = λ q h. inl h
  new (suc f) p done =
      settle_cases f p done (New (λ q. Reached D R w q p) done) (λ e q h. inl h)
      (λ e q h.
      ⊎_elim
      (λ i.
      turn_new f (λ x. Reached D R w x p) done
      (every_in _ (applies D R w p) (λ o j d x k. ⊎_map (λ y. y) (λ y. further j y) (new f o d x k))) q i)
      (λ i. inr (rw i itself))
      (in_last (turn f (applies D R w p) done) p h))

  module _ (n m : ℕ) (fit : Fit D R n m) where
    abbrev rk : Pair → ℕ
    rk = rank D R

    pub reached_low : {q p : Pair} → Reached D R w q p → rk q ≤ rk p
    reached_low itself = omega arith
    reached_low (further {p = p} {o = o} i r) = let l : rk o < rk p = in_every (applies_fall D R n m fit w p) i in omega (arith, reached_low r)

    reached_inside : {q p : Pair} → Reached D R w q p → Inside n m p → Inside n m q
    reached_inside itself h = h
    reached_inside (further {p = p} i r) h = reached_inside r (in_every (applies_inside D R n m fit w p h) i)

    -- a pair is not listed while those that it applies are settled
    not_yet : (f : ℕ) (p : Pair) (done : List Pair) → (In p done → ⊥) → In p (turn f (applies D R w p) done) → ⊥
    not_yet f p done out h =
        ⊎_elim out (λ (l : rk p < rk p). omega arith)
        (turn_new f (λ x. rk x < rk p) done
        (every_in _ (applies D R w p)
        (λ o j d x k. ⊎_map (λ y. y) (λ y. let l : rk o < rk p = in_every (applies_fall D R n m fit w p) j in omega (arith, reached_low y)) (new f o d x k))) p h)

    turn_distinct : (f : ℕ) → ((p : Pair) (done : List Pair) → Distinct done → Distinct (settle D R w f p done))
        → (ps done : List Pair) → Distinct done → Distinct (turn f ps done)
    unfolding in_turn
    turn_distinct f one [] done d = d
    turn_distinct f one (p ∷ ps) done d = turn_distinct f one ps (settle D R w f p done) (one p done d)

    distinct : (f : ℕ) (p : Pair) (done : List Pair) → Distinct done → Distinct (settle D R w f p done)
    unfolding settle
    distinct zero p done d = d
    distinct (suc f) p done d =
        settle_cases f p done Distinct (λ e. d)
        (λ e. distinct_last (turn f (applies D R w p) done) p (turn_distinct f (distinct f) (applies D R w p) done d) (not_yet f p done (not_listed p done e)))

    -- with depth enough a pair is listed once it is settled
    pub settles : (f : ℕ) (p : Pair) (done : List Pair) → rk p < f → In p (settle D R w f p done)
    settles zero p done h = absurd (not-suc-le-zero h)
    settles (suc f) p done h =
        settle_cases f p done (λ l. In p l) (λ e. listed_in p done e) (λ e. last_in (turn f (applies D R w p) done) p)

    turn_settles : (f : ℕ) {ps : List Pair} (done : List Pair) → Every (λ q. rk q < f) ps → Every (λ q. In q (turn f ps done)) ps
    unfolding in_turn
    turn_settles f done every_nil = every_nil
    turn_settles f done (every_cons {x = p} {xs = ps} l ls) =
        every_cons (turn_kept f (kept f) ps (settle D R w f p done) p (settles f p done l)) (turn_settles f (settle D R w f p done) ls)

    lower : (f : ℕ) (p : Pair) → rk p < suc f → Every (λ q. rk q < f) (applies D R w p)
    lower f p h = every_map (λ q (l : rk q < rk p). omega arith) (applies_fall D R n m fit w p)

    turn_ordered : (f : ℕ) → ((p : Pair) (done : List Pair) → rk p < f → Ordered D R w done → Ordered D R w (settle D R w f p done))
        → {ps : List Pair} (done : List Pair) → Every (λ q. rk q < f) ps → Ordered D R w done → Ordered D R w (turn f ps done)
    unfolding in_turn
    turn_ordered f one done every_nil c = c
    turn_ordered f one done (every_cons {x = p} l ls) c = turn_ordered f one (settle D R w f p done) ls (one p done l c)

    ordered : (f : ℕ) (p : Pair) (done : List Pair) → rk p < f → Ordered D R w done → Ordered D R w (settle D R w f p done)
    ordered zero p done h c = absurd (not-suc-le-zero h)
    ordered (suc f) p done h c =
        settle_cases f p done (Ordered D R w) (λ e. c)
        (λ e.
        ordered_last (turn f (applies D R w p) done) p (turn_ordered f (ordered f) done (lower f p h) c)
        (λ q i. in_every (turn_settles f done (lower f p h)) i))

    -- ---- the whole list

    inside_root : Inside n m root
    unfolding root
    inside_root = record { row_in = fit.rows.some; rule_in = fit.some }

    abbrev all : List Pair
    all = settled D R w

    pub all_ordered : Ordered D R w all
    unfolding settled
    all_ordered =
        ordered depth root [] (deep D R n m fit root) (λ before after p q e i. absurd (nothing_before before after p e))

    has_root : In root all
    unfolding settled
    has_root = settles depth root [] (deep D R n m fit root)

    -- the place of a pair in an ordered list has those that it applies before it
    placed : {p : Pair} {l : List Pair} → In p l → (before after : List Pair) × (l ≡ before ++ p ∷ after)
    placed (at_head {x = x} {xs = xs} e) = ([], xs, rw e)
    placed (in_Tail {x = x} i) = let r = placed i in (x ∷ r.0, r.1, ap (λ y. x ∷ y) r.2)

    closed : (p q : Pair) → In p all → In q (applies D R w p) → In q all
    closed p q i a =
        let w = placed i in
        rw w.2 (Memᴰ.append_left (p ∷ w.1) (all_ordered w.0 w.1 p q w.2 a))

    reached_in : {q p : Pair} → Reached D R w q p → In p all → In q all
    reached_in itself h = h
    reached_in (further {p = p} {o = o} i r) h = reached_in r (closed p o h i)

    pub reached_listed : {q : Pair} → Reached D R w q root → In q all
    reached_listed r = reached_in r has_root

    pub listed_reached : (q : Pair) → In q all → Reached D R w q root
    unfolding settled
    listed_reached q i = ⊎_elim (λ j. elim j [ ]) (λ r. r) (new depth root [] q i)

    pub all_distinct : Distinct all
    unfolding settled
    all_distinct = distinct depth root [] tt

    -- ---- at most n × m: the list's words are numbers below n × m, none twice

    pub all_inside : Every (Inside n m) all
    all_inside = every_in (Inside n m) all (λ q i. reached_inside (listed_reached q i) inside_root)

    pub word_apart : (p q : Pair) → Inside n m p → Inside n m q → word D R n m p ≡ word D R n m q → p ≡ q
    unfolding word
    word_apart p q h g e =
        let a = sym (row_of m p.row p.rule h.rule_in) ∙ ap (λ (x : ℕ). x / m) e ∙ row_of m q.row q.rule g.rule_in in
        let b = sym (rule_of m p.row p.rule h.rule_in) ∙ ap (λ (x : ℕ). x % m) e ∙ rule_of m q.row q.rule g.rule_in in
        λ i. record { row = a i; rule = b i }

    pub word_below : (p : Pair) → Inside n m p → word D R n m p < n * m
    unfolding word
    word_below p h = word_inside n m p.row p.rule h.row_in h.rule_in

    pub words_distinct : Distinct (map (word D R n m) all)
    words_distinct = distinct_image (word D R n m) (Inside n m) word_apart all_inside all_distinct

    pub all_few : length all ≤ n * m
    all_few =
        let words = few (n * m) (map (word D R n m) all) words_distinct (every_image (word D R n m) word_below all_inside) in
        omega (arith, words, length-map all (word D R n m))

    -- ---- any depth above the rank gives the same list

    turn_enough : (f g : ℕ) → ((p : Pair) (done : List Pair) → rk p < f → rk p < g → settle D R w f p done ≡ settle D R w g p done)
        → {ps : List Pair} (done : List Pair) → Every (λ q. (rk q < f) × (rk q < g)) ps → turn f ps done ≡ turn g ps done
    unfolding in_turn
    turn_enough f g one done every_nil = refl
    turn_enough f g one done (every_cons {x = p} {xs = ps} l ls) =
        turn_enough f g one (settle D R w f p done) ls ∙ ap (λ d. turn g ps d) (one p done l.0 l.1)

    settle_enough : (f g : ℕ) (p : Pair) (done : List Pair) → rk p < f → rk p < g → settle D R w f p done ≡ settle D R w g p done
    unfolding settle
    settle_enough zero g p done hf hg = absurd (not-suc-le-zero hf)
    settle_enough (suc f) zero p done hf hg = absurd (not-suc-le-zero hg)
    settle_enough (suc f) (suc g) p done hf hg =
        ap (λ l. cond (listed p done) done (l ++ p ∷ []))
        (turn_enough f g (λ q d a b. settle_enough f g q d a b) done
        (every_map (λ q (l : rk q < rk p). (omega arith, omega arith)) (applies_fall D R n m fit w p)))

    pub settle_is : (f : ℕ) (p : Pair) (done : List Pair) → rk p < f
        → settle D R w f p done ≡ cond (listed p done) done (turn f (applies D R w p) done ++ p ∷ [])
    unfolding settle
    settle_is f p done h = settle_enough f (suc f) p done h (omega arith)
