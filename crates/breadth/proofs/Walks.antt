-- The values in the order of the text, level by level.
--     even           the values on a level have as many children as the level below has values
--     even_before    also up to any value, on its level
--     parent         the last value one level higher is a value's parent
-- Assumes nothing.
use mathlib.Core.List.{List, [], ◌∷◌, ◌++◌, append_assoc, append-nil}
use mathlib.Core.Logic.{⊎_elim}
use mathlib.Core.Path.{◌≡◌, refl, sym, ap, ◌∙◌}
use Prim.Native.Nat.{ℕ, zero, suc, ◌+◌, ◌≤◌, ◌<◌}
use native.Mathlib.Nat.{eq-or-lt_of_le}
use native.Mathlib.Omega.{arith}
use borrow.Author.Tests.{eq-eqb, ne_eqb}
use Rattle.breadth.specs.Forest.{Label, Head, Forest, empty, node, trees, values}
use Rattle.breadth.specs.Breadth.{Entry, Event, entry_of, event, walk, depth, hit, on, above}
use Rattle.breadth.specs.Sheet.{weigh, count_of}
use Rattle.breadth.specs.Counters.{one}
use Rattle.breadth.proofs.Lists.{weigh_append, nothing_holds, InFirst, InSecond, split}

-- ---- one value

pub hit_same : (k : ℕ) (e : Entry) → hit k (event k e) ≡ e ∷ []
hit_same k e = rw (eq-eqb k k refl)

pub hit_other : (k j : ℕ) (e : Entry) → (j ≡ k → ⊥) → hit k (event j e) ≡ []
hit_other k j e h = rw (ne_eqb j k h)

pub on_append : (k : ℕ) (a b : List Event) → on k (a ++ b) ≡ on k a ++ on k b
unfolding on
on_append k [] b = refl
on_append k (x ∷ a) b = rw (on_append k a b) (sym (append_assoc (hit k x) (on k a) (on k b)))

module _ (w : Entry → ℕ) where
  -- what the values on level k weigh
  abbrev pub sum : ℕ → List Event → ℕ
  sum k es = weigh w (on k es)

  pub sum_nil : (k : ℕ) → sum k [] ≡ 0
  unfolding on weigh
  sum_nil k = refl

  pub sum_append : (k : ℕ) (a b : List Event) → sum k (a ++ b) ≡ sum k a + sum k b
  sum_append k a b = rw (on_append k a b) (weigh_append w (on k a) (on k b))

  pub sum_same : (k : ℕ) (e : Entry) (es : List Event) → sum k (event k e ∷ es) ≡ w e + sum k es
  unfolding on weigh
  sum_same k e es = rw (hit_same k e)

  pub sum_other : (k j : ℕ) (e : Entry) (es : List Event) → (j ≡ k → ⊥) → sum k (event j e ∷ es) ≡ sum k es
  unfolding on weigh
  sum_other k j e es h = rw (hit_other k j e h)

  -- ---- a forest from level k₀ on

  pub sum_walk_same : (k : ℕ) (l : Label) (h : Head) (c s : Forest)
      → sum k (walk k (node l h c s)) ≡ w (entry_of l h c) + (sum k (walk (suc k) c) + sum k (walk k s))
  unfolding walk
  sum_walk_same k l h c s = sum_same k (entry_of l h c) (walk (suc k) c ++ walk k s) ∙ rw (sum_append k (walk (suc k) c) (walk k s))

  pub sum_walk_other : (k k₀ : ℕ) (l : Label) (h : Head) (c s : Forest) → (k₀ ≡ k → ⊥)
      → sum k (walk k₀ (node l h c s)) ≡ sum k (walk (suc k₀) c) + sum k (walk k₀ s)
  unfolding walk
  sum_walk_other k k₀ l h c s n = sum_other k k₀ (entry_of l h c) (walk (suc k₀) c ++ walk k₀ s) n ∙ sum_append k (walk (suc k₀) c) (walk k₀ s)

  pub shallow : (f : Forest) (k₀ k : ℕ) → k < k₀ → sum k (walk k₀ f) ≡ 0
  unfolding walk on weigh
  shallow empty k₀ k h = refl
  shallow (node l g c s) k₀ k h = omega (arith, sum_walk_other k k₀ l g c s (omega arith), shallow c (suc k₀) k (omega arith), shallow s k₀ k h)

  pub deep : (f : Forest) (k₀ k : ℕ) → k₀ + depth f ≤ k → sum k (walk k₀ f) ≡ 0
  unfolding walk on weigh
  deep empty k₀ k h = refl
  deep (node l g c s) k₀ k h = omega (arith, sum_walk_other k k₀ l g c s (omega arith), deep c (suc k₀) k (omega arith), deep s k₀ k (omega arith))

pub on_trees : (f : Forest) (k : ℕ) → sum one k (walk k f) ≡ trees f
unfolding walk on weigh
on_trees empty k = refl
on_trees (node l h c s) k = omega (arith, sum_walk_same one k l h c s, shallow one c (suc k) k (omega arith), on_trees s k)

pub even : (f : Forest) (k₀ k : ℕ) → k₀ ≤ k → sum count_of k (walk k₀ f) ≡ sum one (suc k) (walk k₀ f)
unfolding walk on weigh
even empty k₀ k h = refl
even (node l g c s) k₀ k h =
    let other = sum_walk_other one (suc k) k₀ l g c s (omega arith) in
    let below = even s k₀ k h in
    ⊎_elim
    (λ (e : k₀ ≡ k).
    let same : sum count_of k (walk k₀ (node l g c s)) ≡ trees c + (sum count_of k (walk (suc k₀) c) + sum count_of k (walk k₀ s)) = rw e (sum_walk_same count_of k l g c s) in
    let here : sum one (suc k) (walk (suc k₀) c) ≡ trees c = rw e (on_trees c (suc k)) in
    omega (arith, shallow count_of c (suc k₀) k (omega arith)))
    (λ (l' : k₀ < k). omega (arith, sum_walk_other count_of k k₀ l g c s (omega arith), even c (suc k₀) k l'))
    (eq-or-lt_of_le h)

-- ---- up to any value

-- e is a value on level k of the forest, after the values `pre`
abbrev pub Splits : Forest → ℕ → List Event → ℕ → Entry → List Event → Type 0
Splits f k₀ pre k e post = walk k₀ f ≡ pre ++ event k e ∷ post

same_level : (j k : ℕ) (d e : Entry) → event j d ≡ event k e → j ≡ k
same_level j k d e h = ap (λ (x : Event). x.level) h

pub even_before : (f : Forest) (k₀ k : ℕ) (pre post : List Event) (e : Entry) → Splits f k₀ pre k e post
    → (k₀ ≤ k) × (sum count_of k pre ≡ sum one (suc k) pre)
unfolding walk
even_before empty k₀ k pre post e h = absurd (nothing_holds pre post (event k e) h)
even_before (node l g c s) k₀ k [] post e h =
    let t : event k₀ (entry_of l g c) ≡ event k e = cc in
    (omega (arith, same_level k₀ k (entry_of l g c) e t), omega (arith, sum_nil count_of k, sum_nil one (suc k)))
even_before (node l g c s) k₀ k (y ∷ pre) post e h =
    let t : y ≡ event k₀ (entry_of l g c) = cc in
    ⊎_elim
    (λ (i : InFirst (walk (suc k₀) c) pre (event k e)).
    let b = even_before c (suc k₀) k pre i.0 e i.1 in (
      omega arith,
      rw t
          (let n : k₀ ≡ k → ⊥ = omega arith in
          let m : k₀ ≡ suc k → ⊥ = omega arith in
          sum_other count_of k k₀ (entry_of l g c) pre n ∙ b.1 ∙ sym (sum_other one (suc k) k₀ (entry_of l g c) pre m)),
    ))
    (λ (i : InSecond (walk (suc k₀) c) (walk k₀ s) pre post (event k e)).
    let b = even_before s k₀ k i.0 post e i.2 in
    let m : k₀ ≡ suc k → ⊥ = omega arith in
    let w : y ∷ pre ≡ walk k₀ (node l g c empty) ++ i.0 = rw (t, i.1, append-nil (walk (suc k₀) c)) in (
      b.0,
      rw w (sum_append count_of k (walk k₀ (node l g c empty)) i.0
          ∙ (let v = even (node l g c empty) k₀ k b.0 in let u = b.1 in rw (v, u))
          ∙ sym (sum_append one (suc k) (walk k₀ (node l g c empty)) i.0)),
    ))
    (split (walk (suc k₀) c) (walk k₀ s) pre post (event k e) (cc))

-- the last value on level k among `pre` is `parent`, and has not all of its children among them
pub record Parent (k : ℕ) (pre : List Event) : Type 0 where
  pub before : List Event
  pub parent : Entry
  pub since : List Event
  pub is : pre ≡ before ++ event k parent ∷ since
  pub last : sum one k since ≡ 0
  pub inside : sum one (suc k) since < parent.count

later : (k : ℕ) (a p : List Event) → Parent k p → Parent k (a ++ p)
later k a p q =
    record {
      before = a ++ q.before;
      parent = q.parent;
      since = q.since;
      is = ap (λ (x : List Event). a ++ x) q.is ∙ sym (append_assoc a q.before (event k q.parent ∷ q.since));
      last = q.last;
      inside = q.inside;
    }

pub parent : (f : Forest) (k₀ k : ℕ) (pre post : List Event) (e : Entry) → k₀ ≤ k → Splits f k₀ pre (suc k) e post → Parent k pre
unfolding walk
parent empty k₀ k pre post e b h = absurd (nothing_holds pre post (event (suc k) e) h)
parent (node l g c s) k₀ k [] post e b h =
    let t : event k₀ (entry_of l g c) ≡ event (suc k) e = cc in
    absurd (no_way (same_level k₀ (suc k) (entry_of l g c) e t))
  where
    no_way : k₀ ≡ suc k → ⊥
    no_way z = omega arith
parent (node l g c s) k₀ k (y ∷ pre) post e b h =
    let t : y ≡ event k₀ (entry_of l g c) = cc in
    ⊎_elim
    (λ (i : InFirst (walk (suc k₀) c) pre (event (suc k) e)).
    ⊎_elim
    (λ (z : k₀ ≡ k).
    let total : sum one k (walk (suc k₀) c) ≡ sum one k pre + sum one k (event (suc k) e ∷ i.0) = ap (sum one k) i.1 ∙ sum_append one k pre (event (suc k) e ∷ i.0) in
    let total' : sum one (suc k) (walk (suc k₀) c) ≡ sum one (suc k) pre + sum one (suc k) (event (suc k) e ∷ i.0) = ap (sum one (suc k)) i.1 ∙ sum_append one (suc k) pre (event (suc k) e ∷ i.0) in
    let all : sum one (suc k) (walk (suc k₀) c) ≡ trees c = rw z (on_trees c (suc k)) in
    record {
      before = [];
      parent = entry_of l g c;
      since = pre;
      is = rw (t, z);
      last = omega (arith, shallow one c (suc k₀) k (omega arith));
      inside = omega (arith, sum_same one (suc k) e i.0);
    })
    (λ (z : k₀ < k). later k (y ∷ []) pre (parent c (suc k₀) k pre i.0 e z i.1))
    (eq-or-lt_of_le b))
    (λ (i : InSecond (walk (suc k₀) c) (walk k₀ s) pre post (event (suc k) e)).
    rw i.1 (later k (y ∷ walk (suc k₀) c) i.0 (parent s k₀ k i.0 post e b i.2)))
    (split (walk (suc k₀) c) (walk k₀ s) pre post (event (suc k) e) (cc))

-- ---- the levels above

module _ (w : Entry → ℕ) where
  -- what the levels above level k weigh
  abbrev pub high : ℕ → List Event → ℕ
  high k es = weigh w (above k es)

  pub high_zero : (es : List Event) → high 0 es ≡ 0
  unfolding above weigh
  high_zero es = refl

  pub high_next : (k : ℕ) (es : List Event) → high (suc k) es ≡ high k es + sum w k es
  unfolding above
  high_next k es = weigh_append w (above k es) (on k es)

  pub high_append : (k : ℕ) (a b : List Event) → high k (a ++ b) ≡ high k a + high k b
  unfolding above weigh
  high_append zero a b = omega arith
  high_append (suc k) a b = omega (arith, high_next k (a ++ b), high_next k a, high_next k b, high_append k a b, sum_append w k a b)

  high_none : (j k : ℕ) (e : Entry) → k ≤ j → high k (event j e ∷ []) ≡ 0
  unfolding above weigh on
  high_none j zero e h = refl
  high_none j (suc k) e h = omega (arith, high_next k (event j e ∷ []), high_none j k e (omega arith), sum_other w k j e [] (omega arith))

  high_one : (j k : ℕ) (e : Entry) → j < k → high k (event j e ∷ []) ≡ w e
  unfolding weigh on
  high_one j zero e h = absurd (nothing h)
    where
      nothing : j < 0 → ⊥
      nothing z = omega arith
  high_one j (suc k) e h =
      ⊎_elim
      (λ (z : j ≡ k). let t : sum w k (event j e ∷ []) ≡ w e + 0 = rw z (sum_same w k e []) in
      omega (arith, high_next k (event j e ∷ []), high_none j k e (omega arith)))
      (λ (z : j < k). omega (arith, high_next k (event j e ∷ []), high_one j k e z, sum_other w k j e [] (omega arith)))
      (eq-or-lt_of_le (less h))
    where
      less : j < suc k → j ≤ k
      less z = omega arith

  high_empty : (i : ℕ) → high i [] ≡ 0
  unfolding above weigh on
  high_empty zero = refl
  high_empty (suc i) = omega (arith, high_next i [], high_empty i)

  -- what all values of a forest weigh
  abbrev pub total : Forest → ℕ
  total empty = 0
  total (node l h c s) = w (entry_of l h c) + (total c + total s)

  pub high_all : (f : Forest) (k₀ k : ℕ) → k₀ + depth f ≤ k → high k (walk k₀ f) ≡ total f
  unfolding walk
  high_all empty k₀ k h = high_empty k
  high_all (node l g c s) k₀ k h =
      omega (
        arith,
        high_append k (event k₀ (entry_of l g c) ∷ []) (walk (suc k₀) c ++ walk k₀ s),
        high_append k (walk (suc k₀) c) (walk k₀ s),
        high_one k₀ k (entry_of l g c) (omega arith),
        high_all c (suc k₀) k (omega arith),
        high_all s k₀ k (omega arith),
      )

pub total_one : (f : Forest) → total one f ≡ values f
total_one empty = refl
total_one (node l h c s) = omega (arith, total_one c, total_one s)

-- the children of the levels above level k are the levels above level k + 1, but for the forest's own trees
pub high_even : (f : Forest) (k : ℕ) → high count_of k (walk 0 f) + trees f ≡ high one (suc k) (walk 0 f)
unfolding above weigh
high_even f zero = omega (arith, high_next one 0 (walk 0 f), on_trees f 0)
high_even f (suc k) = omega (arith, high_next one (suc k) (walk 0 f), high_next count_of k (walk 0 f), high_even f k, even f 0 k (omega arith))
