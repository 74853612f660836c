-- Where a value's row stands, and what it holds: the law for one pass through the text with counters for each level.
-- Assumes nothing.
use mathlib.Core.List.{List, [], ◌∷◌, ◌++◌, append_assoc, append-nil}
use mathlib.Core.Logic.{⊎_elim}
use mathlib.Core.Path.{◌≡◌, sym, ap, ◌∙◌}
use Prim.Native.Nat.{ℕ, zero, suc, ◌+◌, ◌≤◌, ◌<◌}
use native.Mathlib.Nat.{eq-or-lt_of_le}
use native.Mathlib.Omega.{arith}
use lib.ListN.{length, get_or, length-append}
use Rattle.breadth.specs.Forest.{Forest, trees}
use Rattle.breadth.specs.Breadth.{Entry, Event, event, walk, depth, on, above, breadth}
use Rattle.breadth.specs.Sheet.{weigh, count_of, first_one_of, owner_of, start_of, no_entry, row_for, row_of, rows}
use Rattle.breadth.specs.Meaning.{no_row}
use Rattle.breadth.specs.Counters.{one, size}
use Rattle.laws.proofs.Tests.{le_or_lt}
use Rattle.breadth.proofs.Lists.{weigh_append, weigh_one}
use Rattle.breadth.proofs.Walks.{hit_same, on_append, sum, sum_append, sum_same, sum_other, deep, high, high_even, Splits, even_before, parent}
use Rattle.breadth.proofs.Rows.{entry_at, first_at, start_at, owner_at, row_at}

-- the levels above a level come first, then it, then the rest
pub levels_split : (es : List Event) (k d : ℕ) → k < d → (rest : List Entry) × (above d es ≡ above k es ++ (on k es ++ rest))
unfolding above
levels_split es k zero h = absurd (nothing h)
  where
    nothing : k < 0 → ⊥
    nothing z = omega arith
levels_split es k (suc d) h =
    ⊎_elim
    (λ (e : k ≡ d). ([], rw (e, append-nil (on d es))))
    (λ (l : k < d).
    let i = levels_split es k d l in
    let q = i.1 in
    (i.0 ++ on d es, ap (λ (x : List Entry). x ++ on d es) q ∙ append_assoc (above k es) (on k es ++ i.0) (on d es) ∙ ap (λ (x : List Entry). above k es ++ x) (append_assoc (on k es) i.0 (on d es))))
    (eq-or-lt_of_le (less h))
  where
    less : k < suc d → k ≤ d
    less z = omega arith

module _ (f : Forest) (pre post : List Event) (k : ℕ) (e : Entry) (h : Splits f 0 pre k e post) where
  -- the values whose rows come first: those on the levels above, and those before it on its level
  abbrev pub ahead : List Entry
  ahead = above k (walk 0 f) ++ on k pre

  pub not_deep : k < depth f
  not_deep =
      ⊎_elim
      (λ (l : depth f ≤ k).
      let z = deep one f 0 k (omega arith) in
      let t : sum one k (walk 0 f) ≡ sum one k pre + sum one k (event k e ∷ post) = ap (sum one k) h ∙ sum_append one k pre (event k e ∷ post) in
      absurd (no_way (omega (arith, sum_same one k e post))))
      (λ (l : k < depth f). l)
      (le_or_lt (depth f) k)
    where
      no_way : ◌≡◌ {A = ℕ} 0 1 → ⊥
      no_way z = omega arith

  on_split : on k (walk 0 f) ≡ on k pre ++ e ∷ on k post
  unfolding on
  on_split = ap (on k) h ∙ on_append k pre (event k e ∷ post) ∙ rw (hit_same k e)

  pub placed : (rest : List Entry) × (breadth f ≡ ahead ++ e ∷ rest)
  unfolding breadth
  placed =
      let s = levels_split (walk 0 f) k (depth f) not_deep in (
        on k post ++ s.0,
        s.1 ∙ ap (λ (x : List Entry). above k (walk 0 f) ++ (x ++ s.0)) on_split
            ∙ ap (λ (x : List Entry). above k (walk 0 f) ++ x) (append_assoc (on k pre) (e ∷ on k post) s.0)
            ∙ sym (append_assoc (above k (walk 0 f)) (on k pre) (e ∷ (on k post ++ s.0))),
      )

  -- ---- the counters' law

  -- the row: the values on the levels above, and those before it on its level
  abbrev pub row : ℕ
  row = high one k (walk 0 f) + sum one k pre

  pub row_is : length ahead ≡ row
  row_is = length-append (above k (walk 0 f)) (on k pre) ∙ omega (arith, weigh_one (above k (walk 0 f)), weigh_one (on k pre))

  pub in_range : row < length (breadth f)
  in_range = omega (arith, row_is, ap length placed.1, length-append ahead (e ∷ placed.0))

  pub entry_is : get_or (breadth f) row no_entry ≡ e
  entry_is = rw (placed.1, ← row_is) (entry_at ahead e placed.0)

  -- the children of all those ahead stand above the first child, and the root
  pub first_is : trees f ≡ 1 → first_one_of (breadth f) row ≡ high one (suc k) (walk 0 f) + sum one (suc k) pre
  first_is r =
      rw (placed.1, ← row_is)
      (first_at ahead e placed.0 ∙ omega (arith, weigh_append count_of (above k (walk 0 f)) (on k pre), high_even f k, (even_before f 0 k pre post e h).1))

  pub start_is : start_of (breadth f) row ≡ high size k (walk 0 f) + sum size k pre
  start_is = rw (placed.1, ← row_is) (start_at ahead e placed.0 ∙ weigh_append size (above k (walk 0 f)) (on k pre))

  -- the row as it stands in the sheet
  pub row_made : trees f ≡ 1
      → get_or (rows f) row no_row ≡ row_for e (high one (suc k) (walk 0 f) + sum one (suc k) pre) (owner_of (breadth f) row) (high size k (walk 0 f) + sum size k pre)
  unfolding rows row_of
  row_made r =
      row_at (breadth f) row in_range
      ∙ ap (λ (x : Entry). row_for x (first_one_of (breadth f) row) (owner_of (breadth f) row) (start_of (breadth f) row)) entry_is
      ∙ ap (λ (x : ℕ). row_for e x (owner_of (breadth f) row) (start_of (breadth f) row)) (first_is r)
      ∙ ap (λ (x : ℕ). row_for e (high one (suc k) (walk 0 f) + sum one (suc k) pre) (owner_of (breadth f) row) x) start_is

-- the owner is the last row that was taken one level higher
pub owner_is : (f : Forest) (pre post : List Event) (k : ℕ) (e : Entry) (h : Splits f 0 pre (suc k) e post) → trees f ≡ 1
    → suc (owner_of (breadth f) (row f pre post (suc k) e h)) ≡ high one k (walk 0 f) + sum one k pre
owner_is f pre post k e h r =
    let p = parent f 0 k pre post e (omega arith) h in
    let b = p.before in
    let s = p.since in
    let rest : List Event = s ++ event (suc k) e ∷ post in
    let g : Splits f 0 b k p.parent rest = h ∙ ap (λ (x : List Event). x ++ event (suc k) e ∷ post) p.is ∙ append_assoc b (event k p.parent ∷ s) (event (suc k) e ∷ post) in
    let up = ahead f b rest k p.parent g in
    let pl = placed f b rest k p.parent g in
    let below : sum one (suc k) pre ≡ sum one (suc k) b + sum one (suc k) s =
    ap (sum one (suc k)) p.is ∙ sum_append one (suc k) b (event k p.parent ∷ s) ∙ ap (λ (x : ℕ). sum one (suc k) b + x) (sum_other one (suc k) k p.parent s (omega arith)) in
    let here : sum one k pre ≡ sum one k b + (1 + sum one k s) =
    ap (sum one k) p.is ∙ sum_append one k b (event k p.parent ∷ s) ∙ ap (λ (x : ℕ). sum one k b + x) (sum_same one k p.parent s) in
    let first = first_is f b rest k p.parent g r in
    let first' = first_at up p.parent pl.0 in
    let at : row f pre post (suc k) e h ≡ 1 + weigh count_of up + sum one (suc k) s =
    omega (arith, below, high_even f k, (even_before f 0 k b rest p.parent g).1, weigh_append count_of (above k (walk 0 f)) (on k b)) in
    let o : owner_of (breadth f) (row f pre post (suc k) e h) ≡ length up = rw (at, pl.1) (owner_at up pl.0 p.parent (sum one (suc k) s) p.inside) in
    omega (arith, o, here, p.last, row_is f b rest k p.parent g)
