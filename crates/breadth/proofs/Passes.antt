-- The two passes with a counter for each level give the rows and the text.
--     after_is, counted_is, starts_is   the counters
--     taken                             what the second pass writes at a value's start is the value's row, at its place
--     closing                           when a value ends, its row is the last taken, and its children are counted from its first child on
-- Assumes nothing.
use mathlib.Core.Bool.{Bool, true, false, cond}
use mathlib.Core.List.{List, [], ◌∷◌, ◌++◌, append_assoc, append-nil}
use mathlib.Core.Logic.{⊎_elim}
use mathlib.Core.Path.{◌≡◌, refl, sym, ap, ◌∙◌}
use Prim.Native.Nat.{ℕ, zero, suc, ◌+◌, ◌≤◌, ◌<◌}
use native.Mathlib.Omega.{arith}
use lib.Dec.{eqb}
use lib.ListN.{length, get_or, drop, set, length-set}
use lib.Seq.{get_or-set_same, get_or-set_other}
use Rattle.breadth.specs.Forest.{Label, Head, Forest, trees}
use Rattle.breadth.specs.Breadth.{Entry, Event, entry_of, event, walk, depth, hit, on, breadth}
use Rattle.breadth.specs.Sheet.{KindRow, weigh, owner_of, row_for, rows}
use Rattle.breadth.specs.Meaning.{no_row}
use Rattle.breadth.specs.Counters.{one, size, bump, after, counted, starts, owner_by, row_by, write_rows}
use Rattle.laws.proofs.Tests.{le_or_lt}
use Rattle.breadth.proofs.Lists.{same_or_not, written, weigh_append, weigh_one}
use Rattle.breadth.proofs.Walks.{sum, sum_nil, sum_append, sum_same, sum_other, shallow, on_trees, high, high_zero, high_next, Splits}
use Rattle.breadth.proofs.Places.{row, in_range, owner_is, row_made}
use Rattle.breadth.proofs.Rows.{rows_long, same_length}

module _ (w : Entry → ℕ) where
  cond_weigh : (b : Bool) (e : Entry) → weigh w (cond b (e ∷ []) []) ≡ cond b (w e) 0
  unfolding weigh
  cond_weigh true e = omega arith
  cond_weigh false e = refl

  bump_is : (next : ℕ → ℕ) (x : Event) (k : ℕ) → bump w next x k ≡ next k + weigh w (hit k x)
  unfolding bump
  bump_is next x k = ap (λ (y : ℕ). next k + y) (sym (cond_weigh (eqb x.level k) x.entry))

  pub after_is : (es : List Event) (next : ℕ → ℕ) (k : ℕ) → after w next es k ≡ next k + sum w k es
  unfolding after on
  after_is [] next k = unfold weigh in omega arith
  after_is (x ∷ es) next k = omega (arith, after_is es (bump w next x) k, bump_is next x k, weigh_append w (hit k x) (on k es))

  pub after_append : (a b : List Event) (next : ℕ → ℕ) → after w next (a ++ b) ≡ after w (after w next a) b
  unfolding after
  after_append [] b next = refl
  after_append (x ∷ a) b next = after_append a b (bump w next x)

  pub after_last : (next : ℕ → ℕ) (x : Event) → after w next (x ∷ []) ≡ bump w next x
  unfolding after
  after_last next x = refl

  pub counted_is : (es : List Event) (k : ℕ) → counted w es k ≡ sum w k es
  unfolding counted
  counted_is es k = omega (arith, after_is es (λ i. 0) k)

  pub starts_is : (es : List Event) (k : ℕ) → starts w es k ≡ high w k es
  unfolding starts
  starts_is es zero = sym (high_zero w es)
  starts_is es (suc k) = omega (arith, starts_is es k, counted_is es k, high_next w k es)

  -- the counters of the second pass, after the values `pre` of all values `es`
  abbrev pub now : List Event → List Event → ℕ → ℕ
  now es pre = after w (starts w es) pre

  pub now_is : (es pre : List Event) (k : ℕ) → now es pre k ≡ high w k es + sum w k pre
  now_is es pre k = omega (arith, after_is pre (starts w es) k, starts_is es k)

pub owner_by_lem : (f : Forest) → trees f ≡ 1 → (pre post : List Event) (k : ℕ) (e : Entry) (h : Splits f 0 pre k e post)
    → owner_of (breadth f) (row f pre post k e h) ≡ owner_by k (now one (walk 0 f) pre)
unfolding owner_by
owner_by_lem f root pre post zero e h =
    let t : sum one 0 (walk 0 f) ≡ sum one 0 pre + sum one 0 (event 0 e ∷ post) = ap (sum one 0) h ∙ sum_append one 0 pre (event 0 e ∷ post) in
    let z : row f pre post 0 e h ≡ 0 = omega (arith, on_trees f 0, sum_same one 0 e post, high_zero one (walk 0 f)) in
    ap (owner_of (breadth f)) z
owner_by_lem f root pre post (suc k) e h = omega (arith, owner_is f pre post k e h root, now_is one (walk 0 f) pre k)

module _ (f : Forest) (root : trees f ≡ 1) (pre post : List Event) (k : ℕ) (e : Entry) (h : Splits f 0 pre k e post) where
  abbrev next : ℕ → ℕ
  next = now one (walk 0 f) pre

  abbrev bytes : ℕ → ℕ
  bytes = now size (walk 0 f) pre

  pub row_next : next k ≡ row f pre post k e h
  row_next = now_is one (walk 0 f) pre k

  pub taken : get_or (rows f) (next k) no_row ≡ row_by next bytes (event k e)
  taken =
      rw (row_next)
      (row_made f pre post k e h root
      ∙ ap (λ (x : ℕ). row_for e x (owner_of (breadth f) (row f pre post k e h)) (high size k (walk 0 f) + sum size k pre)) (sym (now_is one (walk 0 f) pre (suc k)))
      ∙ ap (λ (x : ℕ). row_for e (next (suc k)) (owner_of (breadth f) (row f pre post k e h)) x) (sym (now_is size (walk 0 f) pre k))
      ∙ ap (λ (x : ℕ). row_for e (next (suc k)) x (bytes k)) (owner_by_lem f root pre post k e h))

-- when the values of a container are passed
pub closing : (f : Forest) (pre post : List Event) (k : ℕ) (l : Label) (h : Head) (c : Forest)
    → Splits f 0 pre k (entry_of l h c) (walk (suc k) c ++ post)
    → (now one (walk 0 f) (pre ++ event k (entry_of l h c) ∷ walk (suc k) c) k ≡ suc (now one (walk 0 f) pre k))
    × (now one (walk 0 f) (pre ++ event k (entry_of l h c) ∷ walk (suc k) c) (suc k) ≡ now one (walk 0 f) pre (suc k) + trees c)
closing f pre post k l h c s =
    let e = entry_of l h c in
    let es = walk 0 f in
    let p = pre ++ event k e ∷ walk (suc k) c in (
      omega (arith, now_is one es p k, now_is one es pre k, sum_append one k pre (event k e ∷ walk (suc k) c), sum_same one k e (walk (suc k) c), shallow one c (suc k) k (omega arith)),
      omega (arith, now_is one es p (suc k), now_is one es pre (suc k), sum_append one (suc k) pre (event k e ∷ walk (suc k) c), sum_other one (suc k) k e (walk (suc k) c) (omega arith), on_trees c (suc k)),
    )

-- ---- the second pass writes all rows

-- what stands at level k's counter and below is written
record Written (f : Forest) (area₀ : List KindRow) (pre : List Event) (area : List KindRow) : Type 0 where
  pub long : length area ≡ length area₀
  pub same : (k r : ℕ) → high one k (walk 0 f) ≤ r → r < high one k (walk 0 f) + sum one k pre → get_or area r no_row ≡ get_or (rows f) r no_row
  pub kept : (r : ℕ) → length (rows f) ≤ r → get_or area r no_row ≡ get_or area₀ r no_row

-- every number below all levels' weight belongs to one level
pub locate : (w : Entry → ℕ) (es : List Event) (d r : ℕ) → r < high w d es → (k : ℕ) × (high w k es ≤ r) × (r < high w k es + sum w k es)
locate w es zero r h = absurd (nothing h)
  where
    nothing : r < high w 0 es → ⊥
    nothing z = omega (arith, high_zero w es)
locate w es (suc d) r h =
    ⊎_elim
    (λ (l : high w d es ≤ r). (d, l, omega (arith, high_next w d es)))
    (λ (l : r < high w d es). locate w es d r l)
    (le_or_lt (high w d es) r)

pub rows_high : (f : Forest) → length (rows f) ≡ high one (depth f) (walk 0 f)
unfolding rows breadth
rows_high f = rows_long (breadth f) 0 (length (breadth f)) ∙ sym (weigh_one (breadth f))

module _ (f : Forest) (root : trees f ≡ 1) (area₀ : List KindRow) (room : length (rows f) ≤ length area₀) where
  abbrev es : List Event
  es = walk 0 f

  written_one : (pre post : List Event) (k : ℕ) (e : Entry) (h : Splits f 0 pre k e post) (area : List KindRow) → Written f area₀ pre area
      → Written f area₀ (pre ++ event k e ∷ []) (set area (now one es pre k) (row_by (now one es pre) (now size es pre) (event k e)))
  written_one pre post k e h area d =
      let r₀ = now one es pre k in
      let v = row_by (now one es pre) (now size es pre) (event k e) in
      let is = now_is one es pre k in
      let inside : r₀ < length (rows f) = omega (arith, in_range f pre post k e h, row_next f root pre post k e h, same_length f) in
      record {
        long = length-set area r₀ v ∙ d.long;
        same = λ (j r : ℕ) (p : high one j es ≤ r) (q : r < high one j es + sum one j (pre ++ event k e ∷ [])).
            ⊎_elim
            (λ (z : r ≡ r₀). rw z (get_or-set_same area r₀ v no_row (omega (arith, d.long)) ∙ sym (taken f root pre post k e h)))
            (λ (n : r ≡ r₀ → ⊥).
            get_or-set_other area r₀ r v no_row n
            ∙ d.same j r p
            (⊎_elim
            (λ (z : k ≡ j). let t : sum one j (pre ++ event k e ∷ []) ≡ sum one j pre + (1 + sum one j []) = rw z (sum_append one j pre (event j e ∷ []) ∙ ap (λ (x : ℕ). sum one j pre + x) (sum_same one j e [])) in
            let u : r₀ ≡ high one j es + sum one j pre = is ∙ rw z in
            omega (arith, sum_nil one j))
            (λ (m : k ≡ j → ⊥). omega (arith, sum_append one j pre (event k e ∷ []), sum_other one j k e [] m, sum_nil one j))
            (same_or_not k j)))
            (same_or_not r r₀);
        kept = λ (r : ℕ) (p : length (rows f) ≤ r). get_or-set_other area r₀ r v no_row (omega arith) ∙ d.kept r p;
      }

  fill : (pre post : List Event) → es ≡ pre ++ post → (area : List KindRow) → Written f area₀ pre area → write_rows (now one es pre) (now size es pre) post area ≡ rows f ++ drop (length (rows f)) area₀
  unfolding write_rows
  fill pre [] h area d =
      let p : es ≡ pre = h ∙ append-nil pre in
      written no_row (rows f) area₀ area room d.long
      (λ (i : ℕ) (b : i < length (rows f)). let k = locate one es (depth f) i (omega (arith, rows_high f)) in d.same k.0 i k.1 (rw (← p) k.2))
      d.kept
  fill pre (x ∷ post) h area d =
      let k = x.level in
      let e = x.entry in
      let more : es ≡ (pre ++ event k e ∷ []) ++ post = h ∙ sym (append_assoc pre (event k e ∷ []) post) in
      let step = fill (pre ++ event k e ∷ []) post more (set area (now one es pre k) (row_by (now one es pre) (now size es pre) (event k e))) (written_one pre post k e h area d) in
      let a : now one es (pre ++ x ∷ []) ≡ bump one (now one es pre) x = after_append one pre (x ∷ []) (starts one es) ∙ after_last one (now one es pre) x in
      let b : now size es (pre ++ x ∷ []) ≡ bump size (now size es pre) x = after_append size pre (x ∷ []) (starts size es) ∙ after_last size (now size es pre) x in
      rw (a, b) at step

  nothing_written : Written f area₀ [] area₀
  nothing_written =
      record {
        long = refl;
        same = λ (k r : ℕ) (p : high one k es ≤ r) (q : r < high one k es + sum one k []). absurd (omega (arith, sum_nil one k));
        kept = λ r p. refl;
      }

-- the rows are written from the area's start, and what lies after them stays
pub rows_written : (f : Forest) → trees f ≡ 1 → (area : List KindRow) → length (rows f) ≤ length area
    → write_rows (starts one (walk 0 f)) (starts size (walk 0 f)) (walk 0 f) area ≡ rows f ++ drop (length (rows f)) area
unfolding after
rows_written f root area room = fill f root area room [] (walk 0 f) refl area (nothing_written f root area room)
