-- The pass over starts and ends writes the rows.
--     rows_run    the theorem
-- Assumes nothing.
use mathlib.Core.Bool.{true, false}
use mathlib.Core.List.{List, [], ◌∷◌, ◌++◌, append_assoc, append-nil}
use mathlib.Core.Logic.{◌⊎◌, inl, inr, ⊎_elim}
use mathlib.Core.Path.{◌≡◌, refl, sym, ap, ◌∙◌}
use Prim.Native.Nat.{ℕ, suc, ◌+◌, ◌-◌, ◌≤◌, ◌<◌}
use native.Mathlib.Omega.{arith}
use lib.ListN.{length, get_or, drop, set, length-set}
use lib.Seq.{get_or-set_same, get_or-set_other}
use Rattle.breadth.specs.Forest.{Label, Head, a_null, a_bool, a_number, a_string, an_array, an_object, Forest, empty, node, trees}
use Rattle.breadth.specs.Breadth.{Entry, Event, entry_of, event, walk, depth}
use Rattle.breadth.specs.Sheet.{KindRow, row_for, rows}
use Rattle.breadth.specs.Meaning.{no_row}
use Rattle.breadth.specs.Counters.{one, size, bump, after, starts, owner_by, row_by}
use Rattle.breadth.specs.Tokens.{Token, ends, tokens, open_row, close_row, begun, run}
use Rattle.laws.proofs.Tests.{le_or_lt}
use Rattle.breadth.proofs.Lists.{same_or_not, written}
use Rattle.breadth.proofs.Walks.{sum, sum_nil, sum_append, sum_same, sum_other, shallow, on_trees, high, high_next, Splits}
use Rattle.breadth.proofs.Places.{in_range}
use Rattle.breadth.proofs.Rows.{same_length}
use Rattle.breadth.proofs.Passes.{now, now_is, after_append, after_last, taken, locate, rows_high}
use Rattle.breadth.proofs.Numbers.{high_climbs}

-- a row that is opened and then closed is the row
close_open : (l : Label) (h : Head) (c first owner start : ℕ)
    → close_row (open_row l h first owner start) (first + c) ≡ row_for (record { label = l; head = h; count = c }) first owner start
unfolding close_row open_row row_for
close_open l a_null c first owner start = refl
close_open l (a_bool true) c first owner start = refl
close_open l (a_bool false) c first owner start = refl
close_open l (a_number d s) c first owner start = refl
close_open l (a_string bs) c first owner start = refl
close_open l an_array c first owner start = let z : first + c - first ≡ c = omega arith in rw z
close_open l an_object c first owner start = let z : first + c - first ≡ c = omega arith in rw z

module _ (f : Forest) (root : trees f ≡ 1) (area₀ : List KindRow) (room : length (rows f) ≤ length area₀) where
  abbrev es : List Event
  es = walk 0 f

  -- the next row of level j after the values `pre`
  abbrev N : List Event → ℕ → ℕ
  N pre j = high one j es + sum one j pre

  -- the rows of the values from `pre` to `to` are written, the others stay
  record Wrote (pre to : List Event) (area area' : List KindRow) : Type 0 where
    pub long : length area' ≡ length area
    pub done : (j r : ℕ) → N pre j ≤ r → r < N to j → get_or area' r no_row ≡ get_or (rows f) r no_row
    pub kept : (j r : ℕ) → high one j es ≤ r → r < high one (suc j) es → (r < N pre j) ⊎ (N to j ≤ r) → get_or area' r no_row ≡ get_or area r no_row
    pub tail : (r : ℕ) → length (rows f) ≤ r → get_or area' r no_row ≡ get_or area r no_row

  -- and so runs the pass
  record Ran (k : ℕ) (g : Forest) (pre : List Event) (ts : List Token) (area : List KindRow) : Type 0 where
    pub area' : List KindRow
    pub wrote : Wrote pre (pre ++ walk k g) area area'
    pub ran : run k (now one es pre) (now size es pre) (tokens g ++ ts) area ≡ run k (now one es (pre ++ walk k g)) (now size es (pre ++ walk k g)) ts area'

  more : (a b : List Event) (j : ℕ) → N (a ++ b) j ≡ N a j + sum one j b
  more a b j = omega (arith, sum_append one j a b)

  bounded : (a b : List Event) (j : ℕ) → es ≡ a ++ b → N a j ≤ high one (suc j) es
  bounded a b j h =
      let t : sum one j es ≡ sum one j a + sum one j b = ap (sum one j) h ∙ sum_append one j a b in
      omega (arith, high_next one j es)

  now_begun : (w : Entry → ℕ) (pre : List Event) (k : ℕ) (e : Entry) → now w es (pre ++ event k e ∷ []) ≡ bump w (now w es pre) (event k e)
  now_begun w pre k e = after_append w pre (event k e ∷ []) (starts w es) ∙ after_last w (now w es pre) (event k e)

  module _ (l : Label) (h : Head) (c s : Forest) (k : ℕ) (pre post : List Event) (is : es ≡ pre ++ (walk k (node l h c s) ++ post)) where
    abbrev e : Entry
    e = entry_of l h c

    -- after its start; after its children
    abbrev pre₁ : List Event
    pre₁ = pre ++ event k e ∷ []

    abbrev pre₂ : List Event
    pre₂ = pre₁ ++ walk (suc k) c

    splits : Splits f 0 pre k e (walk (suc k) c ++ (walk k s ++ post))
    unfolding walk
    splits = is ∙ ap (λ (x : List Event). pre ++ event k e ∷ x) (append_assoc (walk (suc k) c) (walk k s) post)

    is₁ : es ≡ pre₁ ++ (walk (suc k) c ++ (walk k s ++ post))
    is₁ = splits ∙ sym (append_assoc pre (event k e ∷ []) (walk (suc k) c ++ (walk k s ++ post)))

    is₂ : es ≡ pre₂ ++ (walk k s ++ post)
    is₂ = is₁ ∙ sym (append_assoc pre₁ (walk (suc k) c) (walk k s ++ post))

    end : pre₂ ++ walk k s ≡ pre ++ walk k (node l h c s)
    unfolding walk
    end = append_assoc pre₁ (walk (suc k) c) (walk k s) ∙ append_assoc pre (event k e ∷ []) (walk (suc k) c ++ walk k s)

    abbrev r₀ : ℕ
    r₀ = N pre k

    -- the counters there
    at_k : N pre₁ k ≡ suc r₀
    at_k = omega (arith, more pre (event k e ∷ []) k, sum_same one k e [], sum_nil one k)

    at_other : (j : ℕ) → (k ≡ j → ⊥) → N pre₁ j ≡ N pre j
    at_other j n = omega (arith, more pre (event k e ∷ []) j, sum_other one j k e [] n, sum_nil one j)

    at_k₂ : N pre₂ k ≡ suc r₀
    at_k₂ = omega (arith, more pre₁ (walk (suc k) c) k, at_k, shallow one c (suc k) k (omega arith))

    at_children : N pre₂ (suc k) ≡ N pre (suc k) + trees c
    at_children = omega (arith, more pre₁ (walk (suc k) c) (suc k), at_other (suc k) (omega arith), on_trees c (suc k))

    low₁ : (j : ℕ) → N pre j ≤ N pre₁ j
    low₁ j = omega (arith, more pre (event k e ∷ []) j)

    low₂ : (j : ℕ) → N pre₁ j ≤ N pre₂ j
    low₂ j = omega (arith, more pre₁ (walk (suc k) c) j)

    low₃ : (j : ℕ) → N pre₂ j ≤ N (pre₂ ++ walk k s) j
    low₃ j = omega (arith, more pre₂ (walk k s) j)

    inside : r₀ < length (rows f)
    inside = omega (arith, in_range f pre (walk (suc k) c ++ (walk k s ++ post)) k e splits, same_length f)

    -- a row of another level, or of its level but not it
    not_it : (j r : ℕ) → high one j es ≤ r → r < high one (suc j) es → (k ≡ j → r ≡ r₀ → ⊥) → r ≡ r₀ → ⊥
    not_it j r p q n z =
        ⊎_elim
        (λ (g : k ≡ j). n g z)
        (λ (g : k ≡ j → ⊥).
        ⊎_elim
        (λ (m : j ≤ k). omega (arith, high_climbs es (suc j) k (omega arith)))
        (λ (m : k < j). omega (arith, high_climbs es (suc k) j m, bounded pre₁ (walk (suc k) c ++ (walk k s ++ post)) k is₁, at_k))
        (le_or_lt j k))
        (same_or_not k j)

    abbrev opened_row : KindRow
    opened_row = open_row l h (now one es pre (suc k)) (owner_by k (now one es pre)) (now size es pre k)

    abbrev closed_row : KindRow
    closed_row = row_by (now one es pre) (now size es pre) (event k e)

    module _ (area area₂ area₄ : List KindRow) (long₀ : length area ≡ length area₀)
        (in_c : Wrote pre₁ pre₂ (set area r₀ opened_row) area₂)
        (in_s : Wrote pre₂ (pre₂ ++ walk k s) (set area₂ r₀ closed_row) area₄) where
      -- the row is still there as it was opened
      still_open : get_or area₂ r₀ no_row ≡ opened_row
      still_open =
          in_c.kept k r₀ (omega arith) (omega (arith, bounded pre₁ (walk (suc k) c ++ (walk k s ++ post)) k is₁, at_k)) (inl (omega (arith, at_k)))
          ∙ get_or-set_same area r₀ opened_row no_row (omega (arith, inside))

      long₂ : length area₂ ≡ length area
      long₂ = in_c.long ∙ length-set area r₀ opened_row

      right : get_or (set area₂ r₀ closed_row) r₀ no_row ≡ get_or (rows f) r₀ no_row
      right =
          get_or-set_same area₂ r₀ closed_row no_row (omega (arith, inside, long₂))
          ∙ sym (taken f root pre (walk (suc k) c ++ (walk k s ++ post)) k e splits)
          ∙ ap (λ (x : ℕ). get_or (rows f) x no_row) (now_is one es pre k)

      wrote_all : Wrote pre (pre₂ ++ walk k s) area area₄
      wrote_all =
          record {
            long = in_s.long ∙ length-set area₂ r₀ closed_row ∙ long₂;
            done =
                λ (j r : ℕ) (p : N pre j ≤ r) (q : r < N (pre₂ ++ walk k s) j).
                ⊎_elim
                (λ (g : N pre₂ j ≤ r). in_s.done j r g q)
                (λ (g : r < N pre₂ j).
                in_s.kept j r (omega arith) (omega (arith, bounded pre₂ (walk k s ++ post) j is₂)) (inl g)
                ∙ ⊎_elim
                (λ (z : r ≡ r₀). rw z right)
                (λ (n : r ≡ r₀ → ⊥).
                get_or-set_other area₂ r₀ r closed_row no_row n
                ∙ in_c.done j r
                (⊎_elim
                (λ (z : k ≡ j). absurd (n (let a : N pre j ≡ r₀ = rw (← z) in let b : N pre₂ j ≡ suc r₀ = rw (← z) at_k₂ in omega arith)))
                (λ (m : k ≡ j → ⊥). omega (arith, at_other j m))
                (same_or_not k j))
                g)
                (same_or_not r r₀))
                (le_or_lt (N pre₂ j) r);
            kept =
                λ (j r : ℕ) (p : high one j es ≤ r) (q : r < high one (suc j) es) (o : (r < N pre j) ⊎ (N (pre₂ ++ walk k s) j ≤ r)).
                let n : r ≡ r₀ → ⊥ =
                not_it j r p q
                (λ (z : k ≡ j) (y : r ≡ r₀).
                let a : N pre j ≡ r₀ = rw (← z) in
                let b : N pre₂ j ≡ suc r₀ = rw (← z) at_k₂ in
                ⊎_elim (λ (g : r < N pre j). omega arith) (λ (g : N (pre₂ ++ walk k s) j ≤ r). omega (arith, low₃ j)) o) in
                in_s.kept j r p q (⊎_elim (λ (g : r < N pre j). inl (omega (arith, low₁ j, low₂ j))) (λ (g : N (pre₂ ++ walk k s) j ≤ r). inr g) o)
                ∙ get_or-set_other area₂ r₀ r closed_row no_row n
                ∙ in_c.kept j r p q (⊎_elim (λ (g : r < N pre j). inl (omega (arith, low₁ j))) (λ (g : N (pre₂ ++ walk k s) j ≤ r). inr (omega (arith, low₃ j))) o)
                ∙ get_or-set_other area r₀ r opened_row no_row n;
            tail =
                λ (r : ℕ) (p : length (rows f) ≤ r).
                in_s.tail r p ∙ get_or-set_other area₂ r₀ r closed_row no_row (omega (arith, inside)) ∙ in_c.tail r p ∙ get_or-set_other area r₀ r opened_row no_row (omega (arith, inside));
          }

    -- ---- the pass at its start and at its end

    at_start : (ts : List Token) (area : List KindRow)
        → run k (now one es pre) (now size es pre) (tokens (node l h c s) ++ ts) area
        ≡ run (suc k) (now one es pre₁) (now size es pre₁) (tokens c ++ (ends ∷ (tokens s ++ ts))) (set area r₀ opened_row)
    unfolding run tokens bump
    at_start ts area =
        rw (append_assoc (tokens c) (ends ∷ tokens s) ts)
        (let a : bump one (now one es pre) (begun k l h) ≡ now one es pre₁ = sym (now_begun one pre k e) in
        let b : bump size (now size es pre) (begun k l h) ≡ now size es pre₁ = sym (now_begun size pre k e) in
        ap (λ (x : ℕ). run (suc k) (bump one (now one es pre) (begun k l h)) (bump size (now size es pre) (begun k l h)) (tokens c ++ (ends ∷ (tokens s ++ ts))) (set area x opened_row)) (now_is one es pre k)
        ∙ ap (λ (x : ℕ → ℕ). run (suc k) x (bump size (now size es pre) (begun k l h)) (tokens c ++ (ends ∷ (tokens s ++ ts))) (set area r₀ opened_row)) a
        ∙ ap (λ (x : ℕ → ℕ). run (suc k) (now one es pre₁) x (tokens c ++ (ends ∷ (tokens s ++ ts))) (set area r₀ opened_row)) b)

    at_end : (ts : List Token) (area₂ : List KindRow) → get_or area₂ r₀ no_row ≡ opened_row
        → run (suc k) (now one es pre₂) (now size es pre₂) (ends ∷ ts) area₂ ≡ run k (now one es pre₂) (now size es pre₂) ts (set area₂ r₀ closed_row)
    unfolding run
    at_end ts area₂ o =
        let z : now one es pre₂ k - 1 ≡ r₀ = omega (arith, now_is one es pre₂ k, at_k₂) in
        let n : now one es pre₂ (suc k) ≡ now one es pre (suc k) + trees c = omega (arith, now_is one es pre₂ (suc k), now_is one es pre (suc k), at_children) in
        let q : close_row (get_or area₂ (now one es pre₂ k - 1) no_row) (now one es pre₂ (suc k)) ≡ closed_row =
        ap (λ (x : ℕ). close_row (get_or area₂ x no_row) (now one es pre₂ (suc k))) z
        ∙ ap (λ (x : KindRow). close_row x (now one es pre₂ (suc k))) o
        ∙ ap (close_row opened_row) n
        ∙ close_open l h (trees c) (now one es pre (suc k)) (owner_by k (now one es pre)) (now size es pre k) in
        ap (λ (x : KindRow). run k (now one es pre₂) (now size es pre₂) ts (set area₂ (now one es pre₂ k - 1) x)) q
        ∙ ap (λ (x : ℕ). run k (now one es pre₂) (now size es pre₂) ts (set area₂ x closed_row)) z

    both : (ts : List Token) (area : List KindRow) → length area ≡ length area₀
        → Ran (suc k) c pre₁ (ends ∷ (tokens s ++ ts)) (set area r₀ opened_row)
        → ((area₃ : List KindRow) → length area₃ ≡ length area₀ → Ran k s pre₂ ts area₃)
        → Ran k (node l h c s) pre ts area
    both ts area long₀ in_c then =
        assemble in_c.area' in_c.wrote in_c.ran
        (then (set in_c.area' r₀ closed_row) (length-set in_c.area' r₀ closed_row ∙ in_c.wrote.long ∙ length-set area r₀ opened_row ∙ long₀))
      where
        assemble : (area₂ : List KindRow) → Wrote pre₁ pre₂ (set area r₀ opened_row) area₂
            → run (suc k) (now one es pre₁) (now size es pre₁) (tokens c ++ (ends ∷ (tokens s ++ ts))) (set area r₀ opened_row) ≡ run (suc k) (now one es pre₂) (now size es pre₂) (ends ∷ (tokens s ++ ts)) area₂
            → Ran k s pre₂ ts (set area₂ r₀ closed_row)
            → Ran k (node l h c s) pre ts area
        assemble area₂ w r in_s =
            record {
              area' = in_s.area';
              wrote = rw end at (wrote_all area area₂ in_s.area' long₀ w in_s.wrote);
              ran =
                  at_start ts area ∙ r ∙ at_end (tokens s ++ ts) area₂ (still_open area area₂ in_s.area' long₀ w in_s.wrote) ∙ in_s.ran
                  ∙ ap (λ (x : List Event). run k (now one es x) (now size es x) ts in_s.area') end;
            }

  nothing_more : (k : ℕ) (pre : List Event) → pre ++ walk k empty ≡ pre
  unfolding walk
  nothing_more k pre = append-nil pre

  go : (g : Forest) (k : ℕ) (pre post : List Event) (ts : List Token) (area : List KindRow) → es ≡ pre ++ (walk k g ++ post) → length area ≡ length area₀ → Ran k g pre ts area
  go empty k pre post ts area is long₀ =
      let z = nothing_more k pre in
      record {
        area' = area;
        wrote =
            rw z
            (record {
              long = refl;
              done = λ (j r : ℕ) (p : N pre j ≤ r) (q : r < N pre j). absurd (omega arith);
              kept = λ j r p q o. refl;
              tail = λ r p. refl;
            });
        ran = rw z (unfold tokens in refl);
      }
  go (node l h c s) k pre post ts area is long₀ =
      both l h c s k pre post is ts area long₀
      (go c (suc k) (pre₁ l h c s k pre post is) (walk k s ++ post) (ends ∷ (tokens s ++ ts)) (set area (N pre k) (opened_row l h c s k pre post is)) (is₁ l h c s k pre post is)
      (length-set area (N pre k) (opened_row l h c s k pre post is) ∙ long₀))
      (λ area₃ long₃. go s k (pre₂ l h c s k pre post is) post ts area₃ (is₂ l h c s k pre post is) long₃)

  all_run : run 0 (now one es []) (now size es []) (tokens f ++ []) area₀ ≡ rows f ++ drop (length (rows f)) area₀
  unfolding run
  all_run =
      let g = go f 0 [] [] [] area₀ (sym (append-nil es)) refl in
      g.ran
      ∙ written no_row (rows f) area₀ g.area' room g.wrote.long
      (λ (i : ℕ) (b : i < length (rows f)).
      let k = locate one es (depth f) i (omega (arith, rows_high f)) in
      g.wrote.done k.0 i (omega (arith, sum_nil one k.0, k.1)) k.2)
      g.wrote.tail

-- the rows are written from the area's start, and what lies after them stays
pub rows_run : (f : Forest) → trees f ≡ 1 → (area : List KindRow) → length (rows f) ≤ length area
    → run 0 (starts one (walk 0 f)) (starts size (walk 0 f)) (tokens f) area ≡ rows f ++ drop (length (rows f)) area
unfolding after
rows_run f root area room = rw (append-nil (tokens f)) at (all_run f root area room)
